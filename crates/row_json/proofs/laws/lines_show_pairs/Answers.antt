use Rattle.row_json.proofs.Shown.Pairs.{pairs_show, lines_show, lines_tell}
use Rattle.row_json.proofs.laws.lines_show_pairs.Goals as goal

pub returns-clause-pairs : goal.returns-clause-pairs
returns-clause-pairs c = pairs_show

pub returns-clause-lines : goal.returns-clause-lines
returns-clause-lines c = lines_show

pub returns-clause-members : goal.returns-clause-members
returns-clause-members c = lines_tell
