use Rattle.row_lines.specs.Names.{quoted_name}
use Rattle.row_lines.proofs.ShownNames.{quoted_tell}
use Rattle.row_lines.proofs.ShownText.{clean_quoted_name, without_controls}
use Rattle.row_lines.proofs.laws.quoted_names_tell_names.Goals as goal

pub returns-clause-tell : goal.returns-clause-tell
returns-clause-tell c = quoted_tell

pub returns-clause-stay : goal.returns-clause-stay
returns-clause-stay c = λ name. without_controls (quoted_name name) (clean_quoted_name name)
