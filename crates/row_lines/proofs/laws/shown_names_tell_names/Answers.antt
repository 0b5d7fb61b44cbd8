use Rattle.row_lines.specs.Names.{shown_name}
use Rattle.row_lines.proofs.ShownNames.{shown_tell}
use Rattle.row_lines.proofs.ShownText.{clean_shown_name, without_controls}
use Rattle.row_lines.proofs.laws.shown_names_tell_names.Goals as goal

pub returns-clause-tell : goal.returns-clause-tell
returns-clause-tell c = shown_tell

pub returns-clause-stay : goal.returns-clause-stay
returns-clause-stay c = λ name. without_controls (shown_name name) (clean_shown_name name)
