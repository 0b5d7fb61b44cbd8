use Rattle.change_lines.proofs.Told.{tells_more}
use Rattle.change_lines.proofs.files.tell_last.Goals as goal

pub returns-then-matches : goal.returns-then-matches
returns-then-matches g c = (_, tells_more _ _ _ _ _ _ _ _ c.tell_tables.ensures.text c.tell_missing.ensures.some.1)
