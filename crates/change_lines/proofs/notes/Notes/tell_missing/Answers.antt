use Rattle.std.proofs.Common.{◌≡◌, true, false, []}
use Rattle.change_lines.proofs.Told.{tells_nothing}
use Rattle.change_lines.proofs.notes.Notes.tell_missing.Goals as goal

pub returns-in_default-clause-some : goal.returns-in_default-clause-some
returns-in_default-clause-some g c = ([], tells_nothing _ _)

pub returns-in-Ok-clause-some : goal.returns-in-Ok-clause-some
returns-in-Ok-clause-some g c = (_, c.tell_names.ensures)

pub returns-in-Err-clause-some : goal.returns-in-Err-clause-some
returns-in-Err-clause-some g c = ([], λ kept. absurd (let bad : true ≡ false = kept in cc))
