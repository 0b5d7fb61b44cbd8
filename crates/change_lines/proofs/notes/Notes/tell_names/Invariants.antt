use Rattle.std.specs.Prelude.{take}
use Rattle.change_lines.specs.Notes.{Tells, missing_text}
use Rattle.change_lines.proofs.notes.Notes.tell_names.Given as goal

abbrev pub invariant-loop-index : goal.invariant-loop-index
invariant-loop-index g l = Tells l.fn.self.is_lost (g.E.Write.contents l.fn.self.err) l.self.is_lost (g.E.Write.contents l.self.err) (missing_text (take l.index l.missing))
