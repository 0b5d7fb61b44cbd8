use Rattle.change_lines.proofs.Beginnings.{WroteSoFar}
use Rattle.change_lines.proofs.output.write_whole.Given as goal

abbrev pub invariant-loop : goal.invariant-loop
invariant-loop g l = WroteSoFar (g.O.Write.contents l.fn.out) (g.O.Write.contents l.out) l.bytes l.rest
