use Rattle.std.proofs.Common.{length}
use Rattle.json.specs.Print.{escape}
use Rattle.row_json.specs.LongLines.{characters}
use Rattle.change_lines.proofs.Beginnings.{WroteSoFar}
use Rattle.change_lines.proofs.output.write_text.Given as goal

abbrev pub invariant-loop-left : goal.invariant-loop-left
invariant-loop-left g l = WroteSoFar (g.O.Write.contents l.fn.out) (g.O.Write.contents l.out) (escape (characters l.text)) (escape (characters l.left))

abbrev pub decreases-loop-left : goal.decreases-loop-left
decreases-loop-left g l = length l.left.bytes.now
