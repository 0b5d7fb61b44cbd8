use Rattle.std.proofs.Common.{◌≡◌, ◌++◌, length}
use Rattle.hex.specs.Hex.{encode_lower}
use Rattle.row_lines.specs.Lines.{Keeps}
use Rattle.row_lines.proofs.bytes.push_hex.Given as goal

abbrev pub invariant-loop-left : goal.invariant-loop-left
invariant-loop-left l = (l.buf.items ++ encode_lower l.left ≡ l.initial.buf.items ++ encode_lower l.bytes) × Keeps l.initial.buf.items l.buf.items

abbrev pub decreases-loop-left : goal.decreases-loop-left
decreases-loop-left l = length l.left
