use Rattle.row_json.specs.LongLines.{line_bytes}
use Rattle.change_lines.proofs.Beginnings.{WroteSoFar}
use Rattle.change_lines.proofs.Pieces.{left_from}
use Rattle.change_lines.proofs.output.write_long_line.Given as goal

abbrev pub invariant-loop-part : goal.invariant-loop-part
invariant-loop-part g l = WroteSoFar (g.O.Write.contents l.fn.out) (g.O.Write.contents l.out) (line_bytes l.line) (left_from l.part-index l.parts l.line.rest)
