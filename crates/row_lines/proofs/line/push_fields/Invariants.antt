use Rattle.std.proofs.Common.{◌≡◌, ◌++◌}
use Rattle.row_lines.specs.Lines.{Keeps, fields_text}
use Rattle.row_lines.proofs.line.push_fields.Given as goal

abbrev pub invariant-loop-index : goal.invariant-loop-index
invariant-loop-index l = (l.buf.items ≡ l.initial.buf.items ++ fields_text l.has_signs l.row l.index) × Keeps l.initial.buf.items l.buf.items
