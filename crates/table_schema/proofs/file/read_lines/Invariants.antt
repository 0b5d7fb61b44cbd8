use Rattle.std.proofs.Common.{◌≤◌, ◌+◌, length}
use Rattle.std.specs.Prelude.{None}
use Rattle.table_schema.specs.Texts.{pieces}
use Rattle.table_schema.specs.Files.{lines_from}
use Rattle.table_schema.proofs.Read.{EndsAs}
use Rattle.table_schema.proofs.file.read_lines.Given as goal

abbrev pub invariant-loop-bytes : goal.invariant-loop-bytes
invariant-loop-bytes l = record {
  ends : EndsAs (lines_from l.number l.before (pieces 10 l.left)) (lines_from 2 None (pieces 10 l.text));
  fits : l.number + length l.left ≤ length l.text + 2;
}

abbrev pub decreases-loop-bytes : goal.decreases-loop-bytes
decreases-loop-bytes l = length l.left
