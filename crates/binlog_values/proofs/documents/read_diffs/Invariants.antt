use Rattle.std.proofs.Common.{◌≡◌, length}
use Rattle.binlog_base.specs.Items.{repeated}
use Rattle.binlog_base.specs.Lemmas.Items.{values_then}
use Rattle.binlog_values.specs.JsonDiffs.{diff}
use Rattle.binlog_values.proofs.documents.read_diffs.Given as goal

abbrev pub invariant-loop-buf : goal.invariant-loop-buf
invariant-loop-buf l = values_then l.diffs.items ((repeated diff).parse l.buf.0.now) ≡ (repeated diff).parse l.fn.bytes

abbrev pub decreases-loop-buf : goal.decreases-loop-buf
decreases-loop-buf l = length l.buf.0.now
