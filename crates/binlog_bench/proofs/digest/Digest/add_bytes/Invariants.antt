use Rattle.std.proofs.Common.{length}
use Rattle.binlog_bench.proofs.digest.Digest.add_bytes.Given as goal

abbrev pub decreases-loop-left : goal.decreases-loop-left
decreases-loop-left l = length l.left
