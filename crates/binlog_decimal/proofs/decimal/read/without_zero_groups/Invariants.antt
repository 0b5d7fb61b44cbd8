use Rattle.std.proofs.Common.{◌≡◌, ◌*◌, ◌/◌, length, replicate}
use Rattle.binlog_decimal.specs.Decimals.{integer_groups, without_zero_groups}
use Rattle.binlog_decimal.proofs.decimal.read.without_zero_groups.Given as goal

abbrev pub invariant-loop-left : goal.invariant-loop-left
invariant-loop-left l = record {
  whole : 9 * (length l.left / 9) ≡ length l.left;
  same : without_zero_groups (replicate (length l.left / 9) 9) l.left ≡ without_zero_groups (integer_groups (length l.digits)) l.digits;
}

abbrev pub decreases-loop-left : goal.decreases-loop-left
decreases-loop-left l = length l.left
