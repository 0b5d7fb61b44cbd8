use Rattle.std.proofs.Common.{◌≡◌, ◌≤◌, ◌++◌, length, drop}
use Rattle.binlog_decimal.specs.DecimalGroups.{low_digits}
use Rattle.binlog_decimal.proofs.decimal.group.put_digits.Given as goal

-- the digits from `at` on are written, and those before it are the digits of what is left
abbrev pub invariant-loop-at : goal.invariant-loop-at
invariant-loop-at l = record {
  within : l.at ≤ length l.digits;
  digits : low_digits 10 (length l.initial.digits) l.number ≡ low_digits 10 l.at l.left ++ drop l.at l.digits;
}

abbrev pub decreases-loop-at : goal.decreases-loop-at
decreases-loop-at l = l.at
