use Rattle.std.proofs.Common.{◌≡◌, ◌*◌, ◌/◌, length, take, replicate}
use Rattle.binlog_decimal.specs.DecimalGroups.{IsCut}
use Rattle.binlog_decimal.proofs.decimal.unpack.unpack_nines.Given as goal

-- the digits of the groups before this one are written
abbrev pub invariant-loop-group : goal.invariant-loop-group
invariant-loop-group l = record {
  end : l.group-end ≡ length l.bytes / 4;
  cut : IsCut (replicate l.group 9) (take (4 * l.group) l.bytes) (take (9 * l.group) l.digits);
}
