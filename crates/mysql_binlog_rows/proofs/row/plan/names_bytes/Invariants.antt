use Rattle.std.proofs.Common.{◌≡◌, take}
use Rattle.mysql_binlog_rows.specs.Memory.{in_usize, names_bytes}
use Rattle.mysql_binlog_rows.proofs.row.plan.names_bytes.Given as goal

abbrev pub invariant-loop-column : goal.invariant-loop-column
invariant-loop-column l = l.bytes ≡ in_usize (names_bytes (take l.column-index l.columns))
