use Rattle.std.proofs.Common.{◌≡◌, take}
use Rattle.binlog_base.specs.declared.below.columns.server.Server.TheVariants.{MariaDb}
use Rattle.binlog_table.specs.Fields.{numeric_count}
use Rattle.binlog_table.proofs.table_map.raw_type.mariadb_count.Given as goal

abbrev pub invariant-loop-number : goal.invariant-loop-number
invariant-loop-number l = l.count ≡ numeric_count MariaDb (take l.number-index l.types)
