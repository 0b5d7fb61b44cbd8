use Rattle.std.proofs.Common.{◌≡◌, take}
use Rattle.binlog_base.specs.declared.below.columns.server.Server.TheVariants.{MySql}
use Rattle.binlog_table.specs.Fields.{numeric_count}
use Rattle.binlog_table.proofs.table_map.raw_type.mysql_count.Given as goal

abbrev pub invariant-loop-number : goal.invariant-loop-number
invariant-loop-number l = l.count ≡ numeric_count MySql (take l.number-index l.types)
