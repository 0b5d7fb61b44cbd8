use Rattle.std.proofs.Common.{arith}
use Rattle.binlog_table.proofs.TypeTables.{mariadb_numbers}
use Rattle.binlog_table.proofs.table_map.raw_type.is_mariadb_numeric.Goals as goal

pub returns : goal.returns
returns c = mariadb_numbers c.args.number (omega arith)
