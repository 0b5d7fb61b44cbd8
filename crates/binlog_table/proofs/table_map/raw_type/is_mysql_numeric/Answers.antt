use Rattle.std.proofs.Common.{arith}
use Rattle.binlog_table.proofs.TypeTables.{mysql_numbers}
use Rattle.binlog_table.proofs.table_map.raw_type.is_mysql_numeric.Goals as goal

pub returns : goal.returns
returns c = mysql_numbers c.args.number (omega arith)
