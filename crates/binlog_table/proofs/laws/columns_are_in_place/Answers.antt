use Rattle.binlog_table.proofs.ColumnWalk.{table_column_in_place}
use Rattle.binlog_table.proofs.laws.columns_are_in_place.Goals as goal

pub returns : goal.returns
returns c = table_column_in_place
