use Rattle.std.proofs.Common.{◌≡◌, take, map}
use Rattle.std.specs.Rc.{rc_value}
use Rattle.binlog_base.specs.ColumnLists.{listed_column}
use Rattle.binlog_base.proofs.below.columns.column_list.columns_of.Given as goal

abbrev pub invariant-loop-column : goal.invariant-loop-column
invariant-loop-column l = l.columns.items ≡ map (listed_column (rc_value l.names)) (take l.column-index l.listed)
