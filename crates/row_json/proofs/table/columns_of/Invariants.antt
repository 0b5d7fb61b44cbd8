use Rattle.std.proofs.Common.{◌≡◌, ◌++◌, length, vec_len}
use Rattle.binlog_base.specs.Items.{before_fault}
use Rattle.row_json.specs.Columns.{columns_from}
use Rattle.row_json.proofs.table.columns_of.Given as goal

abbrev pub invariant-loop-column : goal.invariant-loop-column
invariant-loop-column l = columns_from 0 l.fn.names (before_fault l.fn.walk.columns) ≡ l.columns.items ++ columns_from (vec_len l.columns) l.names (before_fault l.walk.columns)

abbrev pub decreases-loop-column : goal.decreases-loop-column
decreases-loop-column l = length l.walk.columns
