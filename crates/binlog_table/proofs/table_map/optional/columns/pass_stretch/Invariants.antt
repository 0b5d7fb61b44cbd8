use Rattle.std.proofs.Common.{◌≡◌, ◌+◌, ◌-◌, ◌≤◌, length}
use Rattle.binlog_table.specs.TableColumns.{PassesOver}
use Rattle.binlog_table.specs.Workings.ColumnsLeft.{columns_left, walk_at}
use Rattle.binlog_table.proofs.table_map.optional.columns.pass_stretch.Given as goal

abbrev pub invariant-loop-passed : goal.invariant-loop-passed
invariant-loop-passed l = record {
  within : l.passed ≤ l.most;
  columns : PassesOver l.passed (columns_left l.fn.walk) (columns_left (walk_at l.fn.walk l.passed l.stretch l.walk.signs));
  walk : l.walk ≡ record l.fn.walk { signs = l.walk.signs };
  types : length l.fn.walk.types.now ≡ length l.stretch.types.now + l.passed;
  json_place : l.stretch.json_place ≤ l.fn.walk.json_place + l.passed;
}

abbrev pub decreases-loop-passed : goal.decreases-loop-passed
decreases-loop-passed l = l.most - l.passed
