use Rattle.std.proofs.Common.{ℕ, ◌≡◌, ◌+◌, ◌-◌, ◌≤◌, drop, length, None}
use Rattle.binlog_table.specs.TableColumns.{steps_then}
use Rattle.mysql_binlog_rows.specs.Workings.Plans.{planned_from}
use Rattle.mysql_binlog_rows.proofs.Plans.{after_planned}
use Rattle.mysql_binlog_rows.proofs.row.plan.plan_columns.Given as goal

abbrev pub invariant-loop-index : goal.invariant-loop-index
invariant-loop-index l = record {
  so_far : after_planned l.slots.items l.columns.columns l.index (planned_from l.table l.index l.walk.columns (drop l.index l.present)) ≡ planned_from l.table 0 l.fn.walk.columns l.present;
  schema : l.columns.schema ≡ l.table.database;
  table : l.columns.table ≡ l.table.table;
  no_fault : l.fault ≡ None;
  within : l.index ≤ length l.present;
  least : l.fn.walk.steps + l.index ≤ l.walk.steps;
  most : l.walk.most ≤ l.fn.walk.most + l.index;
  exact : (n : ℕ) → steps_then l.walk n ≡ steps_then l.fn.walk (l.index + n);
}

abbrev pub decreases-loop-index : goal.decreases-loop-index
decreases-loop-index l = length l.present - l.index
