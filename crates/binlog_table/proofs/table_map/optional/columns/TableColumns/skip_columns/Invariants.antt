use Rattle.std.proofs.Common.{ℕ, ◌≡◌, ◌+◌, ◌-◌, ◌≤◌}
use Rattle.binlog_table.specs.TableColumns.{PassesOver, steps_then}
use Rattle.binlog_table.proofs.table_map.optional.columns.TableColumns.skip_columns.Given as goal

abbrev pub invariant-loop-passed : goal.invariant-loop-passed
invariant-loop-passed l = record {
  within : l.passed + l.most ≤ l.count;
  columns : PassesOver l.passed l.fn.self.columns l.self.columns;
  fault : l.self.fault ≡ l.fn.self.fault;
  steps : l.fn.self.steps + l.passed ≤ l.self.steps;
  most : l.self.most ≤ l.fn.self.most + l.passed;
  exact : (n : ℕ) → steps_then l.self n ≡ steps_then l.fn.self (l.passed + n);
}

abbrev pub decreases-loop-passed : goal.decreases-loop-passed
decreases-loop-passed l = l.count - l.passed
