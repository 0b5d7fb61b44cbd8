use Rattle.std.proofs.Common.{◌≡◌, ◌++◌, map}
use Rattle.binlog_base.specs.Items.{before_fault}
use Rattle.table_schema.specs.Completed.{types_of}
use Rattle.table_schema.proofs.complete.types_of.Given as goal

abbrev pub invariant-loop-column : goal.invariant-loop-column
invariant-loop-column l = l.types.items ++ map (λ c. c.column_type) (before_fault l.column-iterator.columns) ≡ types_of l.table
