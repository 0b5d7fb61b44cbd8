use Rattle.std.proofs.Common.{◌≡◌, ◌++◌, drop}
use Rattle.table_schema.specs.Completed.{values_value, is_set}
use Rattle.table_schema.proofs.complete.sets_value.Given as goal

abbrev pub invariant-loop-column_type : goal.invariant-loop-column_type
invariant-loop-column_type l =
    l.value.items ++ values_value is_set (drop l.column_type-index l.types) l.left
    ≡ values_value is_set l.types l.columns
