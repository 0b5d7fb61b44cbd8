use Rattle.std.proofs.Common.{drop, refl, arith}
use Rattle.std.specs.List.{flat_map}
use Rattle.table_schema.specs.Completed.{is_enum, values_bytes}
use Rattle.table_schema.proofs.Walked.{walked}
use Rattle.table_schema.proofs.complete.enums_value.Goals as goal

pub returns-in-empty : goal.returns-in-empty
returns-in-empty c = walked (flat_map values_bytes) (is_enum) (drop c.loop-column_type.column_type-index c.args.types.now) c.loop-column_type.left.now _ _ refl (omega arith) c.loop-column_type.invariant
