use Rattle.std.proofs.Common.{map, drop, refl, arith}
use Rattle.binlog_base.specs.Servers.{numeric_group}
use Rattle.table_schema.proofs.Walked.{walked}
use Rattle.table_schema.proofs.complete.signs_of.Goals as goal

pub returns-in-empty : goal.returns-in-empty
returns-in-empty c = walked (map (λ c. c.unsigned)) (numeric_group c.args.server) (drop c.loop-column_type.column_type-index c.args.types.now) c.loop-column_type.left.now _ _ refl (omega arith) c.loop-column_type.invariant
