use Rattle.std.proofs.Common.{drop, refl, arith}
use Rattle.std.specs.List.{flat_map}
use Rattle.binlog_base.specs.Servers.{character_group}
use Rattle.binlog_base.specs.Numbers.{lenenc_bytes}
use Rattle.table_schema.proofs.Walked.{walked}
use Rattle.table_schema.proofs.complete.charsets_value.Goals as goal

pub returns-in-empty : goal.returns-in-empty
returns-in-empty c = walked (flat_map (λ c. lenenc_bytes c.charset)) (character_group c.args.server) (drop c.loop-column_type.column_type-index c.args.types.now) c.loop-column_type.left.now _ _ refl (omega arith) c.loop-column_type.invariant
