use Rattle.std.proofs.Common.{◌≡◌, ◌++◌, map, drop}
use Rattle.binlog_base.specs.Servers.{numeric_group}
use Rattle.table_schema.specs.Completed.{among}
use Rattle.table_schema.proofs.complete.signs_of.Given as goal

abbrev pub invariant-loop-column_type : goal.invariant-loop-column_type
invariant-loop-column_type l =
    l.signs.items ++ map (λ c. c.unsigned) (among (numeric_group l.server) (drop l.column_type-index l.types) l.left)
    ≡ map (λ c. c.unsigned) (among (numeric_group l.server) l.types l.columns)
