use Rattle.std.proofs.Common.{◌≡◌, ◌++◌, drop}
use Rattle.binlog_base.specs.Servers.{character_group}
use Rattle.table_schema.specs.Completed.{charsets_value}
use Rattle.table_schema.proofs.complete.charsets_value.Given as goal

abbrev pub invariant-loop-column_type : goal.invariant-loop-column_type
invariant-loop-column_type l =
    l.value.items ++ charsets_value (character_group l.server) (drop l.column_type-index l.types) l.left
    ≡ charsets_value (character_group l.server) l.types l.columns
