use Rattle.std.proofs.Common.{◌≡◌}
use Rattle.binlog_table.specs.Fields.{fields}
use Rattle.table_schema.specs.Has.{has_of, fields_then}
use Rattle.table_schema.proofs.complete.has_of.Given as goal

abbrev pub invariant-loop-field : goal.invariant-loop-field
invariant-loop-field l = fields_then l.has (fields l.field-iterator) ≡ has_of l.table
