use Rattle.std.proofs.Common.{◌≡◌}
use Rattle.binlog_table.specs.Fields.{fields}
use Rattle.changed_rows.specs.Workings.Walked.{fields_in, fields_then}
use Rattle.changed_rows.proofs.lacks.fields_in.Given as goal

abbrev pub invariant-loop-field : goal.invariant-loop-field
invariant-loop-field l = fields_then l.fields (fields l.field-iterator) ≡ fields_in l.table
