use Rattle.std.proofs.Common.{◌≡◌, ◌++◌, take}
use Rattle.std.specs.List.{flat_map}
use Rattle.binlog_base.specs.Strings.{lenenc_string_bytes}
use Rattle.table_schema.proofs.fields.push_names.Given as goal

abbrev pub invariant-loop-column : goal.invariant-loop-column
invariant-loop-column l = l.out.items ≡ l.initial.out.items ++ flat_map (λ c. lenenc_string_bytes c.name) (take l.column-index l.columns)
