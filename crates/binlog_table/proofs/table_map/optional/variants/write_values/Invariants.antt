use Rattle.std.proofs.Common.{◌≡◌, ◌++◌, take}
use Rattle.std.specs.List.{flat_map}
use Rattle.binlog_base.specs.Strings.{lenenc_string_bytes}
use Rattle.binlog_table.proofs.table_map.optional.variants.write_values.Given as goal

abbrev pub invariant-loop-value : goal.invariant-loop-value
invariant-loop-value l = l.buf.items ≡ l.initial.buf.items ++ flat_map lenenc_string_bytes (take l.value-index l.values)
