use Rattle.std.proofs.Common.{◌≡◌, ◌++◌, take, map}
use Rattle.std.specs.List.{flat_map}
use Rattle.binlog_base.specs.Strings.{lenenc_string_bytes}
use Rattle.table_schema.proofs.fields.push_texts.Given as goal

abbrev pub invariant-loop-text : goal.invariant-loop-text
invariant-loop-text l = l.out.items ≡ l.initial.out.items ++ flat_map lenenc_string_bytes (map (λ t. t.items) (take l.text-index l.texts))
