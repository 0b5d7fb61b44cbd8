use Rattle.std.proofs.Common.{◌≡◌, ◌++◌, drop}
use Rattle.std.specs.Option.{option_map}
use Rattle.table_schema.specs.Texts.{text_behind, text_of}
use Rattle.table_schema.proofs.texts.text_of.Given as goal

abbrev pub invariant-loop-byte : goal.invariant-loop-byte
invariant-loop-byte l = option_map (λ t. l.text.items ++ t) (text_behind l.is_behind (drop l.byte-index l.field)) ≡ text_of l.field
