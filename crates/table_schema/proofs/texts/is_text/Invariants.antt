use Rattle.std.proofs.Common.{◌≡◌, drop, is_some}
use Rattle.table_schema.specs.Texts.{text_behind, text_of}
use Rattle.table_schema.proofs.texts.is_text.Given as goal

abbrev pub invariant-loop-byte : goal.invariant-loop-byte
invariant-loop-byte l = is_some (text_behind l.is_behind (drop l.byte-index l.field)) ≡ is_some (text_of l.field)
