-- The text of an opaque value.
use Rattle.std.specs.Prelude.{ℕ, List, [], ◌∷◌, ◌++◌}
use Rattle.std.specs.Fmt.{decimal}
use Rattle.base64.specs.Engines.{standard}
use Rattle.base64.specs.GeneralPurpose.{encode_of}
use Rattle.binlog_base.specs.ColumnTypes.{column_number}
use Rattle.binlog_values.specs.declared.jsonb.opaque.JsonOpaque.{JsonOpaque}

-- base64:type
abbrev pub type_prefix : List ℕ
type_prefix = 98 ∷ 97 ∷ 115 ∷ 101 ∷ 54 ∷ 52 ∷ 58 ∷ 116 ∷ 121 ∷ 112 ∷ 101 ∷ []

-- the prefix, the number of the column type, a colon, and the bytes in base64 with padding
abbrev pub opaque_text : JsonOpaque → List ℕ
opaque_text o = (type_prefix ++ decimal (column_number o.field_type) ++ 58 ∷ []) ++ encode_of standard o.value.items
