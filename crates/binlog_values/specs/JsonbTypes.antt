-- The types of binary JSON.
use Rattle.std.specs.Prelude.{ℕ, Bool, true, false, List, [], ◌∷◌, Result}
use Rattle.binlog_base.specs.declared.fault.Fault.{Fault}
use Rattle.binlog_base.specs.declared.fault.Fault.TheVariants.{UnknownJsonbType, UnknownLiteralType}
use Rattle.binlog_base.specs.Tables.{from_table}
use Rattle.binlog_values.specs.declared.jsonb.types.JsonbType.{JsonbType}
use Rattle.binlog_values.specs.declared.jsonb.types.JsonbType.TheVariants as type
use Rattle.binlog_values.specs.declared.jsonb.types.LiteralType.{LiteralType}
use Rattle.binlog_values.specs.declared.jsonb.types.LiteralType.TheVariants as literal

-- the types by their numbers
abbrev pub jsonb_types : List (ℕ × JsonbType)
jsonb_types =
    (0, type.JSONB_TYPE_SMALL_OBJECT)
    ∷ (1, type.JSONB_TYPE_LARGE_OBJECT)
    ∷ (2, type.JSONB_TYPE_SMALL_ARRAY)
    ∷ (3, type.JSONB_TYPE_LARGE_ARRAY)
    ∷ (4, type.JSONB_TYPE_LITERAL)
    ∷ (5, type.JSONB_TYPE_INT16)
    ∷ (6, type.JSONB_TYPE_UINT16)
    ∷ (7, type.JSONB_TYPE_INT32)
    ∷ (8, type.JSONB_TYPE_UINT32)
    ∷ (9, type.JSONB_TYPE_INT64)
    ∷ (10, type.JSONB_TYPE_UINT64)
    ∷ (11, type.JSONB_TYPE_DOUBLE)
    ∷ (12, type.JSONB_TYPE_STRING)
    ∷ (15, type.JSONB_TYPE_OPAQUE)
    ∷ []

-- the literals by their numbers
abbrev pub literal_types : List (ℕ × LiteralType)
literal_types =
    (0, literal.JSONB_NULL_LITERAL)
    ∷ (1, literal.JSONB_TRUE_LITERAL)
    ∷ (2, literal.JSONB_FALSE_LITERAL)
    ∷ []

-- the type of a number, or UnknownJsonbType
abbrev pub jsonb_type_of : ℕ → Result JsonbType Fault
jsonb_type_of n = from_table jsonb_types UnknownJsonbType n

-- the literal of a number, or UnknownLiteralType
abbrev pub literal_type_of : ℕ → Result LiteralType Fault
literal_type_of n = from_table literal_types UnknownLiteralType n

-- whether an entry holds a value of this type itself, in place of an offset to it
abbrev pub is_inlined : Bool → JsonbType → Bool
is_inlined is_large type.JSONB_TYPE_LITERAL = true
is_inlined is_large type.JSONB_TYPE_INT16 = true
is_inlined is_large type.JSONB_TYPE_UINT16 = true
is_inlined is_large type.JSONB_TYPE_INT32 = is_large
is_inlined is_large type.JSONB_TYPE_UINT32 = is_large
is_inlined is_large _ = false
