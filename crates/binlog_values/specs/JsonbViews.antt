-- A value as contracts see it.
use Rattle.binlog_values.specs.declared.jsonb.value.Value.{Value}
use Rattle.binlog_values.specs.declared.jsonb.value.Value.TheVariants as jsonb
use Rattle.binlog_values.specs.JsonbValues.{JsonbValue, scalar, nested, Null, Boolean, I16, U16, I32, U32, I64, U64, F64, Text, Opaque}

-- the value, without its place in memory
abbrev pub view_of : Value → JsonbValue
view_of jsonb.Null = scalar Null
view_of (jsonb.Bool b) = scalar (Boolean b)
view_of (jsonb.I16 n) = scalar (I16 n)
view_of (jsonb.U16 n) = scalar (U16 n)
view_of (jsonb.I32 n) = scalar (I32 n)
view_of (jsonb.U32 n) = scalar (U32 n)
view_of (jsonb.I64 n) = scalar (I64 n)
view_of (jsonb.U64 n) = scalar (U64 n)
view_of (jsonb.F64 bits) = scalar (F64 bits)
view_of (jsonb.String text) = scalar (Text text)
view_of (jsonb.Opaque v) = scalar (Opaque v.value_type v.data)
view_of (jsonb.SmallArray c) = nested c
view_of (jsonb.LargeArray c) = nested c
view_of (jsonb.SmallObject c) = nested c
view_of (jsonb.LargeObject c) = nested c
