-- The values of binary JSON, and the containers and their entries.
use Rattle.std.specs.Prelude.{◌≡◌, ℕ, ◌+◌, ◌*◌, ◌<◌, ◌≤◌, nat_lt, ◌||◌, if◌then◌else◌, ℤ, Bool, true, false, List, [], length, take, drop, slice_index, not, Option, Some, None, Result, Ok, Err, ◌⊎◌}
use Rattle.binlog_base.specs.declared.below.columns.column_type.ColumnType.{ColumnType}
use Rattle.binlog_base.specs.declared.fault.Fault.{Fault}
use Rattle.binlog_base.specs.declared.fault.Fault.TheVariants.{UnexpectedEof, Jsonb}
use Rattle.binlog_base.specs.declared.fault.JsonbError.TheVariants.{InvalidKeyOffsetPointer, InvalidValueOffsetPointer, SizeOverflow}
use Rattle.binlog_base.specs.Format.{Format, ◌>>=◌, check, sequence, map_value, within, all_left}
use Rattle.binlog_base.specs.Numbers.{little_endian, signed_little_endian}
use Rattle.binlog_base.specs.Strings.{varlen_string}
use Rattle.binlog_base.specs.ColumnTypes.{column_type_of}
use Rattle.binlog_values.specs.declared.jsonb.types.JsonbType.{JsonbType}
use Rattle.binlog_values.specs.declared.jsonb.types.JsonbType.TheVariants as type
use Rattle.binlog_values.specs.declared.jsonb.types.LiteralType.{LiteralType}
use Rattle.binlog_values.specs.declared.jsonb.types.LiteralType.TheVariants as literal
use Rattle.binlog_values.specs.JsonbTypes.{jsonb_type_of, literal_type_of, is_inlined}
use Rattle.binlog_values.specs.JsonbLayout.{number_at, offset_size, header_len, key_entry, value_entry}

-- ---- containers

-- a container: the count of its elements, and all of its bytes
pub record Frame : Type 0 where
  pub is_array : Bool
  pub is_large : Bool
  pub count : ℕ
  pub bytes : List ℕ

-- the container that these bytes are
abbrev pub frame : Bool → Bool → List ℕ → Frame
frame is_array is_large bytes = record {
  is_array = is_array;
  is_large = is_large;
  count = number_at (offset_size is_large) 0 bytes;
  bytes = bytes;
}

-- the size that a container has by its bytes; it counts all of them
abbrev pub size_in : Bool → List ℕ → ℕ
size_in is_large bytes = number_at (offset_size is_large) (offset_size is_large) bytes

-- a container that begins with these bytes has no room for its header, or more bytes than there are
abbrev pub size_is_bad : Bool → Bool → List ℕ → Bool
size_is_bad is_array is_large bytes = nat_lt (size_in is_large bytes) (header_len is_array is_large (number_at (offset_size is_large) 0 bytes)) || nat_lt (length bytes) (size_in is_large bytes)

-- A container: a count, its size, the key entries of an object and the value entries, and the
-- values; the size counts all of its bytes. UnexpectedEof where there are too few bytes for the
-- count and the size, and SizeOverflow where the size is below the header's or above the bytes that
-- are there.
unfoldable pub container : Bool → Bool → Format Frame
container is_array is_large = record {
  spells = λ x c. (c ≡ frame is_array is_large x) × (size_in is_large x ≡ length x) × (header_len is_array is_large c.count ≤ length x);
  refuses = λ x e.
      ((length x < 2 * offset_size is_large) × (e ≡ UnexpectedEof))
      ⊎ ((2 * offset_size is_large ≤ length x) × (size_is_bad is_array is_large x ≡ true) × (e ≡ Jsonb SizeOverflow));
  parse = λ x.
      if nat_lt (length x) (2 * offset_size is_large) then Err UnexpectedEof else
      (if size_is_bad is_array is_large x then Err (Jsonb SizeOverflow) else
      Ok (frame is_array is_large (take (size_in is_large x) x), drop (size_in is_large x) x));
}

-- ---- scalars and values

-- a value that isn't a container
pub data Scalar : Type 0 where
  Null : Scalar
  Boolean : (value : Bool) → Scalar
  I16 : (number : ℤ) → Scalar
  U16 : (number : ℕ) → Scalar
  I32 : (number : ℤ) → Scalar
  U32 : (number : ℕ) → Scalar
  I64 : (number : ℤ) → Scalar
  U64 : (number : ℕ) → Scalar
  F64 : (bits : ℕ) → Scalar
  Text : (bytes : List ℕ) → Scalar
  Opaque : (type : ColumnType) (bytes : List ℕ) → Scalar

-- what is read of a value, without what is inside it
pub data JsonbValue : Type 0 where
  scalar : (value : Scalar) → JsonbValue
  nested : (container : Frame) → JsonbValue

-- the scalar that a literal is
abbrev pub scalar_of : LiteralType → Scalar
scalar_of literal.JSONB_NULL_LITERAL = Null
scalar_of literal.JSONB_TRUE_LITERAL = Boolean true
scalar_of literal.JSONB_FALSE_LITERAL = Boolean false

-- a scalar, by the format of what it holds
abbrev pub a_scalar : {A : Type 0} → Format A → (A → Scalar) → Format JsonbValue
a_scalar f g = map_value f (λ a. scalar (g a))

-- a literal: one byte
abbrev pub literal_value : Format JsonbValue
literal_value = sequence (little_endian 1) (λ n. a_scalar (check (literal_type_of n)) scalar_of)

-- an opaque value: the number of a column type, and bytes with their VarLen length before them
abbrev pub opaque_value : Format JsonbValue
opaque_value = sequence (little_endian 1) (λ n. sequence (check (column_type_of n)) (λ type. a_scalar varlen_string (Opaque type)))

-- the value of a type: numbers are little-endian, and a string has its VarLen length before it
unfoldable pub value : JsonbType → Format JsonbValue
value type.JSONB_TYPE_SMALL_OBJECT = map_value (container false false) nested
value type.JSONB_TYPE_LARGE_OBJECT = map_value (container false true) nested
value type.JSONB_TYPE_SMALL_ARRAY = map_value (container true false) nested
value type.JSONB_TYPE_LARGE_ARRAY = map_value (container true true) nested
value type.JSONB_TYPE_LITERAL = literal_value
value type.JSONB_TYPE_INT16 = a_scalar (signed_little_endian 2) I16
value type.JSONB_TYPE_UINT16 = a_scalar (little_endian 2) U16
value type.JSONB_TYPE_INT32 = a_scalar (signed_little_endian 4) I32
value type.JSONB_TYPE_UINT32 = a_scalar (little_endian 4) U32
value type.JSONB_TYPE_INT64 = a_scalar (signed_little_endian 8) I64
value type.JSONB_TYPE_UINT64 = a_scalar (little_endian 8) U64
value type.JSONB_TYPE_DOUBLE = a_scalar (little_endian 8) F64
value type.JSONB_TYPE_STRING = a_scalar varlen_string Text
value type.JSONB_TYPE_OPAQUE = opaque_value

-- what kind of value it is, how many elements it has, and the column type of an opaque value
abbrev pub is_array : JsonbValue → Bool
is_array (scalar v) = false
is_array (nested c) = c.is_array

abbrev pub is_object : JsonbValue → Bool
is_object (scalar v) = false
is_object (nested c) = not c.is_array

abbrev pub is_int : JsonbValue → Bool
is_int (scalar (I16 n)) = true
is_int (scalar (I32 n)) = true
is_int (scalar (I64 n)) = true
is_int _ = false

abbrev pub is_uint : JsonbValue → Bool
is_uint (scalar (U16 n)) = true
is_uint (scalar (U32 n)) = true
is_uint (scalar (U64 n)) = true
is_uint _ = false

abbrev pub is_double : JsonbValue → Bool
is_double (scalar (F64 bits)) = true
is_double _ = false

abbrev pub count_in : JsonbValue → Option ℕ
count_in (scalar v) = None
count_in (nested c) = Some c.count

abbrev pub opaque_type : JsonbValue → Option ColumnType
opaque_type (scalar (Opaque type bytes)) = Some type
opaque_type _ = None

-- A value with its type: a type byte and its bytes, to the end; later bytes are ignored.
unfoldable pub typed_value : Format JsonbValue
typed_value =
    sequence (little_endian 1) (λ n.
    sequence (check (jsonb_type_of n)) (λ t.
    sequence (value t) (λ v. map_value all_left (λ later. v))))

-- a value of no bytes, or else one that the format spells, to the end
abbrev pub empty_or : {A : Type 0} → A → Format A → Format A
empty_or {A} a f = record {
  spells = λ x v. ((x ≡ []) × (v ≡ a)) ⊎ ((0 < length x) × f.spells x v);
  refuses = λ x e. (0 < length x) × f.refuses x e;
  parse = λ x. if nat_lt 0 (length x) then f.parse x else Ok (a, x);
}

-- a value of binary JSON by itself: no bytes are the literal null
unfoldable pub json : Format JsonbValue
json = empty_or (scalar Null) typed_value

-- ---- the entries of a container

-- a type, and bytes that begin with a value of that type
pub record Typed : Type 0 where
  pub type : JsonbType
  pub bytes : List ℕ

-- The bytes of an entry's value: the entry's own, for an inlined type; else those from its offset
-- to the container's end. The offset is at or after the end of the entry, and at most the
-- container's length.
abbrev pub bytes_of : Frame → ℕ → JsonbType → Result Typed Fault
bytes_of c at type =
    let width = offset_size c.is_large in
    let offset = number_at width (at + 1) c.bytes in
    if is_inlined c.is_large type then Ok (record { type = type; bytes = take width (drop (at + 1) c.bytes) }) else
    (if nat_lt offset (at + 1 + width) || nat_lt (length c.bytes) offset then Err (Jsonb InvalidValueOffsetPointer) else
    Ok (record { type = type; bytes = drop offset c.bytes }))

-- the type of element i and the bytes of its value; or the fault of the type or of the offset
unfoldable pub typed_at : Frame → ℕ → Result Typed Fault
typed_at c i =
    let at = value_entry c.is_array c.is_large c.count i in
    jsonb_type_of (slice_index c.bytes at) >>= bytes_of c at

-- element i: the fault of its type, else that of its offset, else that of the value there
unfoldable pub element : Frame → ℕ → Format JsonbValue
element c i = sequence (check (typed_at c i)) (λ t. within t.bytes (value t.type))

-- the same as a result: an element takes no bytes of its own
abbrev pub element_at : Frame → ℕ → Result JsonbValue Fault
element_at c i = (element c i).parse [] >>= λ r. Ok r.0

-- The key of entry i of an object. Its offset is at least the header's length, and offset and
-- length together are at most the container's length.
unfoldable pub key_at : Frame → ℕ → Result (List ℕ) Fault
key_at c i =
    let at = key_entry c.is_large i in
    let width = offset_size c.is_large in
    let offset = number_at width at c.bytes in
    let len = number_at 2 (at + width) c.bytes in
    if nat_lt offset (header_len c.is_array c.is_large c.count) || nat_lt (length c.bytes) (offset + len) then Err (Jsonb InvalidKeyOffsetPointer) else
    Ok (take len (drop offset c.bytes))
