-- The lists inside the fields of optional metadata.
use Rattle.std.specs.Prelude.{ℕ, ◌+◌, ◌≤◌, ◌%◌, ◌^◌, min, List, length, Result, map, Option, Some, None}
use Rattle.binlog_base.specs.declared.fault.Fault.{Fault}
use Rattle.binlog_base.specs.declared.below.columns.geometry.GeometryType.{GeometryType}
use Rattle.binlog_base.specs.Format.{Format, sequence, map_value, all_left, ◌>>=◌}
use Rattle.binlog_base.specs.Items.{items}
use Rattle.binlog_base.specs.ColumnTypes.{geometry_type_of}
use Rattle.binlog_base.specs.Numbers.{little_endian, lenenc}
use Rattle.binlog_base.specs.Strings.{lenenc_string}

-- what is left of a list, and how many items were taken of it
pub record ListLeft : Type 0 where
  pub bytes : List ℕ
  pub taken : ℕ

-- a call took items of the bytes that were left, each of at least one byte
pub record Spends (old_taken old_room new_taken new_room : ℕ) : Type 0 where
  pub more : old_taken ≤ new_taken
  pub bounded : new_taken + new_room ≤ old_taken + old_room

-- 1 for an item, 0 for none
abbrev pub count_of : {A : Type 0} → Option A → ℕ
count_of None = 0
count_of (Some x) = 1

-- how many items are taken of a list once n more were asked for
abbrev pub taken_after : {A : Type 0} → Format A → ListLeft → ℕ → ℕ
taken_after f l n = l.taken + min (length (items f l.bytes)) n

-- a number of which the low bits are kept
unfoldable pub low_bits : ℕ → Format ℕ
low_bits bits = map_value lenenc (λ n. n % 2 ^ bits)

-- a column's index and a number
unfoldable pub pair_with : Format ℕ → Format (ℕ × ℕ)
pair_with second = sequence lenenc (λ index. map_value second (λ n. (index, n)))

-- the types of the geometry columns: a number that is no type's is a fault in its place
abbrev pub geometry_types : List ℕ → List (Result GeometryType Fault)
geometry_types bytes = map (λ r. r >>= geometry_type_of) (items (low_bits 8) bytes)

-- a field before its value is read: its type byte and its value
pub record RawField : Type 0 where
  pub kind : ℕ
  pub value : List ℕ

-- a type byte, a length, and a value of that length
unfoldable pub raw_field : Format RawField
raw_field = sequence (little_endian 1) (λ kind. map_value lenenc_string (λ value. record {
  kind = kind;
  value = value;
}))

-- the fields that are left, for a table with `numeric` numeric columns and `columns` columns in all
pub record FieldsLeft : Type 0 where
  pub numeric : ℕ
  pub columns : ℕ
  pub left : ListLeft

-- the default character set of a group, and the bytes of the pairs of columns with another
pub record DefaultCharset : Type 0 where
  pub default : ℕ
  pub pairs : List ℕ

-- a number, of which the low 16 bits are kept, and then pairs to the end of the bytes
unfoldable pub default_charset : Format DefaultCharset
default_charset = sequence (low_bits 16) (λ default. map_value all_left (λ pairs. record {
  default = default;
  pairs = pairs;
}))
