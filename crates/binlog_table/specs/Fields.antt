-- Optional metadata: its fields, and which of them are kept.
use Rattle.std.specs.Prelude.{◌≡◌, ℕ, ◌==◌, Bool, true, false, List, [], ◌∷◌, map, filter, count_by, Result, Ok, Err, Option, Some, None}
use Rattle.std.specs.List.{list_any}
use Rattle.std.specs.Option.{option_or}
use Rattle.binlog_base.specs.declared.fault.Fault.{Fault}
use Rattle.binlog_base.specs.declared.fault.Fault.TheVariants.{BytesRemaining, UnknownOptionalField}
use Rattle.binlog_base.specs.declared.below.columns.column_type.ColumnType.{ColumnType}
use Rattle.binlog_base.specs.declared.below.columns.server.Server.{Server}
use Rattle.binlog_base.specs.declared.bits.BitOrder.TheVariants.{MostSignificantFirst}
use Rattle.binlog_base.specs.Format.{◌>>=◌}
use Rattle.binlog_base.specs.Bits.{bit_list}
use Rattle.binlog_base.specs.Tables.{from_table}
use Rattle.binlog_base.specs.Items.{AreItems, items}
use Rattle.binlog_base.specs.ColumnTypes.{column_type_of}
use Rattle.binlog_base.specs.Servers.{numeric_group}
use Rattle.binlog_consts.specs.OptionalMetadata.{optional_metadata_field_types}
use Rattle.binlog_consts.specs.declared.consts.optional_metadata.OptionalMetadataFieldType.{OptionalMetadataFieldType}
use Rattle.binlog_consts.specs.declared.consts.optional_metadata.OptionalMetadataFieldType.TheVariants as kind
use Rattle.binlog_table.specs.declared.table_map.optional.fields.OptionalMetadataField.{OptionalMetadataField}
use Rattle.binlog_table.specs.declared.table_map.optional.fields.OptionalMetadataField.TheVariants as field
use Rattle.binlog_table.specs.Lists.{DefaultCharset, default_charset, RawField, raw_field, FieldsLeft}

-- the value, if all bytes were read; BytesRemaining if some are left
abbrev pub whole : {A : Type 0} → Result (A × List ℕ) Fault → Result A Fault
whole (Ok (a, [])) = Ok a
whole (Ok (a, b ∷ left)) = Err BytesRemaining
whole (Err e) = Err e

-- one bit for each of `count` columns, and nothing after them
abbrev pub bits_for : ℕ → List ℕ → Result (List Bool) Fault
bits_for count value = whole ((bit_list MostSignificantFirst count).parse value)

-- a default character set and the pairs after it, to the end of the value
abbrev pub default_charset_in : List ℕ → Result DefaultCharset Fault
default_charset_in value = default_charset.parse value >>= λ r. Ok r.0

-- The field of a kind with this value. The table has `numeric` numeric columns, and `columns` in all.
abbrev pub value_of : ℕ → ℕ → OptionalMetadataFieldType → List ℕ → Result OptionalMetadataField Fault
value_of numeric columns kind.SIGNEDNESS value = bits_for numeric value >>= λ bits. Ok (field.Signedness bits)
value_of numeric columns kind.DEFAULT_CHARSET value = default_charset_in value >>= λ d. Ok (field.DefaultCharset d)
value_of numeric columns kind.COLUMN_CHARSET value = Ok (field.ColumnCharset value)
value_of numeric columns kind.COLUMN_NAME value = Ok (field.ColumnName value)
value_of numeric columns kind.SET_STR_VALUE value = Ok (field.SetStrValue value)
value_of numeric columns kind.ENUM_STR_VALUE value = Ok (field.EnumStrValue value)
value_of numeric columns kind.GEOMETRY_TYPE value = Ok (field.GeometryType value)
value_of numeric columns kind.SIMPLE_PRIMARY_KEY value = Ok (field.SimplePrimaryKey value)
value_of numeric columns kind.PRIMARY_KEY_WITH_PREFIX value = Ok (field.PrimaryKeyWithPrefix value)
value_of numeric columns kind.ENUM_AND_SET_DEFAULT_CHARSET value = default_charset_in value >>= λ d. Ok (field.EnumAndSetDefaultCharset d)
value_of numeric columns kind.ENUM_AND_SET_COLUMN_CHARSET value = Ok (field.EnumAndSetColumnCharset value)
value_of numeric columns kind.COLUMN_VISIBILITY value = bits_for columns value >>= λ bits. Ok (field.ColumnVisibility bits)
value_of numeric columns kind.VECTOR_DIMENSIONALITY value = Ok (field.Dimensionality value)

-- The field that the type byte and the value make, likewise; UnknownOptionalField for a kind that
-- isn't known.
unfoldable pub field_of : ℕ → ℕ → RawField → Result OptionalMetadataField Fault
field_of numeric columns raw = from_table optional_metadata_field_types UnknownOptionalField raw.kind >>= λ k. value_of numeric columns k raw.value

-- whether a kind is known: the table of kinds has its number
unfoldable pub is_known_kind : ℕ → Bool
is_known_kind kind = list_any (λ row. kind == row.0) optional_metadata_field_types

-- Whether a raw field is an item: a whole field is one where its kind is known, whatever its value.
-- The fault of a field that is cut, or has a bad length, is an item, whatever the field's kind.
abbrev pub is_item : Result RawField Fault → Bool
is_item (Ok raw) = is_known_kind raw.kind
is_item (Err e) = true

-- The fields and faults, in order. A whole field of an unknown kind is skipped. A field that is cut
-- is the last item; a field of a known kind with a faulty value is a fault in its place.
abbrev pub fields : FieldsLeft → List (Result OptionalMetadataField Fault)
fields f = map (λ r. r >>= field_of f.numeric f.columns) (filter is_item (items raw_field f.left.bytes))

-- these are the fields and faults that the bytes hold
abbrev pub AreFields : FieldsLeft → List (Result OptionalMetadataField Fault) → Type 0
AreFields f found = (raw : List (Result RawField Fault)) × AreItems raw_field f.left.bytes raw × (found ≡ map (λ r. r >>= field_of f.numeric f.columns) (filter is_item raw))

-- ---- the fields that are kept

-- what the last field of a kind holds
abbrev pub last_of : {A : Type 0} → (OptionalMetadataField → Option A) → List OptionalMetadataField → Option A
last_of of_kind [] = None
last_of of_kind (f ∷ fs) = option_or (last_of of_kind fs) (of_kind f)

-- what a field holds, if it is of this kind; and so for the other kinds below
abbrev pub signs_in : OptionalMetadataField → Option (List Bool)
signs_in (field.Signedness bits) = Some bits
signs_in _ = None

abbrev pub default_in : OptionalMetadataField → Option DefaultCharset
default_in (field.DefaultCharset d) = Some d
default_in _ = None

abbrev pub charsets_in : OptionalMetadataField → Option (List ℕ)
charsets_in (field.ColumnCharset x) = Some x
charsets_in _ = None

abbrev pub names_in : OptionalMetadataField → Option (List ℕ)
names_in (field.ColumnName x) = Some x
names_in _ = None

abbrev pub simple_in : OptionalMetadataField → Option (List ℕ)
simple_in (field.SimplePrimaryKey x) = Some x
simple_in _ = None

abbrev pub prefixed_in : OptionalMetadataField → Option (List ℕ)
prefixed_in (field.PrimaryKeyWithPrefix x) = Some x
prefixed_in _ = None

abbrev pub enum_default_in : OptionalMetadataField → Option DefaultCharset
enum_default_in (field.EnumAndSetDefaultCharset d) = Some d
enum_default_in _ = None

abbrev pub enum_charsets_in : OptionalMetadataField → Option (List ℕ)
enum_charsets_in (field.EnumAndSetColumnCharset x) = Some x
enum_charsets_in _ = None

-- what the last field of each kind holds
pub record Kept : Type 0 where
  pub signs : Option (List Bool)
  pub default : Option DefaultCharset
  pub charsets : Option (List ℕ)
  pub names : Option (List ℕ)
  pub simple : Option (List ℕ)
  pub prefixed : Option (List ℕ)
  pub enum_default : Option DefaultCharset
  pub enum_charsets : Option (List ℕ)

-- what is kept of these fields
abbrev pub kept : List OptionalMetadataField → Kept
kept fs = record {
  signs = last_of signs_in fs;
  default = last_of default_in fs;
  charsets = last_of charsets_in fs;
  names = last_of names_in fs;
  simple = last_of simple_in fs;
  prefixed = last_of prefixed_in fs;
  enum_default = last_of enum_default_in fs;
  enum_charsets = last_of enum_charsets_in fs;
}

-- ---- the columns with a sign bit

-- whether a type is known, and in the group
abbrev pub in_group : (ColumnType → Bool) → Result ColumnType Fault → Bool
in_group group (Ok type) = group type
in_group group (Err e) = false

-- whether a type byte is the number of a type that is numeric to the server
unfoldable pub is_numeric_number : Server → ℕ → Bool
is_numeric_number server raw = in_group (numeric_group server) (column_type_of raw)

-- how many columns with these type bytes have a sign bit
abbrev pub numeric_count : Server → List ℕ → ℕ
numeric_count server types = count_by (is_numeric_number server) types
