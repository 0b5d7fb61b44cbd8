-- Table map events that are completed by what is known from outside.
use Rattle.std.specs.Prelude.{◌≡◌, ℕ, ◌+◌, ◌/◌, ◌<◌, ◌^◌, ◌==◌, ◌&&◌, ◌||◌, not, Bool, true, false, List, [], ◌∷◌, ◌++◌, map, length, Option, Some, None, Result, Ok, if◌then◌else◌}
use Rattle.std.specs.List.{flat_map, AllByRecursion}
use Rattle.binlog_base.specs.declared.below.columns.column_type.ColumnType.{ColumnType}
use Rattle.binlog_base.specs.declared.below.columns.column_type.ColumnType.TheVariants as column
use Rattle.binlog_base.specs.declared.below.columns.server.Server.{Server}
use Rattle.binlog_base.specs.declared.fault.Fault.{Fault}
use Rattle.binlog_base.specs.Items.{before_fault, items}
use Rattle.binlog_base.specs.Numbers.{lenenc_bytes}
use Rattle.binlog_base.specs.Strings.{lenenc_string_bytes}
use Rattle.binlog_base.specs.Servers.{numeric_group, character_group, enum_or_set_group}
use Rattle.binlog_table.specs.declared.table_map.optional.fields.OptionalMetadataField.{OptionalMetadataField}
use Rattle.binlog_table.specs.declared.table_map.optional.fields.OptionalMetadataField.TheVariants as field
use Rattle.binlog_table.specs.TableMap.{TableMap}
use Rattle.binlog_table.specs.Fields.{fields, last_of}
use Rattle.binlog_table.specs.Extracted.{fields_of, list_or}
use Rattle.binlog_table.specs.Variants.{variants}
use Rattle.binlog_table.specs.TableColumns.{table_columns, sign_at, charset_at}
use Rattle.table_schema.specs.declared.complete.Has.{Has}
use Rattle.table_schema.specs.declared.complete.Completion.{Completion}
use Rattle.table_schema.specs.declared.complete.Completion.TheVariants as completion
use Rattle.table_schema.specs.Has.{has_of}
use Rattle.table_schema.specs.Schemas.{Column, Part, Table}
use Rattle.table_schema.specs.Fits.{fits}

-- ---- fields, as a server writes them

-- a field: its type byte, and its value after its length; none whose value is empty
abbrev pub field_bytes : ℕ → List ℕ → List ℕ
field_bytes kind [] = []
field_bytes kind (b ∷ bs) = kind ∷ lenenc_string_bytes (b ∷ bs)

-- Bits as bytes, the highest of each byte first. The next bit has this place, and the byte so far is this. The last
-- byte ends with zeros.
abbrev pub packed_from : ℕ → ℕ → List Bool → List ℕ
packed_from place byte [] = if place == 128 then [] else byte ∷ []
packed_from place byte (b ∷ bs) =
    if place == 1
    then (if b then byte + 1 else byte) ∷ packed_from 128 0 bs
    else packed_from (place / 2) (if b then byte + place else byte) bs

abbrev pub packed : List Bool → List ℕ
packed bits = packed_from 128 0 bits

-- the columns whose types are in a group
abbrev pub among : (ColumnType → Bool) → List ColumnType → List Column → List Column
among is [] cs = []
among is (t ∷ ts) [] = []
among is (t ∷ ts) (c ∷ cs) = if is t then c ∷ among is ts cs else among is ts cs

abbrev pub is_enum : ColumnType → Bool
is_enum column.MYSQL_TYPE_ENUM = true
is_enum _ = false

abbrev pub is_set : ColumnType → Bool
is_set column.MYSQL_TYPE_SET = true
is_set _ = false

-- the names of the values of a column, after their number
abbrev pub values_bytes : Column → List ℕ
values_bytes c = lenenc_bytes (length c.values) ++ flat_map lenenc_string_bytes c.values

-- a column of the key, and its prefix
abbrev pub part_bytes : Part → List ℕ
part_bytes p = lenenc_bytes p.column ++ lenenc_bytes p.prefix

-- the values of the fields of a table, by the types of the columns that have a part in each
abbrev pub signs_value : (ColumnType → Bool) → List ColumnType → List Column → List ℕ
signs_value is types cs = packed (map (λ c. c.unsigned) (among is types cs))

abbrev pub charsets_value : (ColumnType → Bool) → List ColumnType → List Column → List ℕ
charsets_value is types cs = flat_map (λ c. lenenc_bytes c.charset) (among is types cs)

abbrev pub names_value : List Column → List ℕ
names_value cs = flat_map (λ c. lenenc_string_bytes c.name) cs

abbrev pub values_value : (ColumnType → Bool) → List ColumnType → List Column → List ℕ
values_value is types cs = flat_map values_bytes (among is types cs)

abbrev pub key_value : List Part → List ℕ
key_value parts = flat_map part_bytes parts

-- ---- what an event lacks

-- nothing where the event has such fields itself
abbrev pub unless : Bool → List ℕ → List ℕ
unless true bytes = []
unless false bytes = bytes

-- the names of the values of SET and of ENUM columns, and their character set: utf8mb4
abbrev pub lacking_values : List Column → List ColumnType → List ℕ
lacking_values cs types =
    field_bytes 5 (values_value is_set types cs) ++ (field_bytes 6 (values_value is_enum types cs) ++ field_bytes 10 (lenenc_bytes 45))

-- the names of the columns, and what comes behind them
abbrev pub lacking_from_names : Table → Has → List ColumnType → List ℕ
lacking_from_names s has types =
    field_bytes 4 (names_value s.columns)
    ++ (unless has.values (lacking_values s.columns types) ++ unless has.key (field_bytes 9 (key_value s.key)))

-- The fields that an event of a server lacks whose columns have these types: signs, character sets, names, values and
-- the key, each as the table has it.
abbrev pub lacking : Table → Server → Has → List ColumnType → List ℕ
lacking s server has types =
    unless has.signs (field_bytes 1 (signs_value (numeric_group server) types s.columns))
    ++ (unless has.charsets (field_bytes 3 (charsets_value (character_group server) types s.columns))
    ++ lacking_from_names s has types)

-- ---- the same, as a reader of the event is told it

-- a field, unless its value has no bytes
abbrev pub made : (List ℕ → OptionalMetadataField) → List ℕ → List OptionalMetadataField
made make [] = []
made make (b ∷ bs) = make (b ∷ bs) ∷ []

abbrev pub told_unless : Bool → List OptionalMetadataField → List OptionalMetadataField
told_unless true told = []
told_unless false told = told

-- the names of values, and that their character set is utf8mb4
abbrev pub told_values : List Column → List ColumnType → List OptionalMetadataField
told_values cs types =
    made field.SetStrValue (values_value is_set types cs)
    ++ (made field.EnumStrValue (values_value is_enum types cs)
    ++ field.EnumAndSetDefaultCharset (record { default = 45; pairs = [] }) ∷ [])

abbrev pub told_from_names : Table → Has → List ColumnType → List OptionalMetadataField
told_from_names s has types =
    made field.ColumnName (names_value s.columns)
    ++ (told_unless has.values (told_values s.columns types)
    ++ told_unless has.key (made field.PrimaryKeyWithPrefix (key_value s.key)))

-- the signs of the numeric columns
abbrev pub signs_of : (ColumnType → Bool) → List ColumnType → List Column → List Bool
signs_of is types cs = map (λ c. c.unsigned) (among is types cs)

-- The fields that an event lacks: each that the event hasn't got, as the table has it.
abbrev pub told : Table → Server → Has → List ColumnType → List OptionalMetadataField
told s server has types =
    told_unless has.signs (made (λ _. field.Signedness (signs_of (numeric_group server) types s.columns)) (signs_value (numeric_group server) types s.columns))
    ++ (told_unless has.charsets (made field.ColumnCharset (charsets_value (character_group server) types s.columns))
    ++ told_from_names s has types)

-- the values of the fields are as long as memory holds them
pub record HeldFields (s : Table) (server : Server) (types : List ColumnType) : Type 0 where
  pub signs : length (signs_value (numeric_group server) types s.columns) < 256 ^ 8
  pub charsets : length (charsets_value (character_group server) types s.columns) < 256 ^ 8
  pub names : length (names_value s.columns) < 256 ^ 8
  pub sets : length (values_value is_set types s.columns) < 256 ^ 8
  pub enums : length (values_value is_enum types s.columns) < 256 ^ 8
  pub key : length (key_value s.key) < 256 ^ 8

-- ---- the event

-- the types of the columns of an event, up to the first with a fault
abbrev pub types_of : TableMap → List ColumnType
types_of t = map (λ c. c.column_type) (before_fault (table_columns t))

-- Whether more is asked of an event: it doesn't name its columns, and no field is faulty. (A field that is cut would
-- take what is added for its value.)
abbrev pub is_asked : TableMap → Bool
is_asked t = not ((has_of t).names || (has_of t).fault)

-- The event, completed by a table if it fits: what it lacks stands behind its optional metadata. Else it is as it was.
abbrev pub completed_by : Table → TableMap → TableMap
completed_by s t =
    if is_asked t && fits s t
    then record t { optional_metadata = t.optional_metadata ++ lacking s t.server (has_of t) (types_of t) }
    else t

-- the event with what a call gives it
abbrev pub with_metadata : Completion → TableMap → TableMap
with_metadata completion.NotAsked t = t
with_metadata completion.Misfit t = t
with_metadata (completion.Metadata bytes) t = record t { optional_metadata = bytes.items }

-- the event, completed by a table that may not be known
abbrev pub completed : Option Table → TableMap → TableMap
completed None t = t
completed (Some s) t = completed_by s t

-- an event without its optional metadata
abbrev pub without_optional : TableMap → TableMap
without_optional t = record t { optional_metadata = [] }

-- ---- what is told of a column

-- a column is as memory holds it
pub record HeldColumn (c : Column) : Type 0 where
  pub name : length c.name < 256 ^ 8
  pub charset : c.charset < 2 ^ 16
  pub count : length c.values < 256 ^ 8
  pub values : AllByRecursion (λ v. length v < 256 ^ 8) c.values

-- An event is completed by a table.
pub record IsCompletedBy (s : Table) (t : TableMap) : Type 0 where
  pub asked : is_asked t ≡ true
  pub fits : fits s t ≡ true
  pub columns : AllByRecursion HeldColumn s.columns
  pub fields : HeldFields s t.server (types_of t)

-- the sign of a column of this type: what the event says, or what is known; none but numbers have one
abbrev pub sign_told : TableMap → ℕ → ColumnType → Column → Bool
sign_told t i type c = if (has_of t).signs then sign_at t i else (numeric_group t.server type && c.unsigned)

-- The character set of a column of this type: what the event says, or what is known. Names of values are known in
-- utf8mb4, which is 45.
abbrev pub charset_told : TableMap → ℕ → ColumnType → Column → Result ℕ Fault
charset_told t i type c =
    if character_group t.server type then (if (has_of t).charsets then charset_at t i else Ok c.charset)
    else if enum_or_set_group t.server type then (if (has_of t).values then charset_at t i else Ok 45)
    else Ok 0

-- the names of the values of the columns of SET, and of those of ENUM, that the fields of an event have
abbrev pub sets_in : OptionalMetadataField → Option (List ℕ)
sets_in (field.SetStrValue x) = Some x
sets_in _ = None

abbrev pub enums_in : OptionalMetadataField → Option (List ℕ)
enums_in (field.EnumStrValue x) = Some x
enums_in _ = None

abbrev pub values_in : (OptionalMetadataField → Option (List ℕ)) → TableMap → List (Result (List (List ℕ)) Fault)
values_in of_kind t = items variants (list_or (last_of of_kind (before_fault (fields (fields_of t)))))
