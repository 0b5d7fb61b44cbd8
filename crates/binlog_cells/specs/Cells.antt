-- The bytes of a cell in the rows data, by the column's type and metadata.
use Rattle.std.specs.Prelude.{ℕ, ◌+◌, ◌-◌, ◌*◌, ◌/◌, ◌%◌, ◌==◌, pos, Bool, false, List, [], ◌∷◌, nat_lt, ◌&&◌, if◌then◌else◌, Option, Some, Result, Ok, Err, ℤ, ◌++◌, length, replicate, codes, unsigned_abs}
use Rattle.std.specs.Int.{is_negative}
use Rattle.std.specs.Ordering.{int_eq}
use Rattle.std.specs.Fmt.{decimal, signed_decimal, sign_text}
use Rattle.binlog_base.specs.declared.below.columns.column_type.ColumnType.{ColumnType}
use Rattle.binlog_base.specs.declared.fault.Fault.{Fault}
use Rattle.binlog_base.specs.declared.below.columns.column_type.ColumnType.TheVariants as column
use Rattle.binlog_base.specs.declared.fault.Fault.TheVariants.{MissingMetadata, Unhandled, UnknownBlob, UnknownEnum, YearRange}
use Rattle.binlog_base.specs.Format.{Format, take_bytes, no_bytes, refusal, sequence, inside, map_value, choice}
use Rattle.binlog_base.specs.Items.{repeated}
use Rattle.binlog_base.specs.declared.below.columns.value.Value.{Value}
use Rattle.binlog_base.specs.Numbers.{little_endian, signed_little_endian}
use Rattle.binlog_base.specs.ColumnTypes.{column_type_of}
use Rattle.binlog_base.specs.Values.{PlainValue, Bytes, Int, UInt, Float, Double, Date, Time, plain_of}
use Rattle.binlog_base.specs.PackedTimes.{timestamp2, datetime2, time2, datetime_value, time_value}
use Rattle.binlog_values.specs.PackedDecimals.{packed_decimal}
use Rattle.binlog_values.specs.DecimalText.{decimal_text}
use Rattle.binlog_values.specs.JsonbValues.{JsonbValue, json}
use Rattle.binlog_values.specs.JsonbViews.{view_of}
use Rattle.binlog_values.specs.JsonDiffs.{Diff, diff}
use Rattle.binlog_cells.specs.declared.value.BinlogValue.{BinlogValue}
use Rattle.binlog_cells.specs.declared.value.BinlogValue.TheVariants as binlog
use Rattle.binlog_cells.specs.declared.value.BinlogValueToValueError.{BinlogValueToValueError}
use Rattle.binlog_cells.specs.declared.value.BinlogValueToValueError.TheVariants as not_plain

-- the value of a cell, whatever its place in memory: a plain value, a JSON document, or diffs of
-- one
pub data Cell : Type 0 where
  PlainCell : (value : PlainValue) → Cell
  JsonCell : (value : JsonbValue) → Cell
  DiffsCell : (diffs : List Diff) → Cell

-- the value, without its place in memory
abbrev pub cell_of : BinlogValue → Cell
cell_of (binlog.Value value) = PlainCell (plain_of value)
cell_of (binlog.Jsonb value) = JsonCell (view_of value)
cell_of (binlog.JsonDiff diffs) = DiffsCell diffs.items

-- the plain value of a cell, or why it has none
abbrev pub to_plain : Cell → Result PlainValue BinlogValueToValueError
to_plain (PlainCell value) = Ok value
to_plain (JsonCell value) = Err not_plain.ToJson
to_plain (DiffsCell diffs) = Err not_plain.JsonDiff

-- the result for a plain value, without its place in memory
abbrev pub plain_result : Result Value BinlogValueToValueError → Result PlainValue BinlogValueToValueError
plain_result (Ok value) = Ok (plain_of value)
plain_result (Err e) = Err e

abbrev pub int_value : ℕ → PlainValue
int_value n = Int (pos n)

-- ---- numbers

-- TINY, SHORT, INT24, LONG: a little-endian number of w bytes, signed or unsigned
unfoldable pub integer : ℕ → Bool → Format PlainValue
integer w unsigned = choice unsigned (map_value (little_endian w) int_value) (map_value (signed_little_endian w) Int)

-- LONGLONG: a little-endian number of eight bytes, signed or unsigned
unfoldable pub long_integer : Bool → Format PlainValue
long_integer unsigned = choice unsigned (map_value (little_endian 8) UInt) (map_value (signed_little_endian 8) Int)

-- FLOAT: the 32 bits of the number, in little-endian order
unfoldable pub float_bits : Format PlainValue
float_bits = map_value (little_endian 4) Float

-- DOUBLE: the 64 bits of the number, in little-endian order
unfoldable pub double_bits : Format PlainValue
double_bits = map_value (little_endian 8) Double

-- ---- times of the format before fractional seconds

-- TIMESTAMP: the seconds since 1970, as a little-endian number of four bytes
unfoldable pub timestamp_cell : Format PlainValue
timestamp_cell = map_value (little_endian 4) int_value

-- the time whose decimal digits HHMMSS form the number; each 24 hours are a day
abbrev pub time_of_digits : Bool → ℕ → PlainValue
time_of_digits is_negative n = Time is_negative (n / 10000 / 24) (n / 10000 % 24) (n / 100 % 100) (n % 100) 0

-- TIME: the decimal digits HHMMSS, as a little-endian number of three bytes, read without a sign
unfoldable pub time_cell : Format PlainValue
time_cell = map_value (little_endian 3) (time_of_digits false)

-- the date and time in this year whose decimal digits MMDDHHMMSS are the last ten of the number
abbrev pub date_of_digits : ℕ → ℕ → PlainValue
date_of_digits year n = Date year (n / 100000000 % 100) (n / 1000000 % 100) (n / 10000 % 100) (n / 100 % 100) (n % 100) 0

-- the date and time whose decimal digits YYYYMMDDHHMMSS form the number; YearRange if the year is
-- above 65535
abbrev pub date_of_number : ℕ → Format PlainValue
date_of_number n = choice (nat_lt (n / 10000000000) 65536) (no_bytes (date_of_digits (n / 10000000000) n)) (refusal YearRange)

-- DATETIME: the decimal digits YYYYMMDDHHMMSS, as a little-endian number of eight bytes
unfoldable pub datetime_cell : Format PlainValue
datetime_cell = sequence (little_endian 8) date_of_number

-- the year as text, by the years since 1900
abbrev pub year_text : ℕ → PlainValue
year_text n = Bytes (decimal (1900 + n))

-- YEAR: the years since 1900 in one byte
unfoldable pub year_cell : Format PlainValue
year_cell = map_value (little_endian 1) year_text

-- the date in the bits of a number: five bits for the day, four for the month, and the year
abbrev pub date_of_bits : ℕ → PlainValue
date_of_bits n = Date (n / 512) (n / 32 % 16) (n % 32) 0 0 0 0

-- NEWDATE: the bits of a date, as a little-endian number of three bytes
unfoldable pub date_cell : Format PlainValue
date_cell = map_value (little_endian 3) date_of_bits

-- ---- times with fractional seconds, of that many decimals

-- a number as at least so many characters, including the minus, padded with zeros after the minus
abbrev pub places_text : ℕ → ℤ → List ℕ
places_text places z = let sign = sign_text (is_negative z) in let digits = decimal (unsigned_abs z) in sign ++ (replicate (places - length digits - length sign) 48 ++ digits)

-- the seconds, then a point and the microseconds if these aren't 0
abbrev pub timestamp_text : ℤ × ℤ → List ℕ
timestamp_text t = if int_eq t.1 (pos 0) then signed_decimal t.0 else signed_decimal t.0 ++ (codes "." ++ places_text 6 t.1)

-- TIMESTAMP2: the value is the seconds since 1970 as text, with the fraction
unfoldable pub timestamp2_cell : ℕ → Format PlainValue
timestamp2_cell decimals = map_value (timestamp2 decimals) (λ t. Bytes (timestamp_text t))

-- DATETIME2: a packed DATETIME
unfoldable pub datetime2_cell : ℕ → Format PlainValue
datetime2_cell decimals = map_value (datetime2 decimals) datetime_value

-- TIME2: a packed TIME
unfoldable pub time2_cell : ℕ → Format PlainValue
time2_cell decimals = map_value (time2 decimals) time_value

-- ---- decimals

-- NEWDECIMAL: a packed decimal; the value is its text, without groups of zeros at the start
unfoldable pub decimal_cell : ℕ → ℕ → Format PlainValue
decimal_cell precision scale = map_value (packed_decimal precision scale false) (λ d. Bytes (decimal_text d))

-- ---- bytes

-- a cell of n bytes
unfoldable pub fixed_bytes : ℕ → Format PlainValue
fixed_bytes n = map_value (take_bytes n) Bytes

-- a little-endian length of w bytes, and then as many bytes as it says
unfoldable pub text : ℕ → Format (List ℕ)
text w = sequence (little_endian w) take_bytes

-- VARCHAR, VAR_STRING, STRING, the BLOB types, GEOMETRY, VECTOR: such bytes as a value
unfoldable pub text_cell : ℕ → Format PlainValue
text_cell w = map_value (text w) Bytes

-- in how many bytes the length of a cell is: one if the greatest length is below 256, else two
abbrev pub length_bytes : ℕ → ℕ
length_bytes most = if nat_lt most 256 then 1 else 2

-- VARCHAR and VAR_STRING: the greatest length, from the two bytes of metadata
abbrev pub varchar_length : ℕ → ℕ → ℕ
varchar_length m0 m1 = m0 + 256 * m1

-- STRING: the greatest length, from the two bytes of metadata. The low eight bits are m1. The two
-- bits above them are stored inverted in bits 4 and 5 of m0, the type's byte. If m0 is 0, the
-- length is m1 times 256.
abbrev pub string_length : ℕ → ℕ → ℕ
string_length m0 m1 = if m0 == 0 then m1 * 256 else (3 - m0 / 16 % 4) * 256 + m1

-- BIT: how many bytes m1 bytes and m0 further bits take
abbrev pub bit_bytes : ℕ → ℕ → ℕ
bit_bytes m0 m1 = (m1 * 8 + m0 + 7) / 8

-- the BLOB types, GEOMETRY, VECTOR: the length has m0 bytes, one to four; else UnknownBlob
abbrev pub blob_cell : ℕ → Format PlainValue
blob_cell m0 = choice (nat_lt 0 m0 && nat_lt m0 5) (text_cell m0) (refusal UnknownBlob)

-- the number of an ENUM value, as a little-endian number of w bytes
unfoldable pub variant_cell : ℕ → Format PlainValue
variant_cell w = map_value (little_endian w) int_value

-- ENUM: the number of the value has m1 bytes, one or two; else UnknownEnum
abbrev pub enum_cell : ℕ → Format PlainValue
enum_cell m1 = choice (nat_lt 0 m1 && nat_lt m1 3) (variant_cell m1) (refusal UnknownEnum)

-- ---- JSON

-- JSON: a length of four bytes, and in as many bytes a value of binary JSON; diffs up to the end,
-- if the cell is partial
unfoldable pub json_cell : Bool → Format Cell
json_cell partial =
    sequence (little_endian 4) (λ n.
    choice partial (map_value (inside n (repeated diff)) DiffsCell) (map_value (inside n json) JsonCell))

-- ---- the cells of a column

-- by the first byte of the metadata; MissingMetadata where there is none
abbrev pub with_first : {A : Type 0} → List ℕ → (ℕ → Format A) → Format A
with_first [] f = refusal MissingMetadata
with_first (m0 ∷ more) f = f m0

-- by the first two bytes of the metadata; MissingMetadata where there are fewer
abbrev pub with_two : {A : Type 0} → List ℕ → (ℕ → ℕ → Format A) → Format A
with_two [] f = refusal MissingMetadata
with_two (m0 ∷ []) f = refusal MissingMetadata
with_two (m0 ∷ m1 ∷ more) f = f m0 m1

-- The bytes of a plain value, by the type and metadata of its column and by whether numbers are
-- unsigned. All types that have no line here are Unhandled.
unfoldable pub plain_cell : ColumnType → List ℕ → Bool → Format PlainValue
plain_cell column.MYSQL_TYPE_TINY metadata unsigned = integer 1 unsigned
plain_cell column.MYSQL_TYPE_SHORT metadata unsigned = integer 2 unsigned
plain_cell column.MYSQL_TYPE_INT24 metadata unsigned = integer 3 unsigned
plain_cell column.MYSQL_TYPE_LONG metadata unsigned = integer 4 unsigned
plain_cell column.MYSQL_TYPE_LONGLONG metadata unsigned = long_integer unsigned
plain_cell column.MYSQL_TYPE_FLOAT metadata unsigned = float_bits
plain_cell column.MYSQL_TYPE_DOUBLE metadata unsigned = double_bits
plain_cell column.MYSQL_TYPE_TIMESTAMP metadata unsigned = timestamp_cell
plain_cell column.MYSQL_TYPE_TIME metadata unsigned = time_cell
plain_cell column.MYSQL_TYPE_DATETIME metadata unsigned = datetime_cell
plain_cell column.MYSQL_TYPE_YEAR metadata unsigned = year_cell
plain_cell column.MYSQL_TYPE_NEWDATE metadata unsigned = date_cell
plain_cell column.MYSQL_TYPE_TIMESTAMP2 metadata unsigned = with_first metadata timestamp2_cell
plain_cell column.MYSQL_TYPE_DATETIME2 metadata unsigned = with_first metadata datetime2_cell
plain_cell column.MYSQL_TYPE_TIME2 metadata unsigned = with_first metadata time2_cell
plain_cell column.MYSQL_TYPE_NEWDECIMAL metadata unsigned = with_two metadata decimal_cell
plain_cell column.MYSQL_TYPE_BIT metadata unsigned = with_two metadata (λ m0 m1. fixed_bytes (bit_bytes m0 m1))
plain_cell column.MYSQL_TYPE_SET metadata unsigned = with_two metadata (λ m0 m1. fixed_bytes m1)
plain_cell column.MYSQL_TYPE_ENUM metadata unsigned = with_two metadata (λ m0 m1. enum_cell m1)
plain_cell column.MYSQL_TYPE_TINY_BLOB metadata unsigned = with_first metadata blob_cell
plain_cell column.MYSQL_TYPE_MEDIUM_BLOB metadata unsigned = with_first metadata blob_cell
plain_cell column.MYSQL_TYPE_LONG_BLOB metadata unsigned = with_first metadata blob_cell
plain_cell column.MYSQL_TYPE_BLOB metadata unsigned = with_first metadata blob_cell
plain_cell column.MYSQL_TYPE_GEOMETRY metadata unsigned = with_first metadata blob_cell
plain_cell column.MYSQL_TYPE_VECTOR metadata unsigned = with_first metadata blob_cell
plain_cell column.MYSQL_TYPE_VARCHAR metadata unsigned = with_two metadata (λ m0 m1. text_cell (length_bytes (varchar_length m0 m1)))
plain_cell column.MYSQL_TYPE_VAR_STRING metadata unsigned = with_two metadata (λ m0 m1. text_cell (length_bytes (varchar_length m0 m1)))
plain_cell column.MYSQL_TYPE_STRING metadata unsigned = with_two metadata (λ m0 m1. text_cell (length_bytes (string_length m0 m1)))
plain_cell _ metadata unsigned = refusal Unhandled

-- the bytes of a cell of a column that isn't an array; only JSON cells can be partial
abbrev pub element_cell : ColumnType → List ℕ → Bool → Bool → Format Cell
element_cell column.MYSQL_TYPE_JSON metadata unsigned partial = json_cell partial
element_cell type metadata unsigned partial = map_value (plain_cell type metadata unsigned) PlainCell

-- a cell of an array of this type; Unhandled for a number that is no type's
abbrev pub inner_cell : Result ColumnType Fault → List ℕ → Bool → Bool → Format Cell
inner_cell (Ok type) metadata unsigned partial = element_cell type metadata unsigned partial
inner_cell (Err e) metadata unsigned partial = refusal Unhandled

-- The bytes of a cell of a column of this type and metadata, signed or unsigned, partial or not. A
-- TYPED_ARRAY has cells of the type that the first byte of its metadata names, which may not be
-- TYPED_ARRAY again, with all of the metadata.
unfoldable pub cell : ColumnType → List ℕ → Bool → Bool → Format Cell
cell column.MYSQL_TYPE_TYPED_ARRAY metadata unsigned partial = with_first metadata (λ m0. inner_cell (column_type_of m0) metadata unsigned partial)
cell type metadata unsigned partial = element_cell type metadata unsigned partial

-- these values, and then that of a cell
unfoldable pub one_more : List (Option Cell) → Format Cell → Format (List (Option Cell))
one_more values f = map_value f (λ v. values ++ Some v ∷ [])
