-- Reading cells is exact: the bytes alone decide what is read or which fault comes.
use Rattle.std.specs.Prelude.{ℕ, Bool, false, List, [], ◌∷◌, ◌/◌, ◌&&◌, nat_lt, Result, Ok, Err}
use Rattle.std.proofs.Common.{refl}
use Rattle.binlog_base.specs.declared.fault.Fault.{Fault}
use Rattle.binlog_base.specs.declared.below.columns.column_type.ColumnType.{ColumnType}
use Rattle.binlog_base.specs.declared.below.columns.column_type.ColumnType.TheVariants as column
use Rattle.binlog_base.specs.declared.fault.Fault.TheVariants.{MissingMetadata, Unhandled, UnknownBlob, UnknownEnum, YearRange}
use Rattle.binlog_base.specs.Format.{Format, IsExact, take_bytes}
use Rattle.binlog_base.specs.Items.{repeated}
use Rattle.binlog_base.specs.Lemmas.Items.{exact_repeated}
use Rattle.binlog_base.specs.Lemmas.Format.{exact_take_bytes, exact_no_bytes, exact_refusal, exact_sequence, exact_inside, exact_map_value, exact_choice}
use Rattle.binlog_base.specs.Numbers.{little_endian, signed_little_endian}
use Rattle.binlog_base.specs.Lemmas.Numbers.{exact_little_endian, exact_signed_little_endian}
use Rattle.binlog_base.specs.ColumnTypes.{column_type_of}
use Rattle.binlog_base.specs.PackedTimes.{timestamp2, datetime2, time2}
use Rattle.binlog_base.specs.Lemmas.PackedTimes.{exact_timestamp2, exact_datetime2, exact_time2}
use Rattle.binlog_values.specs.PackedDecimals.{packed_decimal}
use Rattle.binlog_values.specs.Lemmas.PackedDecimals.{exact_packed_decimal}
use Rattle.binlog_values.specs.JsonbValues.{json}
use Rattle.binlog_values.specs.Lemmas.JsonbValues.{exact_json}
use Rattle.binlog_values.specs.JsonDiffs.{diff}
use Rattle.binlog_values.specs.Lemmas.JsonDiffs.{exact_diff, eats_diff}
use Rattle.binlog_cells.specs.Cells.{PlainCell, JsonCell, DiffsCell, integer, long_integer, float_bits, double_bits, timestamp_cell, time_cell, date_of_number, datetime_cell, year_cell, date_cell, timestamp2_cell, datetime2_cell, time2_cell, decimal_cell, fixed_bytes, text, text_cell, length_bytes, varchar_length, string_length, bit_bytes, blob_cell, variant_cell, enum_cell, json_cell, with_first, with_two, plain_cell, element_cell, inner_cell, cell}

pub exact_integer : (w : ℕ) (unsigned : Bool) → IsExact (integer w unsigned)
unfolding integer
exact_integer w unsigned = exact_choice unsigned _ _ (exact_map_value (little_endian w) _ (exact_little_endian w)) (exact_map_value (signed_little_endian w) _ (exact_signed_little_endian w))

pub exact_long_integer : (unsigned : Bool) → IsExact (long_integer unsigned)
unfolding long_integer
exact_long_integer unsigned = exact_choice unsigned _ _ (exact_map_value (little_endian 8) _ (exact_little_endian 8)) (exact_map_value (signed_little_endian 8) _ (exact_signed_little_endian 8))

pub exact_float_bits : IsExact float_bits
unfolding float_bits
exact_float_bits = exact_map_value (little_endian 4) _ (exact_little_endian 4)

pub exact_double_bits : IsExact double_bits
unfolding double_bits
exact_double_bits = exact_map_value (little_endian 8) _ (exact_little_endian 8)

pub exact_timestamp_cell : IsExact timestamp_cell
unfolding timestamp_cell
exact_timestamp_cell = exact_map_value (little_endian 4) _ (exact_little_endian 4)

pub exact_time_cell : IsExact time_cell
unfolding time_cell
exact_time_cell = exact_map_value (little_endian 3) _ (exact_little_endian 3)

exact_date_of_number : (n : ℕ) → IsExact (date_of_number n)
exact_date_of_number n = exact_choice (nat_lt (n / 10000000000) 65536) _ _ (exact_no_bytes _) (exact_refusal YearRange refl)

pub exact_datetime_cell : IsExact datetime_cell
unfolding datetime_cell
exact_datetime_cell = exact_sequence (little_endian 8) date_of_number (exact_little_endian 8) exact_date_of_number

pub exact_year_cell : IsExact year_cell
unfolding year_cell
exact_year_cell = exact_map_value (little_endian 1) _ (exact_little_endian 1)

pub exact_date_cell : IsExact date_cell
unfolding date_cell
exact_date_cell = exact_map_value (little_endian 3) _ (exact_little_endian 3)

pub exact_timestamp2_cell : (decimals : ℕ) → IsExact (timestamp2_cell decimals)
unfolding timestamp2_cell
exact_timestamp2_cell decimals = exact_map_value (timestamp2 decimals) _ (exact_timestamp2 decimals)

pub exact_datetime2_cell : (decimals : ℕ) → IsExact (datetime2_cell decimals)
unfolding datetime2_cell
exact_datetime2_cell decimals = exact_map_value (datetime2 decimals) _ (exact_datetime2 decimals)

pub exact_time2_cell : (decimals : ℕ) → IsExact (time2_cell decimals)
unfolding time2_cell
exact_time2_cell decimals = exact_map_value (time2 decimals) _ (exact_time2 decimals)

pub exact_decimal_cell : (precision scale : ℕ) → IsExact (decimal_cell precision scale)
unfolding decimal_cell
exact_decimal_cell precision scale = exact_map_value (packed_decimal precision scale false) _ (exact_packed_decimal precision scale false)

pub exact_fixed_bytes : (n : ℕ) → IsExact (fixed_bytes n)
unfolding fixed_bytes
exact_fixed_bytes n = exact_map_value (take_bytes n) _ (exact_take_bytes n)

exact_text : (w : ℕ) → IsExact (text w)
unfolding text
exact_text w = exact_sequence (little_endian w) take_bytes (exact_little_endian w) exact_take_bytes

pub exact_text_cell : (w : ℕ) → IsExact (text_cell w)
unfolding text_cell
exact_text_cell w = exact_map_value (text w) _ (exact_text w)

pub exact_variant_cell : (w : ℕ) → IsExact (variant_cell w)
unfolding variant_cell
exact_variant_cell w = exact_map_value (little_endian w) _ (exact_little_endian w)

pub exact_json_cell : (partial : Bool) → IsExact (json_cell partial)
unfolding json_cell
exact_json_cell partial =
    exact_sequence _ _ (exact_little_endian 4) (λ n.
    exact_choice partial _ _
    (exact_map_value _ DiffsCell (exact_inside n (repeated diff) (exact_repeated diff exact_diff eats_diff)))
    (exact_map_value _ JsonCell (exact_inside n json exact_json)))

exact_with_first : {A : Type 0} (metadata : List ℕ) (f : ℕ → Format A) → ((m0 : ℕ) → IsExact (f m0)) → IsExact (with_first metadata f)
exact_with_first [] f each = exact_refusal MissingMetadata refl
exact_with_first (m0 ∷ more) f each = each m0

exact_with_two : {A : Type 0} (metadata : List ℕ) (f : ℕ → ℕ → Format A) → ((m0 m1 : ℕ) → IsExact (f m0 m1)) → IsExact (with_two metadata f)
exact_with_two [] f each = exact_refusal MissingMetadata refl
exact_with_two (m0 ∷ []) f each = exact_refusal MissingMetadata refl
exact_with_two (m0 ∷ m1 ∷ more) f each = each m0 m1

exact_blob_cell : (m0 : ℕ) → IsExact (blob_cell m0)
exact_blob_cell m0 = exact_choice (nat_lt 0 m0 && nat_lt m0 5) _ _ (exact_text_cell m0) (exact_refusal UnknownBlob refl)

exact_enum_cell : (m1 : ℕ) → IsExact (enum_cell m1)
exact_enum_cell m1 = exact_choice (nat_lt 0 m1 && nat_lt m1 3) _ _ (exact_variant_cell m1) (exact_refusal UnknownEnum refl)

exact_plain_cell : (type : ColumnType) (metadata : List ℕ) (unsigned : Bool) → IsExact (plain_cell type metadata unsigned)
unfolding plain_cell
exact_plain_cell column.MYSQL_TYPE_TINY metadata unsigned = exact_integer 1 unsigned
exact_plain_cell column.MYSQL_TYPE_SHORT metadata unsigned = exact_integer 2 unsigned
exact_plain_cell column.MYSQL_TYPE_INT24 metadata unsigned = exact_integer 3 unsigned
exact_plain_cell column.MYSQL_TYPE_LONG metadata unsigned = exact_integer 4 unsigned
exact_plain_cell column.MYSQL_TYPE_LONGLONG metadata unsigned = exact_long_integer unsigned
exact_plain_cell column.MYSQL_TYPE_FLOAT metadata unsigned = exact_float_bits
exact_plain_cell column.MYSQL_TYPE_DOUBLE metadata unsigned = exact_double_bits
exact_plain_cell column.MYSQL_TYPE_TIMESTAMP metadata unsigned = exact_timestamp_cell
exact_plain_cell column.MYSQL_TYPE_TIME metadata unsigned = exact_time_cell
exact_plain_cell column.MYSQL_TYPE_DATETIME metadata unsigned = exact_datetime_cell
exact_plain_cell column.MYSQL_TYPE_YEAR metadata unsigned = exact_year_cell
exact_plain_cell column.MYSQL_TYPE_NEWDATE metadata unsigned = exact_date_cell
exact_plain_cell column.MYSQL_TYPE_TIMESTAMP2 metadata unsigned = exact_with_first metadata _ exact_timestamp2_cell
exact_plain_cell column.MYSQL_TYPE_DATETIME2 metadata unsigned = exact_with_first metadata _ exact_datetime2_cell
exact_plain_cell column.MYSQL_TYPE_TIME2 metadata unsigned = exact_with_first metadata _ exact_time2_cell
exact_plain_cell column.MYSQL_TYPE_NEWDECIMAL metadata unsigned = exact_with_two metadata _ exact_decimal_cell
exact_plain_cell column.MYSQL_TYPE_BIT metadata unsigned = exact_with_two metadata _ (λ m0 m1. exact_fixed_bytes (bit_bytes m0 m1))
exact_plain_cell column.MYSQL_TYPE_SET metadata unsigned = exact_with_two metadata _ (λ m0 m1. exact_fixed_bytes m1)
exact_plain_cell column.MYSQL_TYPE_ENUM metadata unsigned = exact_with_two metadata _ (λ m0 m1. exact_enum_cell m1)
exact_plain_cell column.MYSQL_TYPE_TINY_BLOB metadata unsigned = exact_with_first metadata _ exact_blob_cell
exact_plain_cell column.MYSQL_TYPE_MEDIUM_BLOB metadata unsigned = exact_with_first metadata _ exact_blob_cell
exact_plain_cell column.MYSQL_TYPE_LONG_BLOB metadata unsigned = exact_with_first metadata _ exact_blob_cell
exact_plain_cell column.MYSQL_TYPE_BLOB metadata unsigned = exact_with_first metadata _ exact_blob_cell
exact_plain_cell column.MYSQL_TYPE_GEOMETRY metadata unsigned = exact_with_first metadata _ exact_blob_cell
exact_plain_cell column.MYSQL_TYPE_VECTOR metadata unsigned = exact_with_first metadata _ exact_blob_cell
exact_plain_cell column.MYSQL_TYPE_VARCHAR metadata unsigned = exact_with_two metadata _ (λ m0 m1. exact_text_cell (length_bytes (varchar_length m0 m1)))
exact_plain_cell column.MYSQL_TYPE_VAR_STRING metadata unsigned = exact_with_two metadata _ (λ m0 m1. exact_text_cell (length_bytes (varchar_length m0 m1)))
exact_plain_cell column.MYSQL_TYPE_STRING metadata unsigned = exact_with_two metadata _ (λ m0 m1. exact_text_cell (length_bytes (string_length m0 m1)))
exact_plain_cell _ metadata unsigned = exact_refusal Unhandled refl

exact_element_cell : (type : ColumnType) (metadata : List ℕ) (unsigned partial : Bool) → IsExact (element_cell type metadata unsigned partial)
exact_element_cell column.MYSQL_TYPE_JSON metadata unsigned partial = exact_json_cell partial
exact_element_cell type metadata unsigned partial = exact_map_value (plain_cell type metadata unsigned) PlainCell (exact_plain_cell type metadata unsigned)

exact_inner_cell : (type : Result ColumnType Fault) (metadata : List ℕ) (unsigned partial : Bool) → IsExact (inner_cell type metadata unsigned partial)
exact_inner_cell (Ok type) metadata unsigned partial = exact_element_cell type metadata unsigned partial
exact_inner_cell (Err e) metadata unsigned partial = exact_refusal Unhandled refl

pub exact_cell : (type : ColumnType) (metadata : List ℕ) (unsigned partial : Bool) → IsExact (cell type metadata unsigned partial)
unfolding cell
exact_cell column.MYSQL_TYPE_TYPED_ARRAY metadata unsigned partial = exact_with_first metadata _ (λ m0. exact_inner_cell (column_type_of m0) metadata unsigned partial)
exact_cell type metadata unsigned partial = exact_element_cell type metadata unsigned partial
