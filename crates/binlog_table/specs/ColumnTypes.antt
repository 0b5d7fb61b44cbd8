-- The types of the columns of a table map event.
use Rattle.std.specs.Prelude.{ℕ, ◌==◌, if◌then◌else◌, bit_or, List, [], ◌∷◌, Result, Ok, Err, Option, Some, None, slice_get, count_by}
use Rattle.binlog_base.specs.declared.below.columns.column_type.ColumnType.{ColumnType}
use Rattle.binlog_base.specs.declared.below.columns.column_type.ColumnType.TheVariants as column
use Rattle.binlog_base.specs.declared.below.columns.column_type.UnknownColumnType.{UnknownColumnType}
use Rattle.binlog_base.specs.declared.fault.Fault.{Fault}
use Rattle.binlog_base.specs.declared.fault.Fault.TheVariants as fault
use Rattle.binlog_base.specs.Tables.{from_table}
use Rattle.binlog_base.specs.ColumnTypes.{column_types, column_number}
use Rattle.binlog_table.specs.declared.table_map.bad_column_type.BadColumnType.{BadColumnType}
use Rattle.binlog_table.specs.declared.table_map.bad_column_type.BadColumnType.TheVariants as bad
use Rattle.binlog_table.specs.Chunks.{chunk_at}

-- a result, as one that may be Ok(None)
abbrev pub some_of : {A E : Type 0} → Result A E → Result (Option A) E
some_of (Ok a) = Ok (Some a)
some_of (Err e) = Err e

-- The raw type of a column by its type byte: None where the table has no such column, and an error
-- where no type has that number.
abbrev pub raw_type_of : Option ℕ → Result (Option ColumnType) UnknownColumnType
raw_type_of None = Ok None
raw_type_of (Some n) = some_of (from_table column_types (λ k. record { 0 = k }) n)

-- the types that the metadata of a STRING column may give
abbrev pub string_types : List (ℕ × ColumnType)
string_types =
    (247, column.MYSQL_TYPE_ENUM)
    ∷ (248, column.MYSQL_TYPE_SET)
    ∷ (254, column.MYSQL_TYPE_STRING)
    ∷ []

-- The real type of a STRING column: STRING where it has no metadata or the first byte of its
-- metadata is 0, else the type whose number is that byte with the bits 30 (hexadecimal) set.
abbrev pub string_type : Option (List ℕ) → Result ColumnType BadColumnType
string_type None = Ok column.MYSQL_TYPE_STRING
string_type (Some []) = Ok column.MYSQL_TYPE_STRING
string_type (Some (first ∷ more)) = if first == 0 then Ok column.MYSQL_TYPE_STRING else from_table string_types bad.Unexpected (bit_or first 48)

-- the real type of a column from its raw type and its chunk of metadata
abbrev pub real_type : ColumnType → Option (List ℕ) → Result ColumnType BadColumnType
real_type column.MYSQL_TYPE_DATE chunk = Ok column.MYSQL_TYPE_NEWDATE
real_type column.MYSQL_TYPE_STRING chunk = string_type chunk
real_type raw_type chunk = Ok raw_type

-- the same from the result for the raw type, whose error is kept
abbrev pub real_type_of : Result (Option ColumnType) UnknownColumnType → Option (List ℕ) → Result (Option ColumnType) BadColumnType
real_type_of (Ok None) chunk = Ok None
real_type_of (Ok (Some raw_type)) chunk = some_of (real_type raw_type chunk)
real_type_of (Err e) chunk = Err (bad.Unknown e)

-- the real type of column i, where the columns have these type bytes and this metadata
abbrev pub column_type_at : List ℕ → List ℕ → ℕ → Result (Option ColumnType) BadColumnType
column_type_at types metadata i = real_type_of (raw_type_of (slice_get types i)) (chunk_at types metadata i)

-- how many columns have the type byte of JSON
abbrev pub json_count : List ℕ → ℕ
json_count types = count_by (λ n. n == column_number column.MYSQL_TYPE_JSON) types

-- the fault of a column without a type
abbrev pub fault_of : BadColumnType → Fault
fault_of (bad.Unknown e) = fault.UnknownColumnType e.0
fault_of (bad.Unexpected n) = fault.UnexpectedColumnType n
