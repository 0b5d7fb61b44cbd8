-- Whether a table that is known is the one that a table map event describes.
use Rattle.std.specs.Prelude.{ℕ, ◌+◌, ◌-◌, ◌*◌, ◌/◌, ◌%◌, nat_lt, ◌==◌, ◌&&◌, ◌||◌, Bool, true, false, List, [], ◌∷◌, length, slice_index, Result, Ok, Err, unwrap_or, not, if◌then◌else◌}
use Rattle.binlog_base.specs.declared.fault.Fault.{Fault}
use Rattle.binlog_base.specs.declared.bits.BitOrder.TheVariants.{LeastSignificantFirst}
use Rattle.binlog_base.specs.declared.below.columns.column_type.ColumnType.{ColumnType}
use Rattle.binlog_base.specs.declared.below.columns.column_type.ColumnType.TheVariants as column
use Rattle.binlog_base.specs.declared.below.columns.server.Server.{Server}
use Rattle.binlog_base.specs.Bits.{bits_of}
use Rattle.binlog_base.specs.Servers.{numeric_group}
use Rattle.binlog_table.specs.TableMap.{TableMap}
use Rattle.binlog_table.specs.TableColumns.{table_columns}
use Rattle.binlog_table.specs.TableColumns as table
use Rattle.table_schema.specs.declared.types.SchemaType.{SchemaType}
use Rattle.table_schema.specs.declared.types.SchemaType.TheVariants as kind
use Rattle.table_schema.specs.Has.{has_of}
use Rattle.table_schema.specs.Schemas.{Column, Table}

-- The most bytes that a CHAR has, by its two bytes of metadata: of the ten bits of the number the highest two are
-- those of the first byte with the places 16 and 32, which are turned.
abbrev pub char_len : ℕ → ℕ → ℕ
char_len first second = 256 * (3 - first / 16 % 4) + second

-- how many bytes hold the number of a value of an ENUM of so many, or the bits of a SET
abbrev pub enum_width : ℕ → ℕ
enum_width n = if nat_lt n 256 then 1 else 2

abbrev pub set_width : ℕ → ℕ
set_width n = if nat_lt 4 ((n + 7) / 8) then 8 else (n + 7) / 8

-- Whether a column of a type may have this real type and this metadata in an event.
abbrev pub fits_type : SchemaType → ColumnType → List ℕ → Bool
fits_type kind.Other type m = true
fits_type kind.Tiny column.MYSQL_TYPE_TINY m = true
fits_type kind.Short column.MYSQL_TYPE_SHORT m = true
fits_type kind.Int24 column.MYSQL_TYPE_INT24 m = true
fits_type kind.Long column.MYSQL_TYPE_LONG m = true
fits_type kind.LongLong column.MYSQL_TYPE_LONGLONG m = true
fits_type kind.Float column.MYSQL_TYPE_FLOAT m = true
fits_type kind.Double column.MYSQL_TYPE_DOUBLE m = true
fits_type kind.Year column.MYSQL_TYPE_YEAR m = true
fits_type kind.Date column.MYSQL_TYPE_NEWDATE m = true
fits_type kind.Date column.MYSQL_TYPE_DATE m = true
fits_type (kind.Time n) column.MYSQL_TYPE_TIME m = n == 0
fits_type (kind.Datetime n) column.MYSQL_TYPE_DATETIME m = n == 0
fits_type (kind.Timestamp n) column.MYSQL_TYPE_TIMESTAMP m = n == 0
fits_type (kind.Time n) column.MYSQL_TYPE_TIME2 m = slice_index m 0 == n
fits_type (kind.Datetime n) column.MYSQL_TYPE_DATETIME2 m = slice_index m 0 == n
fits_type (kind.Timestamp n) column.MYSQL_TYPE_TIMESTAMP2 m = slice_index m 0 == n
fits_type kind.Json column.MYSQL_TYPE_JSON m = true
fits_type kind.Geometry column.MYSQL_TYPE_GEOMETRY m = true
fits_type kind.Vector column.MYSQL_TYPE_VECTOR m = true
fits_type kind.Vector column.MYSQL_TYPE_VARCHAR m = true
fits_type (kind.Decimal p s) column.MYSQL_TYPE_NEWDECIMAL m = (slice_index m 0 == p) && (slice_index m 1 == s)
fits_type (kind.Bit n) column.MYSQL_TYPE_BIT m = slice_index m 0 + 8 * slice_index m 1 == n
fits_type (kind.Char n) column.MYSQL_TYPE_STRING m = char_len (slice_index m 0) (slice_index m 1) == n
fits_type (kind.Varchar n) column.MYSQL_TYPE_VARCHAR m = slice_index m 0 + 256 * slice_index m 1 == n
fits_type (kind.Varchar n) column.MYSQL_TYPE_VAR_STRING m = slice_index m 0 + 256 * slice_index m 1 == n
fits_type (kind.Enum n) column.MYSQL_TYPE_ENUM m = slice_index m 1 == enum_width n
fits_type (kind.Set n) column.MYSQL_TYPE_SET m = slice_index m 1 == set_width n
fits_type (kind.Blob n) column.MYSQL_TYPE_BLOB m = slice_index m 0 == n
fits_type _ type m = false

-- the same truth of two
abbrev pub is_same : Bool → Bool → Bool
is_same true b = b
is_same false b = not b

-- Whether a column is the event's column: its type and metadata, whether it may be NULL, and its sign where the event
-- has one for it.
abbrev pub fits_column : Bool → Bool → Column → table.Column → Bool
fits_column has_sign nullable c t =
    fits_type c.kind t.column_type (unwrap_or t.metadata [])
    && is_same c.nullable nullable
    && (not has_sign || is_same c.unsigned t.unsigned)

-- Whether columns are those of an event of this server, one by one. The event has a bit for each that says whether it
-- may be NULL, and perhaps signs.
abbrev pub fit_columns : Bool → Server → List Bool → List Column → List (Result table.Column Fault) → Bool
fit_columns signs server nulls [] [] = true
fit_columns signs server nulls [] (t ∷ ts) = false
fit_columns signs server nulls (c ∷ cs) [] = false
fit_columns signs server nulls (c ∷ cs) (Err e ∷ ts) = false
fit_columns signs server [] (c ∷ cs) (Ok t ∷ ts) = false
fit_columns signs server (null ∷ nulls) (c ∷ cs) (Ok t ∷ ts) =
    fits_column (signs && numeric_group server t.column_type) null c t && fit_columns signs server nulls cs ts

-- Whether a table is that of an event: it has as many columns, none of the event's has a fault, and they are the same.
abbrev pub fits : Table → TableMap → Bool
fits s t =
    (length s.columns == t.columns_count)
    && fit_columns (has_of t).signs t.server (bits_of LeastSignificantFirst t.columns_count t.null_bits) s.columns (table_columns t)
