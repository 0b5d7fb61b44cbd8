-- Column types with what a walk over columns asks of each.
use Rattle.std.specs.Prelude.{◌≡◌, ℕ, Bool, true, false, Ok}
use Rattle.binlog_base.specs.declared.below.columns.column_type.ColumnType.{ColumnType}
use Rattle.binlog_base.specs.declared.below.columns.column_type.ColumnType.TheVariants as column
use Rattle.binlog_base.specs.ColumnTypes.{column_type_of}
use Rattle.binlog_table.specs.declared.table_map.raw_type.Chunk.{Chunk}
use Rattle.binlog_table.specs.declared.table_map.raw_type.Chunk.TheVariants as chunk
use Rattle.binlog_table.specs.declared.table_map.raw_type.Sort.{Sort}
use Rattle.binlog_table.specs.declared.table_map.raw_type.Sort.TheVariants as sort
use Rattle.binlog_table.specs.declared.table_map.raw_type.Row.{Row}

-- what a column of a type has for a chunk of metadata
abbrev pub chunk_of : ColumnType → Chunk
chunk_of column.MYSQL_TYPE_FLOAT = chunk.OneByte
chunk_of column.MYSQL_TYPE_DOUBLE = chunk.OneByte
chunk_of column.MYSQL_TYPE_TINY_BLOB = chunk.OneByte
chunk_of column.MYSQL_TYPE_MEDIUM_BLOB = chunk.OneByte
chunk_of column.MYSQL_TYPE_LONG_BLOB = chunk.OneByte
chunk_of column.MYSQL_TYPE_BLOB = chunk.OneByte
chunk_of column.MYSQL_TYPE_GEOMETRY = chunk.OneByte
chunk_of column.MYSQL_TYPE_JSON = chunk.OneByte
chunk_of column.MYSQL_TYPE_VECTOR = chunk.OneByte
chunk_of column.MYSQL_TYPE_TIMESTAMP2 = chunk.OneByte
chunk_of column.MYSQL_TYPE_DATETIME2 = chunk.OneByte
chunk_of column.MYSQL_TYPE_TIME2 = chunk.OneByte
chunk_of column.MYSQL_TYPE_VARCHAR = chunk.TwoBytes
chunk_of column.MYSQL_TYPE_VAR_STRING = chunk.TwoBytes
chunk_of column.MYSQL_TYPE_STRING = chunk.TwoBytes
chunk_of column.MYSQL_TYPE_ENUM = chunk.TwoBytes
chunk_of column.MYSQL_TYPE_SET = chunk.TwoBytes
chunk_of column.MYSQL_TYPE_BIT = chunk.TwoBytes
chunk_of column.MYSQL_TYPE_NEWDECIMAL = chunk.TwoBytes
chunk_of column.MYSQL_TYPE_TYPED_ARRAY = chunk.Array
chunk_of _ = chunk.Empty

-- what is asked of a type
abbrev pub sort_of : ColumnType → Sort
sort_of column.MYSQL_TYPE_TINY = sort.Numeric
sort_of column.MYSQL_TYPE_SHORT = sort.Numeric
sort_of column.MYSQL_TYPE_INT24 = sort.Numeric
sort_of column.MYSQL_TYPE_LONG = sort.Numeric
sort_of column.MYSQL_TYPE_LONGLONG = sort.Numeric
sort_of column.MYSQL_TYPE_FLOAT = sort.Numeric
sort_of column.MYSQL_TYPE_DOUBLE = sort.Numeric
sort_of column.MYSQL_TYPE_NEWDECIMAL = sort.Numeric
sort_of column.MYSQL_TYPE_DECIMAL = sort.OldNumeric
sort_of column.MYSQL_TYPE_YEAR = sort.OldNumeric
sort_of column.MYSQL_TYPE_VAR_STRING = sort.Charset
sort_of column.MYSQL_TYPE_VARCHAR = sort.Charset
sort_of column.MYSQL_TYPE_BLOB = sort.Charset
sort_of column.MYSQL_TYPE_GEOMETRY = sort.Charset
sort_of column.MYSQL_TYPE_ENUM = sort.Charset
sort_of column.MYSQL_TYPE_SET = sort.Charset
sort_of column.MYSQL_TYPE_DATE = sort.Renamed
sort_of column.MYSQL_TYPE_STRING = sort.Renamed
sort_of _ = sort.Plain

-- whether columns of a raw type can have a character set
abbrev pub is_charset : Sort → Bool
is_charset sort.Charset = true
is_charset sort.Renamed = true
is_charset _ = false

abbrev pub has_charset : ColumnType → Bool
has_charset type = is_charset (sort_of type)

-- a row tells what is so of its type
pub record IsRow (r : Row) : Type 0 where
  pub chunk : r.chunk ≡ chunk_of r.column_type
  pub sort : r.sort ≡ sort_of r.column_type

-- the row of the type that has a number
pub record IsRowOf (number : ℕ) (r : Row) : Type 0 where
  pub type : column_type_of number ≡ Ok r.column_type
  pub row : IsRow r
