-- The kinds of columns: what decides the text of their values.
use Rattle.std.specs.Prelude.{ℕ, ◌==◌, if◌then◌else◌, List, [], ◌∷◌, Result, Ok, Err}
use Rattle.binlog_base.specs.declared.fault.Fault.{Fault}
use Rattle.binlog_base.specs.declared.below.columns.column_type.ColumnType.{ColumnType}
use Rattle.binlog_base.specs.declared.below.columns.column_type.ColumnType.TheVariants as column
use Rattle.binlog_base.specs.ColumnTypes.{column_type_of}
use Rattle.row_json.specs.declared.charset.Charset.{Charset}
use Rattle.row_json.specs.declared.charset.Charset.TheVariants.{Utf8mb4, Binary}
use Rattle.row_json.specs.declared.kind.Kind.{Kind}
use Rattle.row_json.specs.declared.kind.Kind.TheVariants as kind
use Rattle.row_json.specs.Charsets.{charset_of}

-- how many decimals: the first byte of the metadata
abbrev pub decimals_in : List ℕ → ℕ
decimals_in [] = 0
decimals_in (m0 ∷ more) = m0

-- by the type, the metadata and the collation number. A decimal arrives as its text, in ASCII.
abbrev pub element_kind : ColumnType → List ℕ → ℕ → Kind
element_kind column.MYSQL_TYPE_YEAR metadata n = kind.Year
element_kind column.MYSQL_TYPE_BIT metadata n = kind.Bits
element_kind column.MYSQL_TYPE_NEWDECIMAL metadata n = kind.Text Utf8mb4
element_kind column.MYSQL_TYPE_NEWDATE metadata n = kind.Date
element_kind column.MYSQL_TYPE_DATETIME metadata n = kind.Datetime 0
element_kind column.MYSQL_TYPE_DATETIME2 metadata n = kind.Datetime (decimals_in metadata)
element_kind column.MYSQL_TYPE_TIMESTAMP metadata n = kind.Timestamp 0
element_kind column.MYSQL_TYPE_TIMESTAMP2 metadata n = kind.Timestamp (decimals_in metadata)
element_kind column.MYSQL_TYPE_TIME metadata n = kind.OldTime
element_kind column.MYSQL_TYPE_TIME2 metadata n = kind.Time (decimals_in metadata)
element_kind column.MYSQL_TYPE_ENUM metadata n = kind.Enum
element_kind column.MYSQL_TYPE_SET metadata n = kind.Set
element_kind column.MYSQL_TYPE_VARCHAR metadata n = kind.Text (charset_of n)
element_kind column.MYSQL_TYPE_VAR_STRING metadata n = kind.Text (charset_of n)
element_kind column.MYSQL_TYPE_STRING metadata n = kind.Text (charset_of n)
element_kind column.MYSQL_TYPE_TINY_BLOB metadata n = kind.Text (charset_of n)
element_kind column.MYSQL_TYPE_MEDIUM_BLOB metadata n = kind.Text (charset_of n)
element_kind column.MYSQL_TYPE_LONG_BLOB metadata n = kind.Text (charset_of n)
element_kind column.MYSQL_TYPE_BLOB metadata n = kind.Text (charset_of n)
element_kind column.MYSQL_TYPE_GEOMETRY metadata n = kind.Text Binary
element_kind column.MYSQL_TYPE_VECTOR metadata n = kind.Text Binary
element_kind _ metadata n = kind.Plain

-- a typed array is of the kind of its inner type, which the first byte of the metadata names
abbrev pub inner_kind : Result ColumnType Fault → List ℕ → ℕ → Kind
inner_kind (Ok type) metadata n = element_kind type metadata n
inner_kind (Err e) metadata n = kind.Plain

-- BINARY(n): its metadata are FE, which is the type STRING, and n
abbrev pub binary_kind : List ℕ → Kind
binary_kind (m0 ∷ m1 ∷ more) = if m0 == 0xFE then kind.Binary m1 else kind.Text Binary
binary_kind _ = kind.Text Binary

-- a STRING column is a BINARY, if it is of the character set binary, and else a CHAR
abbrev pub string_kind : Charset → List ℕ → Kind
string_kind Binary metadata = binary_kind metadata
string_kind charset metadata = kind.Text charset

abbrev pub kind_of : ColumnType → List ℕ → ℕ → Kind
kind_of column.MYSQL_TYPE_STRING metadata n = string_kind (charset_of n) metadata
kind_of column.MYSQL_TYPE_TYPED_ARRAY metadata n = inner_kind (column_type_of (decimals_in metadata)) metadata n
kind_of type metadata n = element_kind type metadata n
