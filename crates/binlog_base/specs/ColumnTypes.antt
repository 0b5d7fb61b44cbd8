-- The numbers of MySQL's column types and geometry types, and the groups of column types.
use Rattle.std.specs.Prelude.{ℕ, Bool, true, false, List, [], ◌∷◌, Result}
use Rattle.binlog_base.specs.declared.fault.Fault.{Fault}
use Rattle.binlog_base.specs.declared.fault.Fault.TheVariants as fault
use Rattle.binlog_base.specs.Tables.{from_table}
use Rattle.binlog_base.specs.declared.below.columns.geometry.GeometryType.{GeometryType}
use Rattle.binlog_base.specs.declared.below.columns.geometry.GeometryType.TheVariants as geometry
use Rattle.binlog_base.specs.declared.below.columns.column_type.ColumnType.{ColumnType}
use Rattle.binlog_base.specs.declared.below.columns.column_type.ColumnType.TheVariants as column

-- the column types by their numbers
abbrev pub column_types : List (ℕ × ColumnType)
column_types =
    (0, column.MYSQL_TYPE_DECIMAL)
    ∷ (1, column.MYSQL_TYPE_TINY)
    ∷ (2, column.MYSQL_TYPE_SHORT)
    ∷ (3, column.MYSQL_TYPE_LONG)
    ∷ (4, column.MYSQL_TYPE_FLOAT)
    ∷ (5, column.MYSQL_TYPE_DOUBLE)
    ∷ (6, column.MYSQL_TYPE_NULL)
    ∷ (7, column.MYSQL_TYPE_TIMESTAMP)
    ∷ (8, column.MYSQL_TYPE_LONGLONG)
    ∷ (9, column.MYSQL_TYPE_INT24)
    ∷ (10, column.MYSQL_TYPE_DATE)
    ∷ (11, column.MYSQL_TYPE_TIME)
    ∷ (12, column.MYSQL_TYPE_DATETIME)
    ∷ (13, column.MYSQL_TYPE_YEAR)
    ∷ (14, column.MYSQL_TYPE_NEWDATE)
    ∷ (15, column.MYSQL_TYPE_VARCHAR)
    ∷ (16, column.MYSQL_TYPE_BIT)
    ∷ (17, column.MYSQL_TYPE_TIMESTAMP2)
    ∷ (18, column.MYSQL_TYPE_DATETIME2)
    ∷ (19, column.MYSQL_TYPE_TIME2)
    ∷ (20, column.MYSQL_TYPE_TYPED_ARRAY)
    ∷ (242, column.MYSQL_TYPE_VECTOR)
    ∷ (243, column.MYSQL_TYPE_UNKNOWN)
    ∷ (245, column.MYSQL_TYPE_JSON)
    ∷ (246, column.MYSQL_TYPE_NEWDECIMAL)
    ∷ (247, column.MYSQL_TYPE_ENUM)
    ∷ (248, column.MYSQL_TYPE_SET)
    ∷ (249, column.MYSQL_TYPE_TINY_BLOB)
    ∷ (250, column.MYSQL_TYPE_MEDIUM_BLOB)
    ∷ (251, column.MYSQL_TYPE_LONG_BLOB)
    ∷ (252, column.MYSQL_TYPE_BLOB)
    ∷ (253, column.MYSQL_TYPE_VAR_STRING)
    ∷ (254, column.MYSQL_TYPE_STRING)
    ∷ (255, column.MYSQL_TYPE_GEOMETRY)
    ∷ []

-- the geometry types by their numbers
abbrev pub geometry_types : List (ℕ × GeometryType)
geometry_types =
    (0, geometry.GEOM_GEOMETRY)
    ∷ (1, geometry.GEOM_POINT)
    ∷ (2, geometry.GEOM_LINESTRING)
    ∷ (3, geometry.GEOM_POLYGON)
    ∷ (4, geometry.GEOM_MULTIPOINT)
    ∷ (5, geometry.GEOM_MULTILINESTRING)
    ∷ (6, geometry.GEOM_MULTIPOLYGON)
    ∷ (7, geometry.GEOM_GEOMETRYCOLLECTION)
    ∷ []

-- ---- the number of a type

abbrev pub column_number : ColumnType → ℕ
column_number column.MYSQL_TYPE_DECIMAL = 0
column_number column.MYSQL_TYPE_TINY = 1
column_number column.MYSQL_TYPE_SHORT = 2
column_number column.MYSQL_TYPE_LONG = 3
column_number column.MYSQL_TYPE_FLOAT = 4
column_number column.MYSQL_TYPE_DOUBLE = 5
column_number column.MYSQL_TYPE_NULL = 6
column_number column.MYSQL_TYPE_TIMESTAMP = 7
column_number column.MYSQL_TYPE_LONGLONG = 8
column_number column.MYSQL_TYPE_INT24 = 9
column_number column.MYSQL_TYPE_DATE = 10
column_number column.MYSQL_TYPE_TIME = 11
column_number column.MYSQL_TYPE_DATETIME = 12
column_number column.MYSQL_TYPE_YEAR = 13
column_number column.MYSQL_TYPE_NEWDATE = 14
column_number column.MYSQL_TYPE_VARCHAR = 15
column_number column.MYSQL_TYPE_BIT = 16
column_number column.MYSQL_TYPE_TIMESTAMP2 = 17
column_number column.MYSQL_TYPE_DATETIME2 = 18
column_number column.MYSQL_TYPE_TIME2 = 19
column_number column.MYSQL_TYPE_TYPED_ARRAY = 20
column_number column.MYSQL_TYPE_VECTOR = 242
column_number column.MYSQL_TYPE_UNKNOWN = 243
column_number column.MYSQL_TYPE_JSON = 245
column_number column.MYSQL_TYPE_NEWDECIMAL = 246
column_number column.MYSQL_TYPE_ENUM = 247
column_number column.MYSQL_TYPE_SET = 248
column_number column.MYSQL_TYPE_TINY_BLOB = 249
column_number column.MYSQL_TYPE_MEDIUM_BLOB = 250
column_number column.MYSQL_TYPE_LONG_BLOB = 251
column_number column.MYSQL_TYPE_BLOB = 252
column_number column.MYSQL_TYPE_VAR_STRING = 253
column_number column.MYSQL_TYPE_STRING = 254
column_number column.MYSQL_TYPE_GEOMETRY = 255

abbrev pub geometry_number : GeometryType → ℕ
geometry_number geometry.GEOM_GEOMETRY = 0
geometry_number geometry.GEOM_POINT = 1
geometry_number geometry.GEOM_LINESTRING = 2
geometry_number geometry.GEOM_POLYGON = 3
geometry_number geometry.GEOM_MULTIPOINT = 4
geometry_number geometry.GEOM_MULTILINESTRING = 5
geometry_number geometry.GEOM_MULTIPOLYGON = 6
geometry_number geometry.GEOM_GEOMETRYCOLLECTION = 7

-- ---- the groups of column types

-- the types whose columns have a sign bit in MySQL's events
abbrev pub is_numeric : ColumnType → Bool
is_numeric column.MYSQL_TYPE_TINY = true
is_numeric column.MYSQL_TYPE_SHORT = true
is_numeric column.MYSQL_TYPE_INT24 = true
is_numeric column.MYSQL_TYPE_LONG = true
is_numeric column.MYSQL_TYPE_LONGLONG = true
is_numeric column.MYSQL_TYPE_FLOAT = true
is_numeric column.MYSQL_TYPE_DOUBLE = true
is_numeric column.MYSQL_TYPE_NEWDECIMAL = true
is_numeric _ = false

-- the types whose columns have a character set in the first list of MySQL's events
abbrev pub is_character : ColumnType → Bool
is_character column.MYSQL_TYPE_STRING = true
is_character column.MYSQL_TYPE_VAR_STRING = true
is_character column.MYSQL_TYPE_VARCHAR = true
is_character column.MYSQL_TYPE_BLOB = true
is_character _ = false

-- the types whose columns have a character set in the other list
abbrev pub is_enum_or_set : ColumnType → Bool
is_enum_or_set column.MYSQL_TYPE_ENUM = true
is_enum_or_set column.MYSQL_TYPE_SET = true
is_enum_or_set _ = false

-- ---- the type that a byte in an event means, or the fault of a byte that means none

-- the column type of a number, or UnknownColumnType
abbrev pub column_type_of : ℕ → Result ColumnType Fault
column_type_of = from_table column_types fault.UnknownColumnType

-- the geometry type of a number, or UnknownGeometryType
abbrev pub geometry_type_of : ℕ → Result GeometryType Fault
geometry_type_of = from_table geometry_types fault.UnknownGeometryType
