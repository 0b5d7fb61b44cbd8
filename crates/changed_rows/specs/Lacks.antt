-- What a table map event doesn't say of the columns.
use Rattle.std.specs.Prelude.{◌&&◌, ◌||◌, not, Bool, true, false, Result, Ok, Err}
use Rattle.std.specs.List.{list_any}
use Rattle.binlog_base.specs.declared.fault.Fault.{Fault}
use Rattle.binlog_base.specs.declared.below.columns.column_type.ColumnType.{ColumnType}
use Rattle.binlog_base.specs.declared.below.columns.column_type.ColumnType.TheVariants as column
use Rattle.binlog_base.specs.ColumnTypes.{is_character}
use Rattle.binlog_table.specs.declared.table_map.optional.fields.OptionalMetadataField.{OptionalMetadataField}
use Rattle.binlog_table.specs.declared.table_map.optional.fields.OptionalMetadataField.TheVariants as field
use Rattle.binlog_table.specs.TableMap.{TableMap}
use Rattle.binlog_table.specs.Fields.{fields}
use Rattle.binlog_table.specs.Extracted.{fields_of}
use Rattle.binlog_table.specs.TableColumns.{Column, table_columns}
use Rattle.changed_rows.specs.declared.lacks.Lacks.{Lacks}

-- ---- columns

-- The types of whole numbers. Signs are told of decimals and floating-point numbers too, but these are read
-- without them.
abbrev pub is_whole : ColumnType → Bool
is_whole column.MYSQL_TYPE_TINY = true
is_whole column.MYSQL_TYPE_SHORT = true
is_whole column.MYSQL_TYPE_INT24 = true
is_whole column.MYSQL_TYPE_LONG = true
is_whole column.MYSQL_TYPE_LONGLONG = true
is_whole _ = false

abbrev pub is_enum : ColumnType → Bool
is_enum column.MYSQL_TYPE_ENUM = true
is_enum _ = false

abbrev pub is_set : ColumnType → Bool
is_set column.MYSQL_TYPE_SET = true
is_set _ = false

-- CHAR and BINARY
abbrev pub is_string : ColumnType → Bool
is_string column.MYSQL_TYPE_STRING = true
is_string _ = false

abbrev pub is_column_of : (ColumnType → Bool) → Result Column Fault → Bool
is_column_of is_kind (Ok c) = is_kind c.column_type
is_column_of is_kind (Err e) = false

-- whether a table has a column of one of these types
abbrev pub has_column : (ColumnType → Bool) → TableMap → Bool
has_column is_kind t = list_any (is_column_of is_kind) (table_columns t)

-- ---- fields of optional metadata

-- which columns are unsigned
abbrev pub tells_signs : OptionalMetadataField → Bool
tells_signs (field.Signedness bits) = true
tells_signs _ = false

-- the names of the columns
abbrev pub tells_names : OptionalMetadataField → Bool
tells_names (field.ColumnName names) = true
tells_names _ = false

-- the character sets of columns of characters
abbrev pub tells_charsets : OptionalMetadataField → Bool
tells_charsets (field.DefaultCharset d) = true
tells_charsets (field.ColumnCharset charsets) = true
tells_charsets _ = false

-- the values of ENUM columns
abbrev pub tells_enum_values : OptionalMetadataField → Bool
tells_enum_values (field.EnumStrValue values) = true
tells_enum_values _ = false

-- the values of SET columns
abbrev pub tells_set_values : OptionalMetadataField → Bool
tells_set_values (field.SetStrValue values) = true
tells_set_values _ = false

abbrev pub is_field_of : (OptionalMetadataField → Bool) → Result OptionalMetadataField Fault → Bool
is_field_of is_kind (Ok f) = is_kind f
is_field_of is_kind (Err e) = false

-- whether a table map event has a field of this kind
abbrev pub has_field : (OptionalMetadataField → Bool) → TableMap → Bool
has_field is_kind t = list_any (is_field_of is_kind) (fields (fields_of t))

-- ---- what is lacking

-- The signs of whole numbers, the names of columns, the character sets of columns of characters, the values of
-- ENUM or of SET columns; and the zero bytes at the end of BINARY, which without a character set can't be told
-- from CHAR.
abbrev pub lacks_of : TableMap → Lacks
lacks_of t = record {
  signs = has_column is_whole t && not (has_field tells_signs t);
  names = not (has_field tells_names t);
  charsets = has_column is_character t && not (has_field tells_charsets t);
  values = (has_column is_enum t && not (has_field tells_enum_values t)) || (has_column is_set t && not (has_field tells_set_values t));
  zeros = has_column is_string t && not (has_field tells_charsets t);
}

-- whether nothing is lacking
abbrev pub no_lacks : Lacks → Bool
no_lacks l = not (l.signs || (l.names || (l.charsets || (l.values || l.zeros))))
