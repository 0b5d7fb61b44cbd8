-- Which columns a table has, and which fields its event, as a walk over them finds them.
use Rattle.std.specs.Prelude.{◌||◌, Bool, true, false, List, Result, Ok, Err}
use Rattle.std.specs.List.{list_any}
use Rattle.binlog_base.specs.declared.fault.Fault.{Fault}
use Rattle.binlog_base.specs.declared.below.columns.column_type.ColumnType.{ColumnType}
use Rattle.binlog_base.specs.ColumnTypes.{is_character}
use Rattle.binlog_table.specs.declared.table_map.optional.fields.OptionalMetadataField.{OptionalMetadataField}
use Rattle.binlog_table.specs.TableMap.{TableMap}
use Rattle.binlog_table.specs.TableColumns.{Column}
use Rattle.changed_rows.specs.declared.lacks.ColumnKinds.{ColumnKinds}
use Rattle.changed_rows.specs.declared.lacks.FieldKinds.{FieldKinds}
use Rattle.changed_rows.specs.Lacks.{is_whole, is_enum, is_set, is_string, is_column_of, has_column, tells_signs, tells_names, tells_charsets, tells_enum_values, tells_set_values, is_field_of, has_field}

-- ---- columns

-- these kinds, and that of a type
abbrev pub with_kind : ColumnKinds → ColumnType → ColumnKinds
with_kind k type = record {
  whole_numbers = k.whole_numbers || is_whole type;
  characters = k.characters || is_character type;
  enums = k.enums || is_enum type;
  sets = k.sets || is_set type;
  strings = k.strings || is_string type;
}

-- the kinds of a table's columns
abbrev pub kinds_in : TableMap → ColumnKinds
kinds_in t = record {
  whole_numbers = has_column is_whole t;
  characters = has_column is_character t;
  enums = has_column is_enum t;
  sets = has_column is_set t;
  strings = has_column is_string t;
}

-- these kinds, and those of these columns
abbrev pub kinds_then : ColumnKinds → List (Result Column Fault) → ColumnKinds
kinds_then k cs = record {
  whole_numbers = k.whole_numbers || list_any (is_column_of is_whole) cs;
  characters = k.characters || list_any (is_column_of is_character) cs;
  enums = k.enums || list_any (is_column_of is_enum) cs;
  sets = k.sets || list_any (is_column_of is_set) cs;
  strings = k.strings || list_any (is_column_of is_string) cs;
}

-- ---- fields

-- these kinds, and that of a field
abbrev pub with_field : FieldKinds → OptionalMetadataField → FieldKinds
with_field k f = record {
  signs = k.signs || tells_signs f;
  names = k.names || tells_names f;
  charsets = k.charsets || tells_charsets f;
  enum_values = k.enum_values || tells_enum_values f;
  set_values = k.set_values || tells_set_values f;
}

-- the kinds of an event's fields
abbrev pub fields_in : TableMap → FieldKinds
fields_in t = record {
  signs = has_field tells_signs t;
  names = has_field tells_names t;
  charsets = has_field tells_charsets t;
  enum_values = has_field tells_enum_values t;
  set_values = has_field tells_set_values t;
}

-- these kinds, and those of these fields
abbrev pub fields_then : FieldKinds → List (Result OptionalMetadataField Fault) → FieldKinds
fields_then k fs = record {
  signs = k.signs || list_any (is_field_of tells_signs) fs;
  names = k.names || list_any (is_field_of tells_names) fs;
  charsets = k.charsets || list_any (is_field_of tells_charsets) fs;
  enum_values = k.enum_values || list_any (is_field_of tells_enum_values) fs;
  set_values = k.set_values || list_any (is_field_of tells_set_values) fs;
}
