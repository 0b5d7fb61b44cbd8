-- What the fields of a table map event tell, of that which a schema file tells too.
use Rattle.std.specs.Prelude.{Bool, true, false, ◌||◌, List, Result, Ok, Err}
use Rattle.std.specs.List.{list_any}
use Rattle.binlog_base.specs.declared.fault.Fault.{Fault}
use Rattle.binlog_table.specs.declared.table_map.optional.fields.OptionalMetadataField.{OptionalMetadataField}
use Rattle.binlog_table.specs.declared.table_map.optional.fields.OptionalMetadataField.TheVariants as field
use Rattle.binlog_table.specs.TableMap.{TableMap}
use Rattle.binlog_table.specs.Fields.{fields}
use Rattle.binlog_table.specs.Extracted.{fields_of}
use Rattle.table_schema.specs.declared.complete.Has.{Has}

-- the signs of numeric columns
abbrev pub tells_signs : OptionalMetadataField → Bool
tells_signs (field.Signedness x) = true
tells_signs _ = false

-- the character sets of columns of characters
abbrev pub tells_charsets : OptionalMetadataField → Bool
tells_charsets (field.DefaultCharset x) = true
tells_charsets (field.ColumnCharset x) = true
tells_charsets _ = false

-- the names of columns
abbrev pub tells_names : OptionalMetadataField → Bool
tells_names (field.ColumnName x) = true
tells_names _ = false

-- the names of the values of ENUM and SET columns, or their character sets
abbrev pub tells_values : OptionalMetadataField → Bool
tells_values (field.SetStrValue x) = true
tells_values (field.EnumStrValue x) = true
tells_values (field.EnumAndSetDefaultCharset x) = true
tells_values (field.EnumAndSetColumnCharset x) = true
tells_values _ = false

-- the primary key
abbrev pub tells_key : OptionalMetadataField → Bool
tells_key (field.SimplePrimaryKey x) = true
tells_key (field.PrimaryKeyWithPrefix x) = true
tells_key _ = false

abbrev pub is_field_of : (OptionalMetadataField → Bool) → Result OptionalMetadataField Fault → Bool
is_field_of is (Ok f) = is f
is_field_of is (Err e) = false

abbrev pub is_fault : Result OptionalMetadataField Fault → Bool
is_fault (Ok f) = false
is_fault (Err e) = true

-- what an event has: fields of each kind, and one that can't be read
abbrev pub has_in : List (Result OptionalMetadataField Fault) → Has
has_in found = record {
  signs = list_any (is_field_of tells_signs) found;
  charsets = list_any (is_field_of tells_charsets) found;
  names = list_any (is_field_of tells_names) found;
  values = list_any (is_field_of tells_values) found;
  key = list_any (is_field_of tells_key) found;
  fault = list_any is_fault found;
}

abbrev pub has_of : TableMap → Has
has_of t = has_in (fields (fields_of t))

-- ---- field by field

-- what is had with one field more
abbrev pub with_field : Has → OptionalMetadataField → Has
with_field h f = record {
  signs = h.signs || tells_signs f;
  charsets = h.charsets || tells_charsets f;
  names = h.names || tells_names f;
  values = h.values || tells_values f;
  key = h.key || tells_key f;
  fault = h.fault;
}

-- what is had, and what these fields tell
abbrev pub fields_then : Has → List (Result OptionalMetadataField Fault) → Has
fields_then h found = record {
  signs = h.signs || list_any (is_field_of tells_signs) found;
  charsets = h.charsets || list_any (is_field_of tells_charsets) found;
  names = h.names || list_any (is_field_of tells_names) found;
  values = h.values || list_any (is_field_of tells_values) found;
  key = h.key || list_any (is_field_of tells_key) found;
  fault = h.fault || list_any is_fault found;
}
