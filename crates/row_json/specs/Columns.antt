-- What is found out once of the columns of a table.
use Rattle.std.specs.Prelude.{ℕ, suc, Bool, true, false, List, [], ◌∷◌, map, Result, Ok, Err, Option, Some, None, unwrap_or}
use Rattle.std.specs.Str.Lossy.{utf8_lossy}
use Rattle.binlog_base.specs.declared.fault.Fault.{Fault}
use Rattle.binlog_base.specs.declared.below.columns.column_type.ColumnType.{ColumnType}
use Rattle.binlog_base.specs.declared.below.columns.column_type.ColumnType.TheVariants as column
use Rattle.binlog_base.specs.Items.{before_fault}
use Rattle.binlog_table.specs.declared.table_map.optional.fields.OptionalMetadataField.{OptionalMetadataField}
use Rattle.binlog_table.specs.declared.table_map.optional.fields.OptionalMetadataField.TheVariants as field
use Rattle.binlog_table.specs.TableMap.{TableMap}
use Rattle.binlog_table.specs.Fields.{last_of, fields}
use Rattle.binlog_table.specs.Extracted.{list_or, fields_of}
use Rattle.binlog_table.specs.TableColumns.{table_columns}
use Rattle.binlog_table.specs.TableColumns as table
use Rattle.binlog_table.specs.Variants.{variants}
use Rattle.mysql_binlog_rows.specs.Images.{default_name}
use Rattle.row_json.specs.declared.kind.Kind.{Kind}
use Rattle.row_json.specs.Charsets.{charset_of, text_in}
use Rattle.row_json.specs.Kinds.{kind_of}

-- A column: its name as text, its kind, and the names of its ENUM or SET values, in order; none for
-- a name that isn't text of the column's character set.
pub record Column : Type 0 where
  pub name : List ℕ
  pub kind : Kind
  pub names : List (Option (List ℕ))

-- the bytes of the names that are still to be read, of ENUM and of SET columns
pub record Names : Type 0 where
  pub enums : List ℕ
  pub sets : List ℕ

-- ---- the names of one column

-- the names at the start of the bytes, and the bytes after them; none, and no bytes, after a fault
abbrev pub names_or_none : Result (List (List ℕ) × List ℕ) Fault → List (List ℕ) × List ℕ
names_or_none (Ok r) = r
names_or_none (Err e) = ([], [])

abbrev pub first_names : List ℕ → List (List ℕ) × List ℕ
first_names bytes = names_or_none (variants.parse bytes)

-- an ENUM or SET column takes the next names of its own list
abbrev pub names_of_type : ColumnType → Names → List (List ℕ)
names_of_type column.MYSQL_TYPE_ENUM left = (first_names left.enums).0
names_of_type column.MYSQL_TYPE_SET left = (first_names left.sets).0
names_of_type _ left = []

abbrev pub names_after : ColumnType → Names → Names
names_after column.MYSQL_TYPE_ENUM left = record { enums = (first_names left.enums).1; sets = left.sets }
names_after column.MYSQL_TYPE_SET left = record { enums = left.enums; sets = (first_names left.sets).1 }
names_after _ left = left

-- ---- the columns

-- a name as text, or `@` and the number of a column without one
abbrev pub name_of : ℕ → Option (List ℕ) → List ℕ
name_of i None = default_name i
name_of i (Some name) = utf8_lossy name

-- column i
abbrev pub column_of : ℕ → Names → table.Column → Column
column_of i left c = record {
  name = name_of i c.name;
  kind = kind_of c.column_type (unwrap_or c.metadata []) c.charset;
  names = map (text_in (charset_of c.charset)) (names_of_type c.column_type left);
}

-- the columns from number i on
abbrev pub columns_from : ℕ → Names → List table.Column → List Column
columns_from i left [] = []
columns_from i left (c ∷ cs) = column_of i left c ∷ columns_from (suc i) (names_after c.column_type left) cs

-- ---- by the table map event alone

abbrev pub enums_in : OptionalMetadataField → Option (List ℕ)
enums_in (field.EnumStrValue x) = Some x
enums_in _ = None

abbrev pub sets_in : OptionalMetadataField → Option (List ℕ)
sets_in (field.SetStrValue x) = Some x
sets_in _ = None

-- the last field of names of ENUM columns, and the last of SET columns
abbrev pub names_in : List OptionalMetadataField → Names
names_in fs = record { enums = list_or (last_of enums_in fs); sets = list_or (last_of sets_in fs) }

-- the columns of a table, up to the first with a fault
abbrev pub columns_of : TableMap → List Column
columns_of t = columns_from 0 (names_in (before_fault (fields (fields_of t)))) (before_fault (table_columns t))

-- ---- the columns of an image

-- the columns whose bits are set, in order
abbrev pub columns_in : List Column → List Bool → List Column
columns_in [] present = []
columns_in (c ∷ cs) [] = []
columns_in (c ∷ cs) (false ∷ present) = columns_in cs present
columns_in (c ∷ cs) (true ∷ present) = c ∷ columns_in cs present

-- the numbers of the bits that are set, in order; the first bit has number i
abbrev pub set_from : ℕ → List Bool → List ℕ
set_from i [] = []
set_from i (false ∷ bits) = set_from (suc i) bits
set_from i (true ∷ bits) = i ∷ set_from (suc i) bits
