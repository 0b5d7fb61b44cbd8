-- The images of rows in a rows event, and the pairs of images.
use Rattle.std.specs.Prelude.{ℕ, suc, ◌+◌, ◌%◌, ◌==◌, ◌&&◌, Bool, true, false, List, [], ◌∷◌, ◌++◌, map, Option, Some, None, slice_index_or, unwrap_or, codes}
use Rattle.std.specs.Fmt.{decimal}
use Rattle.binlog_base.specs.declared.bits.BitOrder.TheVariants.{LeastSignificantFirst}
use Rattle.binlog_base.specs.declared.below.columns.column_type.ColumnType.{ColumnType}
use Rattle.binlog_base.specs.declared.below.columns.column_type.ColumnType.TheVariants as column
use Rattle.binlog_base.specs.Format.{Format, no_bytes, check, sequence, map_value, choice}
use Rattle.binlog_base.specs.Bits.{count_set, bit_list}
use Rattle.binlog_base.specs.Numbers.{lenenc}
use Rattle.binlog_base.specs.Values.{ColumnView, column_flags_of, Null}
use Rattle.binlog_table.specs.TableMap.{TableMap}
use Rattle.binlog_table.specs.ColumnTypes.{json_count}
use Rattle.binlog_table.specs.Keys.{unless}
use Rattle.binlog_table.specs.Extracted.{field_fault}
use Rattle.binlog_table.specs.TableColumns.{Column, column_at}
use Rattle.mysql_binlog_rows.specs.RowsEvent.{RowsEvent, has_options, image_columns}
use Rattle.binlog_cells.specs.Cells.{Cell, PlainCell, cell}

-- ---- the columns of a row

-- the name of a column that the table map event doesn't name: `@` and its index
abbrev pub default_name : ℕ → List ℕ
default_name i = codes "@" ++ decimal i

-- the bit, if the flag is set
abbrev pub flag : ℕ → Bool → ℕ
flag bit true = bit
flag bit false = 0

-- PRI_KEY_FLAG has bit 2, and UNSIGNED_FLAG bit 32
abbrev pub row_flags : Bool → Bool → ℕ
row_flags unsigned is_key = flag 32 unsigned + flag 2 is_key

-- column i of a table, as rows have it
abbrev pub row_column : TableMap → ℕ → Column → ColumnView
row_column t i c = record {
  column_type = c.column_type;
  schema = t.database;
  table = t.table;
  org_table = t.table;
  name = unwrap_or c.name (default_name i);
  flags = column_flags_of (row_flags c.unsigned c.is_key);
  character_set = c.charset;
}

-- ---- images

-- a row, whatever its place in memory: a value for each column, none if the value was taken
pub record BinlogRow : Type 0 where
  pub columns : List ColumnView
  pub values : List (Option Cell)

-- the row of these columns and their cells
abbrev pub row_of : List (ColumnView × Cell) → BinlogRow
row_of cells = record { columns = map (λ c. c.0) cells; values = map (λ c. Some c.1) cells }

abbrev pub is_json : ColumnType → Bool
is_json column.MYSQL_TYPE_JSON = true
is_json _ = false

-- The k-th JSON column of the table has the k-th partial bit. A column is whole if there is no such
-- bit, and so is each that isn't JSON.
abbrev pub is_partial : List Bool → Column → Bool
is_partial partials c = is_json c.column_type && slice_index_or partials c.json_place false

-- NULL, which takes no bytes, if the null bit is set; else the cell
unfoldable pub nullable_cell : Bool → List Bool → Column → Format Cell
nullable_cell is_null partials c = choice is_null (no_bytes (PlainCell Null)) (cell c.column_type (unwrap_or c.metadata []) c.unsigned (is_partial partials c))

-- The columns of the event from index i on, with a bit for each that says whether it is in the
-- image. Each has a type, a character set, a name and a key flag without a fault; and then its cell
-- if it is in the image. `nulls` are the null bits of the image. `before` counts the columns before
-- these that are in the image: it is the index of the null bit of the next one that is.
unfoldable pub cells : TableMap → List Bool → List Bool → ℕ → ℕ → List Bool → Format (List (ColumnView × Cell))
cells t partials nulls i before [] = no_bytes []
cells t partials nulls i before (present ∷ others) =
    sequence (check (column_at t i)) (λ column.
    choice present
    (sequence (nullable_cell (slice_index_or nulls before false) partials column) (λ value. map_value (cells t partials nulls (suc i) (suc before) others) (λ more. (row_column t i column, value) ∷ more)))
    (cells t partials nulls (suc i) before others))

-- The options of an image: a length-encoded number; and if its lowest bit is set, which is
-- PARTIAL_JSON_UPDATES, one partial bit for each of `json_columns` JSON columns.
unfoldable pub partial_bits : ℕ → Format (List Bool)
partial_bits json_columns =
    sequence lenenc (λ options. choice (options % 2 == 1) (bit_list LeastSignificantFirst json_columns) (no_bytes []))

-- the partial bits of an image; none where it has no options
abbrev pub options_of : TableMap → Bool → Format (List Bool)
options_of t has_options = choice has_options (partial_bits (json_count t.types)) (no_bytes [])

-- An image: the options, if it has any; one null bit for each column in the image; then no field of
-- the optional metadata is faulty; then the cells of the columns that aren't NULL.
unfoldable pub image : TableMap → Bool → List Bool → Format BinlogRow
image t has_options present =
    sequence (options_of t has_options) (λ partials.
    sequence (bit_list LeastSignificantFirst (count_set present)) (λ nulls.
    sequence (check (unless (field_fault t) nulls)) (λ nulls.
    map_value (cells t partials nulls 0 0 present) row_of)))

-- ---- pairs

-- the row before a change and the row after it
abbrev pub Pair : Type 0
Pair = Option BinlogRow × Option BinlogRow

-- the image, if the event has it
abbrev pub maybe_image : TableMap → Bool → Option (List Bool) → Format (Option BinlogRow)
maybe_image t has_options None = no_bytes None
maybe_image t has_options (Some present) = map_value (image t has_options present) Some

-- a pair: the image before the change and the image after it, each if the event has it
unfoldable pub pair : TableMap → RowsEvent → Format Pair
pair t e =
    sequence (maybe_image t false (image_columns e.num_columns e.before)) (λ before.
    map_value (maybe_image t (has_options e.event_type) (image_columns e.num_columns e.after)) (λ after. (before, after)))
