-- The lines of pairs of rows, as bytes.
use Rattle.std.specs.Prelude.{ℕ, Bool, true, false, zero, suc, ◌==◌, if◌then◌else◌, List, [], ◌∷◌, ◌++◌, length, codes, Option, Some, None, slice_get, unwrap_or}
use Rattle.std.specs.List.{flat_map}
use Rattle.std.specs.Fmt.{decimal, signed_decimal}
use Rattle.std.specs.Int.{w32, w64, to_be_bytes}
use Rattle.hex.specs.Hex.{encode_lower}
use Rattle.binlog_base.specs.Writing.{IsPrefix}
use Rattle.binlog_base.specs.Values.{PlainValue, Null, Bytes, Int, UInt, Float, Double, Date, Time, ColumnView, value_at}
use Rattle.binlog_values.specs.JsonbValues.{JsonbValue, is_array, count_in}
use Rattle.binlog_cells.specs.Cells.{Cell, PlainCell, JsonCell, DiffsCell}
use Rattle.binlog_cells.specs.OldTimes.{signed_old_cell}
use Rattle.mysql_binlog_rows.specs.Images.{BinlogRow, Pair}
use Rattle.row_lines.specs.Names.{quoted_name}

-- numbers in decimal, separated by commas
abbrev pub numbers_text : List ℕ → List ℕ
numbers_text [] = []
numbers_text (n ∷ []) = decimal n
numbers_text (n ∷ m ∷ more) = decimal n ++ (codes "," ++ numbers_text (m ∷ more))

abbrev pub plain_text : PlainValue → List ℕ
plain_text Null = codes "NULL"
plain_text (Bytes bytes) = codes "x" ++ encode_lower bytes
plain_text (Int number) = signed_decimal number
plain_text (UInt number) = decimal number
plain_text (Float bits) = codes "f32:" ++ encode_lower (to_be_bytes w32 bits)
plain_text (Double bits) = codes "f64:" ++ encode_lower (to_be_bytes w64 bits)
plain_text (Date y m d h i s u) = codes "date(" ++ (numbers_text (y ∷ m ∷ d ∷ h ∷ i ∷ s ∷ u ∷ []) ++ codes ")")
plain_text (Time is_negative d h i s u) = codes "time(" ++ ((if is_negative then codes "true" else codes "false") ++ (codes "," ++ (numbers_text (d ∷ h ∷ i ∷ s ∷ u ∷ []) ++ codes ")")))

-- a document of binary JSON: the kind of a container and the count of its elements, or `scalar`
abbrev pub container_text : Bool → Option ℕ → List ℕ
container_text is_array None = codes "scalar"
container_text is_array (Some count) = (if is_array then codes "array(" else codes "object(") ++ (decimal count ++ codes ")")

abbrev pub json_text : JsonbValue → List ℕ
json_text v = container_text (is_array v) (count_in v)

-- the text of a cell; empty if the value was taken from its row
abbrev pub cell_text : Option Cell → List ℕ
cell_text None = []
cell_text (Some (PlainCell value)) = plain_text value
cell_text (Some (JsonCell value)) = json_text value
cell_text (Some (DiffsCell diffs)) = codes "diffs(" ++ (decimal (length diffs) ++ codes ")")

-- the name of a column, in backquotes if it needs them; empty if there is no column
abbrev pub name_text : Option ColumnView → List ℕ
name_text None = []
name_text (Some column) = quoted_name column.name

-- the value of a column as it is shown: with signs, a TIME of the old format has the sign that its digits mean
abbrev pub shown_cell : Bool → Option ColumnView → Option Cell → Option Cell
shown_cell true (Some column) (Some value) = Some (unwrap_or (signed_old_cell column.column_type value) value)
shown_cell _ column value = value

-- column i of a row as `name=cell`, with a comma before it unless it is the first
abbrev pub comma : ℕ → List ℕ
comma i = if i == 0 then [] else codes ", "

abbrev pub field_text : Bool → BinlogRow → ℕ → List ℕ
field_text has_signs row i =
    comma i ++ (name_text (slice_get row.columns i) ++ (codes "=" ++ cell_text (shown_cell has_signs (slice_get row.columns i) (value_at row.values i))))

-- the first n columns of a row
unfoldable pub fields_text : Bool → BinlogRow → ℕ → List ℕ
fields_text has_signs row zero = []
fields_text has_signs row (suc i) = fields_text has_signs row i ++ field_text has_signs row i

abbrev pub image_text : Bool → Option BinlogRow → List ℕ
image_text has_signs None = codes "-"
image_text has_signs (Some row) = codes "{" ++ (fields_text has_signs row (length row.values) ++ codes "}")

abbrev pub pair_text : Bool → Pair → List ℕ
pair_text has_signs pair = image_text has_signs pair.0 ++ (codes " -> " ++ (image_text has_signs pair.1 ++ codes "\n"))

-- the line of a pair of rows
abbrev pub line_text : Pair → List ℕ
line_text pair = pair_text false pair

-- the same, where TIMEs of the old format have their sign
abbrev pub signed_line_text : Pair → List ℕ
signed_line_text pair = pair_text true pair

abbrev pub lines_text : List Pair → List ℕ
lines_text pairs = flat_map line_text pairs

-- the new content begins with the old
pub record Keeps (old new : List ℕ) : Type 0 where
  pub kept : IsPrefix old new
