-- The cell of a column by its name, and the columns that a change changed.
use Rattle.std.specs.Prelude.{ℕ, ◌==◌, Bool, not, false, List, [], Option, Some, None, take, filter, position, slice_index_or, if◌then◌else◌, option_and_then}
use Rattle.std.specs.Cmp.Lexicographic.{pointwise}
use Rattle.std.specs.List.{range_with_len}
use Rattle.binlog_base.specs.Bits.{count_set}
use Rattle.binlog_base.specs.Values.{ColumnView, value_at}
use Rattle.binlog_cells.specs.Cells.{Cell}
use Rattle.binlog_cells.specs.Equality.{same_cell}
use Rattle.mysql_binlog_rows.specs.Images.{BinlogRow, Pair}
use Rattle.mysql_binlog_rows.specs.RowsEvent.{RowsEvent, image_columns}

-- the place of the first column with this name
abbrev pub place_named : List ℕ → List ColumnView → Option ℕ
place_named name columns = position (λ c. pointwise ◌==◌ c.name name) columns

-- the value of the first column with this name; none if no column has it, or if it was taken
abbrev pub value_named : List ℕ → BinlogRow → Option Cell
value_named name row = option_and_then (value_at row.values) (place_named name row.columns)

-- an image: which columns it has, a bit for each, and their values
pub record Image : Type 0 where
  pub present : List Bool
  pub values : List (Option Cell)

-- the columns of an image; none where the event has no such image
abbrev pub present_in : Option (List Bool) → List Bool
present_in None = []
present_in (Some present) = present

-- the values of a row; none where there is no row
abbrev pub values_in : Option BinlogRow → List (Option Cell)
values_in None = []
values_in (Some row) = row.values

abbrev pub image_with : List Bool → Option BinlogRow → Image
image_with present row = record { present = present; values = values_in row }

-- The value of column i, if the image has it. It stands after those of the columns before it that
-- the image has.
abbrev pub value_of : Image → ℕ → Option Cell
value_of image i = if slice_index_or image.present i false then value_at image.values (count_set (take i image.present)) else None

-- both are there, and they aren't equal
abbrev pub differ : Option Cell → Option Cell → Bool
differ (Some x) (Some y) = not (same_cell x y)
differ _ _ = false

-- both images have column i, and its values differ
abbrev pub is_changed : Image → Image → ℕ → Bool
is_changed before after i = differ (value_of before i) (value_of after i)

abbrev pub image_before : RowsEvent → Pair → Image
image_before e pair = image_with (present_in (image_columns e.num_columns e.before)) pair.0

abbrev pub image_after : RowsEvent → Pair → Image
image_after e pair = image_with (present_in (image_columns e.num_columns e.after)) pair.1

-- the columns of the event that the change of a pair changed, by their numbers, in order
abbrev pub changed_columns : RowsEvent → Pair → List ℕ
changed_columns e pair = filter (is_changed (image_before e pair) (image_after e pair)) (range_with_len 0 e.num_columns)
