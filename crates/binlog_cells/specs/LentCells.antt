-- What lent cells are, whatever their place in memory.
use Rattle.std.specs.Prelude.{List, map, Option, Some}
use Rattle.std.specs.Fmt.{decimal}
use Rattle.binlog_base.specs.Values.{Null, Bytes, Int, UInt, Float, Double, Date, Time}
use Rattle.binlog_values.specs.DecimalText.{decimal_text}
use Rattle.binlog_cells.specs.declared.value.lent.LentCell.{LentCell}
use Rattle.binlog_cells.specs.declared.value.lent.LentCell.TheVariants as lent
use Rattle.binlog_cells.specs.Cells.{Cell, PlainCell, JsonCell, DiffsCell, timestamp_text}

-- The cell: for a year, a timestamp and a decimal the text that an owned cell has.
abbrev pub lent_cell : LentCell → Cell
lent_cell lent.Null = PlainCell Null
lent_cell (lent.Bytes bytes) = PlainCell (Bytes bytes.now)
lent_cell (lent.Int number) = PlainCell (Int number)
lent_cell (lent.UInt number) = PlainCell (UInt number)
lent_cell (lent.Float bits) = PlainCell (Float bits)
lent_cell (lent.Double bits) = PlainCell (Double bits)
lent_cell (lent.Date y m d h i s u) = PlainCell (Date y m d h i s u)
lent_cell (lent.Time is_negative d h i s u) = PlainCell (Time is_negative d h i s u)
lent_cell (lent.Year year) = PlainCell (Bytes (decimal year.0))
lent_cell (lent.Timestamp t) = PlainCell (Bytes (timestamp_text (t.seconds, t.microseconds)))
lent_cell (lent.Decimal d) = PlainCell (Bytes (decimal_text d))
lent_cell (lent.Json value) = JsonCell value
lent_cell (lent.Diffs diffs) = DiffsCell diffs

-- the values of a row: none was taken
abbrev pub lent_values : List LentCell → List (Option Cell)
lent_values cells = map (λ c. Some (lent_cell c)) cells
