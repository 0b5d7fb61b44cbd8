-- When two cells are equal.
use Rattle.std.specs.Prelude.{Bool, false}
use Rattle.std.specs.Cmp.Lexicographic.{pointwise}
use Rattle.binlog_base.specs.Equality.{same_plain}
use Rattle.binlog_values.specs.JsonEquality.{same_json, same_diff}
use Rattle.binlog_cells.specs.Cells.{Cell, PlainCell, JsonCell, DiffsCell}

-- they have the same kind of value, and the same value
abbrev pub same_cell : Cell → Cell → Bool
same_cell (PlainCell v) (PlainCell w) = same_plain v w
same_cell (JsonCell v) (JsonCell w) = same_json v w
same_cell (DiffsCell ds) (DiffsCell es) = pointwise same_diff ds es
same_cell _ _ = false
