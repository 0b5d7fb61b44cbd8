-- The values of a row.
use Rattle.std.specs.Prelude.{List, [], ◌∷◌, Option, Some, None, ⊤}
use Rattle.binlog_cells.specs.Cells.{Cell}

-- no value was taken out of the row
abbrev pub AreThere : List (Option Cell) → Type 0
AreThere [] = ⊤
AreThere (Some v ∷ values) = AreThere values
AreThere (None ∷ values) = ⊥
