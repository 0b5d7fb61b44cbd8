-- Comparing two lists of values compares their cells.
use Rattle.std.proofs.Common.{◌≡◌, List, map, Option, Some, None}
use mathlib.Core.Path.{refl, ◌∙◌, sym}
use Rattle.std.specs.Option.{option_map, option_eq}
use Rattle.std.specs.Ordering.{on}
use Rattle.std.specs.Cmp.Lexicographic.{pointwise}
use Rattle.std.specs.Cmp.Derive.Mapped.{pointwise-map}
use Rattle.binlog_cells.specs.declared.value.BinlogValue.{BinlogValue}
use Rattle.binlog_cells.specs.declared.value.lent.LentCell.{LentCell}
use Rattle.binlog_cells.specs.Cells.{cell_of}
use Rattle.binlog_cells.specs.LentCells.{lent_cell, lent_values}
use Rattle.binlog_cells.specs.Equality.{same_cell}

same_maybe : (a b : Option BinlogValue) → option_eq (on cell_of same_cell) a b ≡ option_eq same_cell (option_map cell_of a) (option_map cell_of b)
same_maybe None None = refl
same_maybe None (Some y) = refl
same_maybe (Some x) None = refl
same_maybe (Some x) (Some y) = refl

pub same_values : (xs ys : List (Option BinlogValue)) → pointwise (option_eq (on cell_of same_cell)) xs ys ≡ pointwise (option_eq same_cell) (map (option_map cell_of) xs) (map (option_map cell_of) ys)
same_values xs ys = (λ i. pointwise (λ a b. same_maybe a b i) xs ys) ∙ sym (pointwise-map (option_map cell_of) (option_eq same_cell) xs ys)

-- the same for cells that are lent
pub same_cells : (xs ys : List LentCell) → pointwise (on lent_cell same_cell) xs ys ≡ pointwise (option_eq same_cell) (lent_values xs) (lent_values ys)
same_cells xs ys = sym (pointwise-map (λ c. Some (lent_cell c)) (option_eq same_cell) xs ys)
