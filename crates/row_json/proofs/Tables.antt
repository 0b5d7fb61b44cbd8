-- The columns of a table, one by one.
use Rattle.std.proofs.Common.{◌≡◌, ℕ, ◌+◌, List, [], ◌∷◌, ◌++◌, sym, ap, ◌∙◌, append_assoc, add-one}
use Rattle.std.specs.Prelude.{Result, Ok}
use Rattle.binlog_base.specs.declared.fault.Fault.{Fault}
use Rattle.binlog_base.specs.Items.{before_fault}
use Rattle.binlog_table.specs.TableColumns as table
use Rattle.row_json.specs.Columns.{Column, Names, column_of, columns_from, names_after}

pub columns_step : (all cols new : List Column) (n m : ℕ) (names left : Names) (s : table.Column) (xs ys : List (Result table.Column Fault)) (c : Column) → all ≡ cols ++ columns_from n names (before_fault xs) → xs ≡ Ok s ∷ ys → c ≡ column_of n names s →
    left ≡ names_after s.column_type names → new ≡ cols ++ c ∷ [] → m ≡ n + 1 → all ≡ new ++ columns_from m left (before_fault ys)
columns_step all cols new n m names left s xs ys c so_far first is after pushed more =
    rw (pushed, is, after, more, add-one) (so_far ∙ (ap (λ (l : List (Result table.Column Fault)). cols ++ columns_from n names (before_fault l)) first ∙ sym (append_assoc cols (column_of n names s ∷ []) _)))
