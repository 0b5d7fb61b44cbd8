-- Tables of numbers and what each of them means, as MySQL's documentation prints them.
use Rattle.std.specs.Prelude.{ℕ, ◌==◌, if◌then◌else◌, List, [], ◌∷◌, Result, Ok, Err}

-- the conversion of a number by a table: what the table has for the number, or an error that holds
-- the number where it has nothing
abbrev pub from_table : {A E : Type 0} → List (ℕ × A) → (ℕ → E) → ℕ → Result A E
from_table [] refused n = Err (refused n)
from_table (row ∷ rows) refused n = if n == row.0 then Ok row.1 else from_table rows refused n
