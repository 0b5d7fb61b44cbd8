-- Names of tables, positions, and numbers of rows.
use Rattle.std.specs.Prelude.{◌-◌, ◌^◌, min, ℕ, Bool, true, nat_le, nat_lt, List, ◌++◌, codes, Option, Some, None}

-- `D.T`: the name of a database, a point, and the name of a table
abbrev pub full_name : List ℕ → List ℕ → List ℕ
full_name database table = database ++ (codes "." ++ table)

-- from the start position on
abbrev pub is_from : Option ℕ → ℕ → Bool
is_from None at = true
is_from (Some start) at = nat_le start at

-- before the stop position
abbrev pub is_before : Option ℕ → ℕ → Bool
is_before None at = true
is_before (Some stop) at = nat_lt at stop

-- rows are numbered and counted up to 2^64 - 1
abbrev pub up_to_most : ℕ → ℕ
up_to_most n = min n (2 ^ 64 - 1)
