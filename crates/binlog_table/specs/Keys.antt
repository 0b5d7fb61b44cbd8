-- The columns of a table's primary key.
use Rattle.std.specs.Prelude.{◌≡◌, ℕ, suc, ◌≤◌, ◌==◌, ◌&&◌, ◌||◌, nat_lt, Bool, false, List, [], ◌∷◌, ◌++◌, map, length, Option, Some, None, Result, Ok, Err, if◌then◌else◌}
use Rattle.binlog_base.specs.declared.fault.Fault.{Fault}
use Rattle.binlog_base.specs.Items.{before_fault, first_fault, result_map}

-- the items of a key: those of the list without prefixes, then the columns of the list with
-- prefixes
abbrev pub key_items : List (Result ℕ Fault) → List (Result (ℕ × ℕ) Fault) → List (Result ℕ Fault)
key_items simple prefixed = simple ++ map (λ r. result_map (λ k. k.0) r) prefixed

-- the longest prefix of numbers of which each is above those before it, and none is below low
abbrev pub increasing_from : ℕ → List ℕ → List ℕ
increasing_from low [] = []
increasing_from low (n ∷ ns) = if nat_lt n low then [] else n ∷ increasing_from (suc n) ns

-- the longest strictly increasing prefix
abbrev pub increasing_prefix : List ℕ → List ℕ
increasing_prefix ns = increasing_from 0 ns

-- the column after the last one of an increasing list
abbrev pub after_from : ℕ → List ℕ → ℕ
after_from low [] = low
after_from low (n ∷ ns) = after_from (suc n) ns

abbrev pub contains : ℕ → List ℕ → Bool
contains i [] = false
contains i (n ∷ ns) = i == n || contains i ns

-- the value, or the fault where there is one
abbrev pub unless : {A : Type 0} → Option Fault → A → Result A Fault
unless None x = Ok x
unless (Some e) x = Err e

-- the key columns: the longest increasing prefix of the numbers before the first fault
abbrev pub key_columns : List (Result ℕ Fault) → List ℕ
key_columns keys = increasing_prefix (before_fault keys)

-- The fault of a column: the first fault belongs to the column after the last key column, where all
-- numbers before the fault are key columns; else to none.
abbrev pub key_fault : List (Result ℕ Fault) → ℕ → Option Fault
key_fault keys i =
    if (length (key_columns keys) == length (before_fault keys)) && (i == after_from 0 (key_columns keys)) then first_fault keys else None

-- whether column i is a key column
unfoldable pub key_at : List (Result ℕ Fault) → ℕ → Result Bool Fault
key_at keys i = unless (key_fault keys i) (contains i (key_columns keys))

-- each number is above those before it, and none is below low
abbrev pub IsIncreasing : ℕ → List ℕ → Type 0
IsIncreasing low [] = Unit {0}
IsIncreasing low (n ∷ ns) = (low ≤ n) × IsIncreasing (suc n) ns

-- this prefix of the list increases, and no longer one does
abbrev pub IsLongestIncreasing : List ℕ → List ℕ → Type 0
IsLongestIncreasing ns prefix =
    (rest : List ℕ) × (ns ≡ prefix ++ rest) × IsIncreasing 0 prefix × ((m : ℕ) (more : List ℕ) → rest ≡ m ∷ more → ¬ IsIncreasing 0 (prefix ++ m ∷ []))
