-- The key columns that are left, as columns are asked for in order.
use Rattle.std.specs.Prelude.{◌≡◌, ℕ, suc, ◌+◌, ◌≤◌, ◌-◌, ◌==◌, nat_lt, min, length, Bool, true, false, List, [], ◌∷◌, Option, Some, None, Result, Ok, Err, if◌then◌else◌}
use Rattle.binlog_base.specs.declared.fault.Fault.{Fault}
use Rattle.binlog_table.specs.Keys.{key_items}

-- what is left of the key columns: their items, how many were taken of the two lists, and how many
-- bytes of the lists are left
pub record KeysLeft : Type 0 where
  pub keys : List (Result ℕ Fault)
  pub taken : ℕ
  pub room : ℕ

-- How many items are taken of the two lists once columns took n more items of the key. The first
-- one that is left was taken of the lists beforehand.
abbrev pub keys_taken : KeysLeft → ℕ → ℕ
keys_taken k n = k.taken + min (length k.keys - 1) n

-- two functions of columns agree from column low on
abbrev pub Agree : {A : Type 0} → ℕ → (ℕ → Result A Fault) → (ℕ → Result A Fault) → Type 0
Agree low f g = (i : ℕ) → low ≤ i → f i ≡ g i

-- an item that was taken before it was asked for, and the two lists after it
abbrev pub keys_left : Option (Result ℕ Fault) → List (Result ℕ Fault) → List (Result (ℕ × ℕ) Fault) → List (Result ℕ Fault)
keys_left None simple prefixed = key_items simple prefixed
keys_left (Some x) simple prefixed = x ∷ key_items simple prefixed

-- where no such item was taken, both lists are at their end
abbrev pub IsHeadFirst : Option (Result ℕ Fault) → List (Result ℕ Fault) → List (Result (ℕ × ℕ) Fault) → Type 0
IsHeadFirst None simple prefixed = (simple ≡ []) × (prefixed ≡ [])
IsHeadFirst (Some x) simple prefixed = Unit {0}

-- the first item, if there is one
abbrev pub head_of : {A : Type 0} → List A → Option A
head_of [] = None
head_of (x ∷ xs) = Some x

-- the first item, where it is that number or a fault, and what is left
abbrev pub next_if : ℕ → List (Result ℕ Fault) → Option (Result ℕ Fault) × List (Result ℕ Fault)
next_if i [] = (None, [])
next_if i (Err e ∷ xs) = (Some (Err e), xs)
next_if i (Ok n ∷ xs) = if n == i then (Some (Ok n), xs) else (None, Ok n ∷ xs)

-- whether column i is a key column, by the items that are left after the columns below low
abbrev pub key_from : ℕ → List (Result ℕ Fault) → ℕ → Result Bool Fault
key_from low [] i = Ok false
key_from low (Err e ∷ xs) i = if i == low then Err e else Ok false
key_from low (Ok n ∷ xs) i = if nat_lt n low then Ok false else (if i == n then Ok true else key_from (suc n) xs i)

-- the same for the column that comes j columns after this one
abbrev pub key_left : ℕ → List (Result ℕ Fault) → ℕ → Result Bool Fault
key_left column keys j = key_from column keys (column + j)
