-- How the lines of a table are found: lines ascend by their kinds, and those of columns and of keys by their tables.
use Rattle.std.specs.Prelude.{◌≡◌, ◌≢◌, ℕ, ◌+◌, ◌<◌, ◌≤◌, if◌then◌else◌, codes, List, [], ◌∷◌, ◌++◌, length, slice_index_or, Result, Ok, Err}
use Rattle.std.specs.Ordering.{nat_cmp, ordering_then, is_eq}
use Rattle.std.specs.declared.cmp.Ordering.{Ordering}
use Rattle.std.specs.declared.cmp.Ordering.TheVariants as order
use Rattle.std.specs.Str.{bytes_eq}
use Rattle.table_schema.specs.declared.fault.SchemaFault.{SchemaFault}
use Rattle.table_schema.specs.declared.search.Target as target
use Rattle.table_schema.specs.Texts.{pieces}
use Rattle.table_schema.specs.Schemas.{Column}
use Rattle.table_schema.specs.Lines.{Names, Target, ColumnLine, KeyLine, names_by, column_fields, key_fields, column_of, names_order}

-- what is looked for, without where it lies in memory
abbrev pub target_of : target.Target → Target
target_of t = record { rank = t.rank; names = record { database = t.database.now; table = t.table.now } }

-- the kinds of lines in their order
abbrev pub rank_of : List ℕ → ℕ
rank_of word =
    if bytes_eq word (codes "column") then 1
    else if bytes_eq word (codes "key") then 2
    else if bytes_eq word (codes "end") then 3
    else 0

-- the table of a line, by the fields behind its word
abbrev pub names_of : List (List ℕ) → Names
names_of (database ∷ table ∷ more) = names_by database table
names_of _ = names_by [] []

-- where a line stands by those of a kind and a table
abbrev pub order_by : Target → List (List ℕ) → Ordering
order_by target [] = order.Greater
order_by target (word ∷ fields) = ordering_then (nat_cmp (rank_of word) target.rank) (names_order (names_of fields) target.names)

abbrev pub order_of : Target → List ℕ → Ordering
order_of target bytes = order_by target (pieces 9 bytes)

-- so many of the pieces are lines before those that are looked for; the last piece is no line
pub record IsPlace (target : Target) (ps : List (List ℕ)) (p : ℕ) : Type 0 where
  pub within : p < length ps
  pub below : (i : ℕ) → i < p → order_of target (slice_index_or ps i []) ≡ order.Less
  pub above : (i : ℕ) → p ≤ i → i + 1 < length ps → order_of target (slice_index_or ps i []) ≢ order.Less

-- what is taken of the lines that are looked for, which come first
abbrev pub lines_while : {X : Type 0} → (List (List ℕ) → List X) → Target → List (List ℕ) → List X
lines_while taken target [] = []
lines_while taken target (bytes ∷ []) = []
lines_while taken target (bytes ∷ next ∷ more) =
    if is_eq (order_of target bytes) then taken (pieces 9 bytes) ++ lines_while taken target (next ∷ more) else []

-- a column, by the fields of its line
abbrev pub column_or : Result ColumnLine SchemaFault → List Column
column_or (Ok c) = column_of c ∷ []
column_or (Err e) = []

abbrev pub column_taken : List (List ℕ) → List Column
column_taken [] = []
column_taken (word ∷ fields) = column_or (column_fields fields)

-- a column of a unique index, likewise
abbrev pub key_or : Result KeyLine SchemaFault → List KeyLine
key_or (Ok k) = k ∷ []
key_or (Err e) = []

abbrev pub key_taken : List (List ℕ) → List KeyLine
key_taken [] = []
key_taken (word ∷ fields) = key_or (key_fields fields)
