-- How many rows of each table changed. It is a module of its own because Counts is a type of the code.
use Rattle.std.specs.Prelude.{◌≡◌, ◌⊎◌, ◌≤◌, ◌+◌, ◌-◌, ◌^◌, ℕ, Bool, true, false, not, ◌&&◌, ◌==◌, if◌then◌else◌, List, [], ◌∷◌, ◌++◌, length, codes, bytes_eq, decimal, map, Option, None, MatchOption}
use Rattle.std.specs.Cmp.Lexicographic.{slice_cmp}
use Rattle.std.specs.List.{list_any, sum_by, flat_map}
use Rattle.std.specs.List.Sorted.{IsStrictlySortedBy}
use Rattle.std.specs.Map.{lookup, values_of}
use Rattle.std.specs.Option.{is_some}
use Rattle.std.specs.Ordering.{nat_cmp, ordering_then}
use Rattle.std.specs.declared.cmp.Ordering.{Ordering}
use Rattle.std.specs.Fmt.{padded_integral, format_spec}
use Rattle.changed_rows.specs.declared.filter.Operation.{Operation}
use Rattle.changed_rows.specs.declared.filter.Operation.TheVariants as operation
use Rattle.changed_rows.specs.declared.count.Changed.{Changed}
use Rattle.changed_rows.specs.declared.count.TableName.{TableName}
use Rattle.changed_rows.specs.declared.count.Counts.{Counts}
use Rattle.row_lines.specs.Names.{shown_table}
use Rattle.changed_rows.specs.Names.{up_to_most}

-- ---- numbers of rows

abbrev pub nothing : Changed
nothing = record { inserted = 0; updated = 0; deleted = 0 }

abbrev pub plus : Changed → Changed → Changed
plus a b = record {
  inserted = up_to_most (a.inserted + b.inserted);
  updated = up_to_most (a.updated + b.updated);
  deleted = up_to_most (a.deleted + b.deleted);
}

-- so many rows more that an operation changed
abbrev pub added : Operation → ℕ → Changed → Changed
added operation.Insert n c = record c { inserted = up_to_most (c.inserted + n) }
added operation.Update n c = record c { updated = up_to_most (c.updated + n) }
added operation.Delete n c = record c { deleted = up_to_most (c.deleted + n) }

-- ---- what is counted

-- the name of a table: that of its database, and its own
abbrev pub Name : Type 0
Name = List ℕ × List ℕ

abbrev pub same_name : Name → Name → Bool
same_name a b = bytes_eq a.0 b.0 && bytes_eq a.1 b.1

abbrev pub name_of : TableName → Name
name_of n = (n.database.items, n.table.items)

-- so many rows of a table, which an operation changed
pub record Counted : Type 0 where
  pub name : Name
  pub operation : Operation
  pub rows : ℕ

abbrev pub inserted_in : Operation → ℕ → ℕ
inserted_in operation.Insert n = n
inserted_in _ n = 0

abbrev pub updated_in : Operation → ℕ → ℕ
updated_in operation.Update n = n
updated_in _ n = 0

abbrev pub deleted_in : Operation → ℕ → ℕ
deleted_in operation.Delete n = n
deleted_in _ n = 0

-- the sum of these numbers of rows, of the tables whose names pass a test
abbrev pub sum_where : (Name → Bool) → (Operation → ℕ → ℕ) → List Counted → ℕ
sum_where test rows xs = up_to_most (sum_by (λ x. if test x.name then rows x.operation x.rows else 0) xs)

abbrev pub changed_where : (Name → Bool) → List Counted → Changed
changed_where test xs = record {
  inserted = sum_where test inserted_in xs;
  updated = sum_where test updated_in xs;
  deleted = sum_where test deleted_in xs;
}

-- ---- the counts

-- the numbers of a table that is counted apart
abbrev pub counted_of : Counts → Name → Option Changed
counted_of c name = lookup (λ n. same_name name (name_of n)) c.tables.entries

abbrev pub has_rows : Name → List Counted → Bool
has_rows name xs = list_any (λ x. same_name name x.name) xs

-- no rows are of the table, or 65,536 others are counted apart
abbrev pub IsLeftOut : List Counted → Counts → Name → Type 0
IsLeftOut xs c name = (has_rows name xs ≡ false) ⊎ (length c.tables.entries ≡ 65536)

-- where rows of a table are that isn't counted apart, rows of each one that is are before them
abbrev pub AreTheFirst : List Counted → Counts → Type 0
AreTheFirst xs c = (front rest : List Counted) (x : Counted) → xs ≡ front ++ x ∷ rest → counted_of c x.name ≡ None → (name : Name) → is_some (counted_of c name) ≡ true → has_rows name front ≡ true

-- These are the numbers of these rows: of each table that is counted apart, and of all others together. The
-- tables that are counted apart are the first ones, up to 65,536.
pub record AreCounts (xs : List Counted) (c : Counts) : Type 0 where
  pub most : length c.tables.entries ≤ 65536
  pub each : (name : Name) → MatchOption (counted_of c name) (IsLeftOut xs c name) (λ changed. (has_rows name xs ≡ true) × (changed ≡ changed_where (same_name name) xs))
  pub first : AreTheFirst xs c
  pub others : c.others ≡ changed_where (λ name. not (is_some (counted_of c name))) xs

-- these rows were counted beside all that was counted before
abbrev pub CountsMore : List Counted → Counts → Counts → Type 0
CountsMore xs old new = (before : List Counted) → AreCounts before old → AreCounts (before ++ xs) new

-- ---- what is printed

-- a number at the right of twelve places
abbrev pub number_text : ℕ → List ℕ
number_text n = padded_integral (format_spec 32 3 0 12 (2 ^ 64 - 1)) false [] (decimal n)

abbrev pub numbers_text : Changed → List ℕ → List ℕ
numbers_text c name = number_text c.inserted ++ (codes " " ++ (number_text c.updated ++ (codes " " ++ (number_text c.deleted ++ (codes "  " ++ (name ++ codes "\n"))))))

-- the name as text that stays on its line
abbrev pub name_text : TableName → List ℕ
name_text n = shown_table n.database.items n.table.items

-- the order of names: that of the bytes of their databases, and in one database that of their own
abbrev pub name_order : Name → Name → Ordering
name_order a b = ordering_then (slice_cmp nat_cmp a.0 b.0) (slice_cmp nat_cmp a.1 b.1)

-- the names of the tables that are counted apart ascend, each once
abbrev pub NamesAscend : Counts → Type 0
NamesAscend c = IsStrictlySortedBy name_order (map (λ e. name_of e.0) c.tables.entries)

-- the numbers of several tables together
abbrev pub sum_of : List Changed → Changed
sum_of cs = record {
  inserted = up_to_most (sum_by (λ c. c.inserted) cs);
  updated = up_to_most (sum_by (λ c. c.updated) cs);
  deleted = up_to_most (sum_by (λ c. c.deleted) cs);
}

abbrev pub is_nothing : Changed → Bool
is_nothing c = c.inserted == 0 && (c.updated == 0 && c.deleted == 0)

abbrev pub others_text : Changed → List ℕ
others_text c = if is_nothing c then [] else numbers_text c (codes "(tables beyond the first 65536)")

abbrev pub head_text : List ℕ
head_text = codes "    inserted      updated      deleted  table\n"

-- A line for each table that is counted apart, in the order of their names, one for the others, if they have
-- rows, and one for all together.
abbrev pub table_text : Counts → List ℕ
table_text c =
    head_text
    ++ (flat_map (λ e. numbers_text e.1 (name_text e.0)) c.tables.entries
    ++ (others_text c.others ++ numbers_text (sum_of (c.others ∷ values_of c.tables.entries)) (codes "(all)")))
