-- Columns of a list, by their text and by a longer one.
use Rattle.std.proofs.Common.{◌≡◌, ℕ, ◌+◌, ◌-◌, ◌≤◌, List, [], ◌∷◌, ◌++◌, length, take, drop, map, refl, ap, ◌∙◌, arith, get_or, ◌<◌, zero, suc}
use Rattle.std.proofs.lemmas.List.{take_all, take-append-le, drop-append-le, length-drop, drop_all, map-append}
use Rattle.binlog_base.specs.declared.below.columns.column_list.Listed.{Listed}
use Rattle.binlog_base.specs.declared.below.columns.column_flags.ColumnFlags.{ColumnFlags}
use Rattle.binlog_base.specs.declared.below.columns.column_type.ColumnType.{ColumnType}
use Rattle.binlog_base.specs.Cuts.{cut}
use Rattle.binlog_base.specs.ColumnNames.{TableNames}
use Rattle.binlog_base.specs.ColumnLists.{ColumnList, listed_column, IsInside, AreInside}

-- a part of a text is the same part of a longer one
cut_kept : (s e : ℕ) (xs more : List ℕ) → s ≤ e → e ≤ length xs → cut s e (xs ++ more) ≡ cut s e xs
cut_kept s e xs more le inside =
    ap (take (e - s)) (drop-append-le s xs more (omega (arith, le, inside))) ∙ take-append-le (e - s) (drop s xs) more (omega (arith, length-drop s xs, le, inside))

-- what was added last
cut_last : (xs more : List ℕ) → cut (length xs) (length xs + length more) (xs ++ more) ≡ more
cut_last xs more =
    ap (take (length xs + length more - length xs)) (drop-append-le (length xs) xs more (omega arith) ∙ ap (λ (t : List ℕ). t ++ more) (drop_all (length xs) xs (omega arith))) ∙ take_all (length xs + length more - length xs) more (omega arith)

inside_more : (n m : ℕ) (l : Listed) → n ≤ m → IsInside n l → IsInside m l
inside_more n m l le h = record { order = h.order; inside = omega (arith, h.inside, le) }

pub are_inside_more : (n m : ℕ) (ls : List Listed) → n ≤ m → AreInside n ls → AreInside m ls
are_inside_more n m [] le h = tt
are_inside_more n m (l ∷ ls) le h = (inside_more n m l le h.0, are_inside_more n m ls le h.1)

pub are_inside_last : (n : ℕ) (ls : List Listed) (l : Listed) → AreInside n ls → IsInside n l → AreInside n (ls ++ l ∷ [])
are_inside_last n [] l h is = (is, tt)
are_inside_last n (k ∷ ls) l h is = (h.0, are_inside_last n ls l h.1 is)

-- the names of a table, with one more in the text
abbrev pub with_name : TableNames → List ℕ → TableNames
with_name t name = record t { text = t.text ++ name }

-- the columns so far stay, whatever is added to the text
all_kept : (t : TableNames) (name : List ℕ) (ls : List Listed) → AreInside (length t.text) ls → map (listed_column (with_name t name)) ls ≡ map (listed_column t) ls
all_kept t name [] h = refl
all_kept t name (l ∷ ls) h = rw (cut_kept l.start l.end t.text name h.0.order h.0.inside, all_kept t name ls h.1) refl

abbrev pub list_of : TableNames → List Listed → ColumnList
list_of t ls = record { schema = t.schema; table = t.table; columns = map (listed_column t) ls }

abbrev pub with_column : ColumnList → ColumnType → List ℕ → ColumnFlags → ℕ → ColumnList
with_column l type name flags charset = record { schema = l.schema; table = l.table; columns = l.columns ++ record { column_type = type; schema = l.schema; table = l.table; org_table = l.table; name = name; flags = flags; character_set = charset } ∷ [] }

pub column_added : (t : TableNames) (name : List ℕ) (ls : List Listed) (type : ColumnType) (flags : ColumnFlags) (charset : ℕ) → t.org_table ≡ t.table → AreInside (length t.text) ls
    → list_of (with_name t name) (ls ++ record { column_type = type; flags = flags; character_set = charset; start = length t.text; end = length t.text + length name } ∷ []) ≡ with_column (list_of t ls) type name flags charset
column_added t name ls type flags charset same h =
    rw (map-append, all_kept t name ls h, cut_last t.text name, same) refl

pub inside_at : (n : ℕ) (ls : List Listed) (i : ℕ) (l : Listed) → AreInside n ls → i < length ls → IsInside n (get_or ls i l)
inside_at n [] i l h lt = absurd (omega (arith, lt))
inside_at n (k ∷ ls) zero l h lt = h.0
inside_at n (k ∷ ls) (suc i) l h lt = inside_at n ls i l h.1 (omega (arith, lt))
