-- The tables whose events lack something.
use Rattle.std.specs.Prelude.{◌≡◌, ◌≤◌, ◌<◌, ◌+◌, ◌==◌, ◌&&◌, not, ℕ, nat_lt, Bool, true, false, if◌then◌else◌, List, [], ◌∷◌, ◌++◌, length, codes, decimal}
use Rattle.std.specs.Bool.{beq}
use Rattle.std.specs.List.{flat_map, list_any}
use Rattle.changed_rows.specs.declared.lacks.Lacks.{Lacks}
use Rattle.changed_rows.specs.declared.count.TableName.{TableName}
use Rattle.changed_rows.specs.Counted.{Name, same_name, name_of, name_text}
use Rattle.changed_rows.specs.Names.{up_to_most}

-- The tables whose events lack the same things: how many there are, and the names of the first three, with commas
-- between them.
pub record TableGroup : Type 0 where
  pub lacks : Lacks
  pub tables : ℕ
  pub names : List ℕ

-- ---- the tables

abbrev pub group_of : Lacks → List ℕ → TableGroup
group_of lacks name = record { lacks = lacks; tables = 1; names = name }

abbrev pub one_more : List ℕ → TableGroup → TableGroup
one_more name g = record {
  lacks = g.lacks;
  tables = up_to_most (g.tables + 1);
  names = if nat_lt g.tables 3 then g.names ++ (codes ", " ++ name) else g.names;
}

abbrev pub same_lacks : Lacks → Lacks → Bool
same_lacks a b = beq a.signs b.signs && (beq a.names b.names && (beq a.charsets b.charsets && (beq a.values b.values && beq a.zeros b.zeros)))

-- A table of this name is added to the group of those that lack the same; the first of them makes a new group, after
-- the others.
unfoldable pub with_table : Lacks → List ℕ → List TableGroup → List TableGroup
with_table lacks name [] = group_of lacks name ∷ []
with_table lacks name (g ∷ gs) = if same_lacks g.lacks lacks then one_more name g ∷ gs else g ∷ with_table lacks name gs

-- whether a table of this name is one of these
abbrev pub is_known : Name → List TableName → Bool
is_known name told = list_any (λ n. same_name name (name_of n)) told

-- A table of this name, which lacks something, is taken in: nothing changes if one of its name was taken in before, and no
-- group does if as many were as are told of.
pub record TakesTable (name : Name) (lacks : Lacks) (told : List TableName) (groups : List TableGroup) (new_told : List TableName) (new : List TableGroup) : Type 0 where
  pub known : is_known name told ≡ true → (new_told ≡ told) × (new ≡ groups)
  pub full : 1024 ≤ length told → new ≡ groups
  pub added : is_known name told ≡ false → length told < 1024
      → (n : TableName) × (name_of n ≡ name) × (new ≡ with_table lacks (name_text n) groups) × (is_known name new_told ≡ true)

-- ---- what is told of them

abbrev pub item : Bool → List ℕ → List ℕ
item is_lacking text = if is_lacking then text else []

abbrev pub lacks_text : Lacks → List ℕ
lacks_text l =
    item l.names (codes "no names (columns are @0, @1 ..: mysqlbinlog's @1, @2 ..), ")
    ++ (item l.signs (codes "no signs (unsigned numbers may be negative), ")
    ++ (item l.charsets (codes "no character sets (texts may be wrong letters), ")
    ++ (item l.values (codes "no names of ENUM and SET values (they are numbers), ")
    ++ item l.zeros (codes "no BINARY types (zero bytes at their ends are missing), "))))

-- the line that tells what the events of these tables lack
abbrev pub lack_note : List ℕ → Lacks → List ℕ
lack_note who l = codes "changes: " ++ (who ++ (codes ": the server logged " ++ (lacks_text l ++ codes "by its binlog_row_metadata\n")))

-- whether this is one table, and no other may be
abbrev pub is_one : Bool → TableGroup → Bool
is_one has_more g = g.tables == 1 && not has_more

-- how many tables there are, or how many at least, and the names of the first ones
abbrev pub numbered : Bool → ℕ → List ℕ → List ℕ
numbered has_more tables names =
    if has_more then decimal tables ++ (codes " tables and more, as " ++ names) else decimal tables ++ (codes " tables, as " ++ names)

-- the name of one table; of several, how many there are, and the names of the first ones
abbrev pub who_text : Bool → TableGroup → List ℕ
who_text has_more g = if is_one has_more g then g.names else numbered has_more g.tables g.names

abbrev pub groups_text : Bool → List TableGroup → List ℕ
groups_text has_more gs = flat_map (λ g. lack_note (who_text has_more g) g.lacks) gs
