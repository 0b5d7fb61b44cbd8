-- Which of the names that were given came. Of those that are excluded nothing is asked.
use Rattle.std.specs.Prelude.{◌≡◌, ℕ, not, Bool, List, [], ◌∷◌, ◌++◌, map, filter, bytes_eq}
use Rattle.std.specs.List.{list_any}
use Rattle.std.specs.Borrow.{Bor}
use Rattle.std.specs.Str.{str_eq_ignore_ascii_case}
use Rattle.changed_rows.specs.declared.table_names.TableNames.{TableNames}
use Rattle.changed_rows.specs.declared.pattern.Case.TheVariants as case
use Rattle.changed_rows.specs.declared.named.NameKind.{NameKind}
use Rattle.changed_rows.specs.declared.named.NameKind.TheVariants as kind
use Rattle.changed_rows.specs.declared.named.MissingName.{MissingName}
use Rattle.changed_rows.specs.declared.named.Came.{Came}
use Rattle.changed_rows.specs.declared.named.Named.{Named}
use Rattle.changed_rows.specs.Patterns.{matches_table}
use Rattle.changed_rows.specs.Counted.{Name}

-- whether a text is the name of a table's database, or a pattern that matches the table
abbrev pub names_it : NameKind → List ℕ → Name → Bool
names_it kind.Database text t = bytes_eq text t.0
names_it kind.Table text t = matches_table case.Exact text t.0 t.1

-- the same, where the case of ASCII letters doesn't count
abbrev pub names_alike : NameKind → List ℕ → Name → Bool
names_alike kind.Database text t = str_eq_ignore_ascii_case text t.0
names_alike kind.Table text t = matches_table case.Ignored text t.0 t.1

-- what came of a name, if these tables came
abbrev pub came_of : NameKind → List Name → List ℕ → Came
came_of kind tables text = record {
  exactly = list_any (names_it kind text) tables;
  in_any_case = list_any (names_alike kind text) tables;
}

-- this is what came of the names, if these tables came
pub record IsNamed (names : TableNames) (came : List Name) (n : Named) : Type 0 where
  pub databases : n.databases.items ≡ map (λ name. came_of kind.Database came name.now) names.databases.now
  pub tables : n.tables.items ≡ map (λ name. came_of kind.Table came name.now) names.tables.now

-- a table came after all that came before
abbrev pub SeesMore : TableNames → Name → Named → Named → Type 0
SeesMore names t old new = (before : List Name) → IsNamed names before old → IsNamed names (before ++ t ∷ []) new

-- The names of this kind that are missing if these tables came: those that are of none of them. One of them has
-- another case if it is the name of one but for the case of ASCII letters.
abbrev pub missing_of : NameKind → List Name → List (Bor (List ℕ)) → List MissingName
missing_of kind tables names =
    map (λ name. record { kind = kind; name = name; has_other_case = list_any (names_alike kind name.now) tables })
    (filter (λ name. not (list_any (names_it kind name.now) tables)) names)

-- first the databases, then the tables, each as they were given
abbrev pub missing_names : TableNames → List Name → List MissingName
missing_names names tables = missing_of kind.Database tables names.databases.now ++ missing_of kind.Table tables names.tables.now
