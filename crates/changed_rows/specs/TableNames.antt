-- Which tables are wanted, by their names. It is a module of its own because Filter has TableNames.
use Rattle.std.specs.Prelude.{ℕ, ◌==◌, ◌&&◌, ◌||◌, not, Bool, List, length, bytes_eq}
use Rattle.std.specs.List.{list_any}
use Rattle.changed_rows.specs.declared.pattern.Case.TheVariants as case
use Rattle.changed_rows.specs.declared.table_names.TableNames.{TableNames}
use Rattle.changed_rows.specs.Patterns.{matches_table}

-- no database and no table is named, or one of them is the table's
abbrev pub is_named : TableNames → List ℕ → List ℕ → Bool
is_named names database table =
    (length names.databases.now == 0 && length names.tables.now == 0)
    || (list_any (λ name. bytes_eq name.now database) names.databases.now || list_any (λ name. matches_table case.Exact name.now database table) names.tables.now)

-- one of the databases or of the tables that are excluded is the table's
abbrev pub is_excluded : TableNames → List ℕ → List ℕ → Bool
is_excluded names database table =
    list_any (λ name. bytes_eq name.now database) names.excluded_databases.now
    || list_any (λ name. matches_table case.Exact name.now database table) names.excluded_tables.now

-- it is named, or nothing is; and it isn't excluded, whatever is named beside
abbrev pub wants_table : TableNames → List ℕ → List ℕ → Bool
wants_table names database table = is_named names database table && not (is_excluded names database table)
