-- What is printed of which file. It is a module of its own because Arguments is a type of the code.
use Rattle.std.specs.Prelude.{◌≡◌, ℕ, ◌+◌, ◌==◌, ◌&&◌, ◌||◌, not, nat_lt, Bool, true, false, if◌then◌else◌, List, [], length, map, codes, Some, None, unwrap_or, option_map}
use Rattle.std.specs.Borrow.{Bor}
use Rattle.std.specs.List.{list_any}
use Rattle.std.specs.Option.{is_some}
use Rattle.clap.specs.Matches.{matched_of, one_text, raw_values}
use Rattle.clap.specs.declared.parser.matches.Found.{Found}
use Rattle.changed_rows.specs.declared.filter.Positions.{Positions}
use Rattle.change_lines.specs.declared.run.Form.{Form}
use Rattle.change_lines.specs.declared.run.Form.TheVariants as form
use Rattle.change_lines.specs.declared.run.Settings.{Settings}
use Rattle.change_lines.specs.declared.arguments.Arguments.{Arguments}
use Rattle.changed_rows.specs.Letters.{operations_of}
use Rattle.changed_rows.specs.Patterns.{has_point}

-- numbers of rows, lines of text, or else lines of JSON
abbrev pub form_of : Bool → Bool → Form
form_of true is_text = form.Count
form_of false true = form.Text
form_of false false = form.Json

-- The positions of the file with this number among so many: the start position is that of the first file, and
-- the stop position that of the last one.
abbrev pub positions_of : Positions → ℕ → ℕ → Positions
positions_of p files index = record {
  start = if index == 0 then p.start else None;
  stop = if index + 1 == files then p.stop else None;
}

-- what is printed of the file with this number
abbrev pub settings_of : Arguments → ℕ → Bool → Settings
settings_of a index may_wait = record {
  filter = record {
    tables = a.tables;
    operations = a.operations;
    positions = positions_of a.positions (length a.files.now) index;
  };
  form = form_of a.is_count a.is_text;
  skips_faulty = a.skips_faulty;
  may_wait = may_wait;
}

-- the start position is after the stop position
abbrev pub is_after_stop : Positions → Bool
is_after_stop p = is_some p.start && (is_some p.stop && nat_lt (unwrap_or p.stop 0) (unwrap_or p.start 0))

-- both positions are those of one file, and the start position is after the stop position
abbrev pub starts_after_stop : Arguments → Bool
starts_after_stop a = length a.files.now == 1 && is_after_stop a.positions

-- A pattern of `--table` or `--exclude-table` has no point that divides it into a database's and a table's, so
-- that it matches no table.
abbrev pub has_table_without_database : Arguments → Bool
has_table_without_database a =
    list_any (λ name. not (has_point name.now)) a.tables.tables.now
    || list_any (λ name. not (has_point name.now)) a.tables.excluded_tables.now

-- ---- what the words say

-- the texts of these values, in order
abbrev pub texts : List (Bor (List ℕ)) → List (List ℕ)
texts values = map (λ v. v.now) values

-- all values of an option; none if it isn't given
abbrev pub values_of : Found → List ℕ → List (List ℕ)
values_of f name = unwrap_or (option_map raw_values (matched_of f name)) []

-- whether the flag of this name is given, by the one text that `clap` has for it
pub record IsFlag (f : Found) (name : List ℕ) (is : Bool) : Type 0 where
  pub none : one_text f name ≡ None → is ≡ false
  pub given : one_text f name ≡ Some (codes "true") → is ≡ true
  pub not_given : one_text f name ≡ Some (codes "false") → is ≡ false

-- progress is told if that is asked for and nothing says to be quiet
abbrev pub IsProgress : Found → Arguments → Type 0
IsProgress f a = (is : Bool) × IsFlag f (codes "progress") is × (a.is_progress ≡ (is && not a.is_quiet))

-- the operations are those with the letters of `--op`
abbrev pub AreOperations : Found → Arguments → Type 0
AreOperations f a = (letters : List (Bor (List ℕ))) × (texts letters ≡ values_of f (codes "op")) × (a.operations ≡ operations_of letters)

-- The arguments but for the positions are what was found of the options of these names.
pub record AreArguments (f : Found) (a : Arguments) : Type 0 where
  pub files : texts a.files.now ≡ values_of f (codes "file")
  pub databases : texts a.tables.databases.now ≡ values_of f (codes "database")
  pub tables : texts a.tables.tables.now ≡ values_of f (codes "table")
  pub excluded_databases : texts a.tables.excluded_databases.now ≡ values_of f (codes "exclude-database")
  pub excluded_tables : texts a.tables.excluded_tables.now ≡ values_of f (codes "exclude-table")
  pub operations : AreOperations f a
  pub count : IsFlag f (codes "count") a.is_count
  pub text : IsFlag f (codes "text") a.is_text
  pub quiet : IsFlag f (codes "quiet") a.is_quiet
  pub progress : IsProgress f a
  pub skips : IsFlag f (codes "skip-faulty") a.skips_faulty
