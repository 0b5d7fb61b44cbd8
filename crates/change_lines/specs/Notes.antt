-- What is told on standard error.
use Rattle.std.specs.Prelude.{◌≡◌, ◌<◌, ◌+◌, ◌==◌, ◌||◌, ◌⊎◌, not, ℕ, Bool, true, false, if◌then◌else◌, List, [], ◌∷◌, ◌++◌, length, codes, decimal, bytes_eq, Option, Some, None}
use Rattle.std.specs.List.{concat, flat_map}
use Rattle.std.specs.Io.KnownBytes.{Appends}
use Rattle.binlog_events.specs.declared.error.FileError.{FileError}
use Rattle.row_lines.specs.Names.{shown_name}
use Rattle.changed_rows.specs.declared.gaps.Gaps.{Gaps}
use Rattle.changed_rows.specs.declared.named.MissingName.{MissingName}
use Rattle.changed_rows.specs.Endings.{breaks_off}
use Rattle.changed_rows.specs.declared.lacks.Lacks.{Lacks}
use Rattle.changed_rows.specs.declared.count.TableName.{TableName}
use Rattle.changed_rows.specs.Counted.{Name, name_of, name_text}
use Rattle.change_lines.specs.Lacking.{is_known, lack_note}
use Rattle.change_lines.specs.declared.error.Failure.{Failure}
use Rattle.change_lines.specs.declared.error.Failure.TheVariants as failure

-- A text was told: unless something of what was told until then couldn't be written, it was written.
abbrev pub Tells : Bool → Option (List ℕ) → Bool → Option (List ℕ) → List ℕ → Type 0
Tells was_lost old is_lost new text = is_lost ≡ false → (was_lost ≡ false) × Appends old new text

-- some text was told, or none
abbrev pub TellsSome : Bool → Option (List ℕ) → Bool → Option (List ℕ) → Type 0
TellsSome was_lost old is_lost new = (text : List ℕ) × Tells was_lost old is_lost new text

-- a note of the file of this path, which is as it is shown: `changes: PATH: ` and the rest
abbrev pub of_file : List ℕ → List ℕ → List ℕ
of_file path rest = codes "changes: " ++ (path ++ (codes ": " ++ rest))

-- The line that tells a failure of the file of this path, as it is shown. An error of the file is told with its position, in a
-- sentence, and one of the system in a sentence.
abbrev pub IsTold : List ℕ → Failure → List ℕ → Type 0
IsTold path (failure.Unopened e) text = (sentence : List ℕ) × (text ≡ of_file path (sentence ++ codes "\n"))
IsTold path (failure.File e) text = (sentence : List ℕ) × (text ≡ codes "changes: " ++ (path ++ (codes " at " ++ (decimal e.position ++ (codes ": " ++ (sentence ++ codes "\n"))))))
IsTold path (failure.NoEvent n) text = text ≡ of_file path (codes "no event begins at " ++ (decimal n ++ codes "\n"))
IsTold path (failure.Output e) text = (sentence : List ℕ) × (text ≡ codes "changes: the output can't be written: " ++ (sentence ++ codes "\n"))
IsTold path failure.Memory text = text ≡ of_file path (codes "out of memory\n")

-- the line that tells how often a file says something, unless it never does
abbrev pub count_note : List ℕ → List ℕ → ℕ → List ℕ
count_note path what count = if count == 0 then [] else of_file path (what ++ (codes ": " ++ (decimal count ++ codes "\n")))

-- the lines that tell what a file says of changes that its rows don't show
abbrev pub gaps_text : List ℕ → Gaps → List ℕ
gaps_text path g =
    concat (
    count_note path (codes "statements logged as text, so that their rows aren't in the file (binlog_format)") g.statements
    ∷ count_note path (codes "CREATE statements with SELECT, which may have rows as text (binlog_format)") g.creations
    ∷ count_note path (codes "compressed statements, whose rows may not be in the file (log_bin_compress)") g.compressed
    ∷ count_note path (codes "TRUNCATE statements, which have no rows") g.truncations
    ∷ count_note path (codes "ROLLBACK and XA ROLLBACK statements: rows that they roll back are in a file all the same") g.rollbacks
    ∷ count_note path (codes "transactions prepared by XA, whose rows are here whether they were committed or not") g.prepared
    ∷ count_note path (codes "incidents, by which the server says that changes are missing") g.incidents
    ∷ count_note path (codes "rows events without a row, as of inserts of defaults alone (binlog_row_image)") g.without_rows
    ∷ []
    )

-- The line that tells that the file of this path doesn't follow the one before it, which says that another does.
abbrev pub follow_note : Bool → List ℕ → List ℕ → Option (List ℕ) → List ℕ
follow_note is_quiet path file None = []
follow_note is_quiet path file (Some next) =
    if is_quiet || bytes_eq next file then []
    else of_file path (codes "the file before it goes on in " ++ (shown_name next ++ codes "\n"))

-- The line that tells that the file of this path breaks off, by the type of its last event and whether a transaction is
-- open after it.
abbrev pub break_note : Bool → List ℕ → Option ℕ → Bool → List ℕ
break_note is_quiet path None is_open = []
break_note is_quiet path (Some type) is_open =
    if is_quiet || not (breaks_off type is_open) then []
    else of_file path (codes "the file ends within a transaction\n")

-- the lines that tell these errors of the file of this path, which is as it is shown
abbrev pub AreTold : List ℕ → List FileError → List ℕ → Type 0
AreTold path [] text = text ≡ []
AreTold path (e ∷ es) text = (line more : List ℕ) × IsTold path (failure.File e) line × AreTold path es more × (text ≡ line ++ more)

-- Of a file of this path the errors of the events were told that were skipped, and then nothing, or that it breaks off.
-- Where notes are quiet, the errors alone were.
abbrev pub TellsBreak : List ℕ → Bool → List FileError → Bool → Option (List ℕ) → Bool → Option (List ℕ) → Type 0
TellsBreak path is_quiet faults was_lost old is_lost new =
    (first : List ℕ) × AreTold path faults first
    × (last : Option ℕ) × (is_open : Bool) × Tells was_lost old is_lost new (first ++ break_note is_quiet path last is_open)

-- Of a file of this path the errors of the events were told that were skipped, whether it breaks off, and then what it
-- says of changes that its rows don't show. Where notes are quiet, the errors alone were.
abbrev pub TellsFile : List ℕ → Bool → Gaps → List FileError → Bool → Option (List ℕ) → Bool → Option (List ℕ) → Type 0
TellsFile path is_quiet gaps faults was_lost old is_lost new =
    (first : List ℕ) × AreTold path faults first
    × (last : Option ℕ) × (is_open : Bool)
    × Tells was_lost old is_lost new (first ++ (break_note is_quiet path last is_open ++ (if is_quiet then [] else gaps_text path gaps)))

abbrev pub case_text : Bool → List ℕ
case_text has_other_case = if has_other_case then codes ", but of a name that differs by case" else []

-- the line that tells that nothing came of a name that was given
abbrev pub missing_note : MissingName → List ℕ
missing_note m = codes "changes: no event of " ++ (shown_name m.name.now ++ (case_text m.has_other_case ++ codes "\n"))

abbrev pub missing_text : List MissingName → List ℕ
missing_text ms = flat_map missing_note ms

-- ---- at once

-- nothing was told on a writer, or it was of one table more, which is kept among those that were told
abbrev pub TellsAtMostOne : {E T : Type 0} → E → E → List T → List T → Type 0
TellsAtMostOne err err' told told' = ((err' ≡ err) × (told' ≡ told)) ⊎ (length told' ≡ length told + 1)

-- A table of this name, which lacks something, is told of: unless one of its name was told of, or as many were as are at
-- most.
abbrev pub TellsTable : Name → Lacks → List TableName → Bool → Option (List ℕ) → Bool → Option (List ℕ) → Type 0
TellsTable name lacks told was_lost old is_lost new =
    (is_known name told ≡ true → new ≡ old)
    × (is_known name told ≡ false → length told < 1024 → (n : TableName) × (name_of n ≡ name) × Tells was_lost old is_lost new (lack_note (name_text n) lacks))
