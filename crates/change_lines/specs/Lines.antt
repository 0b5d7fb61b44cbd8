-- The lines of a file's rows.
use Rattle.std.specs.Prelude.{◌≡◌, ◌⊎◌, ℕ, Bool, List, [], ◌∷◌, ◌++◌, true, length, codes, decimal, Option, Some, None, MatchOption, if◌then◌else◌, ⊤}
use Rattle.binlog_events.specs.declared.error.FileError.{FileError}
use Rattle.binlog_table.specs.TableMap.{TableMap}
use Rattle.mysql_binlog_rows.specs.Images.{Pair, pair}
use Rattle.mysql_binlog_rows.specs.Cover.{Covers}
use Rattle.binlog_file.specs.Events.{Event, glance_of}
use Rattle.binlog_file.specs.Changes.{Wanted, Spot}
use Rattle.binlog_file.specs.LentChanges.{LentChange}
use Rattle.binlog_file.specs.LentEvents.{Shows, GoesPast}
use Rattle.binlog_file.specs.declared.lent_changes.LentEvent.{LentEvent}
use Rattle.binlog_file.specs.declared.lent_changes.LentEvent.TheVariants as lent
use Rattle.row_json.specs.Columns.{columns_of}
use Rattle.row_json.specs.Rows.{IsLine}
use Rattle.row_lines.specs.Lines.{signed_line_text}
use Rattle.row_lines.specs.Names.{quoted_table}
use Rattle.change_lines.specs.declared.run.Form.{Form}
use Rattle.change_lines.specs.declared.run.Form.TheVariants as form
use Rattle.change_lines.specs.declared.run.Printed.{Printed}
use Rattle.change_lines.specs.declared.run.Printed.TheVariants as printed
use Rattle.change_lines.specs.declared.run.Settings.{Settings}
use Rattle.changed_rows.specs.declared.filter.Positions.{Positions}
use Rattle.changed_rows.specs.Filters.{start_sought, is_among}
use Rattle.changed_rows.specs.Names.{up_to_most}
use Rattle.changed_rows.specs.Gtids.{gtid_after}
use Rattle.changed_rows.specs.Transactions.{open_after}
use Rattle.changed_rows.specs.Gaps.{gap_of, gap_of_rows, with_gap}
use Rattle.changed_rows.specs.declared.gaps.Gaps.{Gaps}
use Rattle.changed_rows.specs.Origins.{member_of_row}
use Rattle.change_lines.specs.Outputs.{Outputs}
use Rattle.change_lines.specs.Rows.{AreLinesBy, BeginsWith}
use Rattle.change_lines.specs.FaultyRows.{IsSkippedAt}

-- ---- the rows of an event

-- `FILE:POS db.table `, with which a line of text begins
abbrev pub place_text : List ℕ → ℕ → TableMap → List ℕ
place_text file at t = file ++ (codes ":" ++ (decimal at ++ (codes " " ++ (quoted_table t.database t.table ++ codes " "))))

-- the line of the row of this number in the event
abbrev pub IsRowLine : Form → List ℕ → Option (List ℕ) → LentChange → ℕ → Pair → List ℕ → Type 0
IsRowLine form.Json file gtid c row p line = IsLine (columns_of c.table) c.rows (member_of_row file gtid c.origin c.table (up_to_most row)) p line
IsRowLine form.Text file gtid c row p line = line ≡ place_text file c.origin.position c.table ++ signed_line_text p
IsRowLine form.Count file gtid c row p line = line ≡ []

-- the lines of these rows, of which the first has this number
abbrev pub AreRowLines : Form → List ℕ → Option (List ℕ) → LentChange → ℕ → List Pair → List ℕ → Type 0
AreRowLines f file gtid c = AreLinesBy (IsRowLine f file gtid c)

-- how rows are printed: the form of their lines, and whether an event is skipped from its first row on that can't be
-- read or written
pub record Manner : Type 0 where
  pub form : Form
  pub skips : Bool

abbrev pub manner_of : Settings → Manner
manner_of settings = record { form = settings.form; skips = settings.skips_faulty }

-- the lines of the rows of an event that is skipped, before the one with this error
pub record AreSkippedLines (f : Form) (file : List ℕ) (gtid : Option (List ℕ)) (c : LentChange) (text : List ℕ) : Type 0 where
  pub pairs : List Pair
  pub rest : List ℕ
  pub error : FileError
  pub begins : BeginsWith (pair c.table c.rows) c.left pairs rest
  pub lines : AreRowLines f file gtid c 0 pairs text
  pub skipped : IsSkippedAt c (length pairs) rest error

-- ---- the events of a file

-- A rows event that is wanted gives the lines of all its rows, or of those before it is skipped, where such events are;
-- any other event gives none.
abbrev pub AreEventLines : Manner → List ℕ → Option (List ℕ) → LentEvent → List ℕ → Type 0
AreEventLines m file gtid (lent.Other o) text = text ≡ []
AreEventLines m file gtid (lent.Rows c) text =
    ((ps : List Pair) × Covers (pair c.table c.rows) c.left ps None × AreRowLines m.form file gtid c 0 ps text)
    ⊎ ((m.skips ≡ true) × AreSkippedLines m.form file gtid c text)

-- the GTID that is in force after an event
abbrev pub gtid_past : Option (List ℕ) → LentEvent → Option (List ℕ)
gtid_past old (lent.Rows c) = old
gtid_past old (lent.Other o) = gtid_after old o

-- what is said of changes by the rows of an event: one that is skipped isn't one without rows
abbrev pub gaps_of : Printed → Gaps → Gaps
gaps_of (printed.All n) old = with_gap (gap_of_rows n) old
gaps_of (printed.UpTo e) old = old

-- What is said of changes up to the end of an event of whose rows this came. Of the events that are no rows events
-- that are wanted, those count that begin at these positions.
abbrev pub gaps_past : Positions → Bool → Printed → LentEvent → Gaps → Gaps
gaps_past p is_open r (lent.Rows c) old = gaps_of r old
gaps_past p is_open r (lent.Other o) old = if is_among p o.origin.position then with_gap (gap_of is_open o) old else old

-- whether a transaction is open after an event
abbrev pub open_past : Bool → LentEvent → Bool
open_past is_open (lent.Rows c) = is_open
open_past is_open (lent.Other o) = open_after is_open o

-- the reading ends at the stop position, or, without one, where no bytes are left
abbrev pub IsEnd : Option ℕ → Spot → Type 0
IsEnd stop s = MatchOption stop (s.place.left ≡ []) (λ n. s.place.at ≡ n)

-- Events that are read one after the other from a spot on, where this GTID is in force, up to another, and
-- their lines.
abbrev pub AreLines : Manner → Wanted → List ℕ → Spot → Option (List ℕ) → List Event → List ℕ → Spot → Option (List ℕ) → Type 0
AreLines m wanted file old gtid [] text new after = (new ≡ old) × (after ≡ gtid) × (text ≡ [])
AreLines m wanted file old gtid (e ∷ es) text new after =
    (mid : Spot) × GoesPast old e mid
    × (x : LentEvent) × Shows wanted mid.in_force.tables (glance_of e) x
    × (first more : List ℕ) × AreEventLines m file gtid x first
    × AreLines m wanted file mid (gtid_past gtid x) es more new after
    × (text ≡ first ++ more)

-- What an event gives was written.
abbrev pub WritesEvent : Manner → List ℕ → Option (List ℕ) → LentEvent → Option (List ℕ) → List ℕ → Option (List ℕ) → List ℕ → Type 0
WritesEvent m file gtid x old held new left = (text : List ℕ) × AreEventLines m file gtid x text × Outputs old held text new left

-- an event begins at a position
abbrev pub BeginsAt : ℕ → List Event → Type 0
BeginsAt n [] = ⊥
BeginsAt n (e ∷ es) = (e.position ≡ n) ⊎ BeginsAt n es

-- an event begins at the position, where one is looked for
abbrev pub IsBegun : Option ℕ → List Event → Type 0
IsBegun None es = ⊤
IsBegun (Some start) es = BeginsAt start es

-- What is printed of a file from a spot on, up to its end or the stop position, was written.
pub record Writes (m : Manner) (wanted : Wanted) (file : List ℕ) (p : Positions) (from : Spot) (gtid : Option (List ℕ)) (old : Option (List ℕ)) (held : List ℕ) (new : Option (List ℕ)) (left : List ℕ) : Type 0 where
  pub events : List Event
  pub text : List ℕ
  pub end : Spot
  pub after : Option (List ℕ)
  pub lines : AreLines m wanted file from gtid events text end after
  pub is_end : IsEnd p.stop end
  pub begun : IsBegun (start_sought p) events
  pub outputs : Outputs old held text new left
