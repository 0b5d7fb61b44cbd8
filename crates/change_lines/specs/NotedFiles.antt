-- What a file says of changes that its rows don't show. It is a module of its own because Settings is a type of the code.
use Rattle.std.specs.Prelude.{◌≡◌, ℕ, Bool, true, false, List, [], ◌∷◌, ◌++◌, length, Result, Ok, Err, ◌+◌}
use Rattle.changed_rows.specs.Names.{up_to_most}
use Rattle.change_lines.specs.declared.error.Failure.{Failure}
use Rattle.change_lines.specs.declared.error.Failure.TheVariants as failure
use Rattle.mysql_binlog_rows.specs.Images.{Pair, pair}
use Rattle.binlog_events.specs.declared.error.FileError.{FileError}
use Rattle.binlog_file.specs.Events.{Event, glance_of, is_binlog}
use Rattle.binlog_file.specs.Changes.{Wanted, Spot, first_spot}
use Rattle.binlog_file.specs.LentEvents.{Shows, GoesPast}
use Rattle.binlog_file.specs.declared.lent_changes.LentEvent.{LentEvent}
use Rattle.binlog_file.specs.declared.lent_changes.LentEvent.TheVariants as lent
use Rattle.changed_rows.specs.declared.filter.Positions.{Positions}
use Rattle.changed_rows.specs.declared.gaps.Gaps.{Gaps}
use Rattle.changed_rows.specs.Filters.{wanted_by}
use Rattle.changed_rows.specs.Gaps.{no_gaps}
use Rattle.change_lines.specs.declared.run.Settings.{Settings}
use Rattle.change_lines.specs.declared.run.Printed.{Printed}
use Rattle.change_lines.specs.declared.run.Printed.TheVariants as printed
use Rattle.change_lines.specs.Rows.{BeginsWith, IsRowCount}
use Rattle.change_lines.specs.FaultyRows.{IsSkippedAt}
use Rattle.change_lines.specs.Failures.{IsOfRow, IsNotOfRow}
use Rattle.change_lines.specs.Lines.{gaps_past, open_past, IsEnd}

-- What came of the rows of an event: all were printed, and there are so many; or, where such events are skipped, those
-- before the one with this error. An event that is no rows event that is wanted has none.
abbrev pub IsPrinted : Bool → LentEvent → Printed → Type 0
IsPrinted skips (lent.Other o) r = r ≡ printed.All 0
IsPrinted skips (lent.Rows c) (printed.All n) = IsRowCount c n
IsPrinted skips (lent.Rows c) (printed.UpTo e) =
    (skips ≡ true) × (ps : List Pair) × (rest : List ℕ) × BeginsWith (pair c.table c.rows) c.left ps rest × IsSkippedAt c (length ps) rest e

-- the error of an event that was skipped
abbrev pub faults_of : Printed → List FileError
faults_of (printed.All n) = []
faults_of (printed.UpTo e) = e ∷ []

-- how many events were skipped, up to the most that a number holds, by how many were before one
abbrev pub skipped_past : Printed → ℕ → ℕ
skipped_past (printed.All n) old = old
skipped_past (printed.UpTo e) old = up_to_most (old + 1)

-- What came of the rows of an event, by the result of printing them: the error of a row is no failure where such events are
-- skipped, and any other failure stays one.
abbrev pub Skips : Bool → Result ℕ Failure → Result Printed Failure → Type 0
Skips skips (Ok n) result = result ≡ Ok (printed.All n)
Skips skips (Err why) (Ok (printed.All n)) = ⊥
Skips skips (Err why) (Ok (printed.UpTo e)) = (skips ≡ true) × (why ≡ failure.File e) × IsOfRow e.error
Skips skips (Err why) (Err again) = (again ≡ why) × (skips ≡ true → IsNotOfRow why)

-- What events say that are read one after the other from a spot on, where a transaction is open or not and this was
-- said before, up to another; and the errors of those that were skipped, in order.
abbrev pub AreNoted : Bool → Wanted → Positions → Spot → Bool → Gaps → List Event → Spot → Bool → Gaps → List FileError → Type 0
AreNoted skips wanted p old is_open gaps [] new after noted faults = (new ≡ old) × (after ≡ is_open) × (noted ≡ gaps) × (faults ≡ [])
AreNoted skips wanted p old is_open gaps (e ∷ es) new after noted faults =
    (mid : Spot) × GoesPast old e mid
    × (x : LentEvent) × Shows wanted mid.in_force.tables (glance_of e) x
    × (r : Printed) × IsPrinted skips x r
    × (more : List FileError) × AreNoted skips wanted p mid (open_past is_open x) (gaps_past p is_open r x gaps) es new after noted more
    × (faults ≡ faults_of r ++ more)

-- what all events from a spot on say, up to the end or the stop position, and the errors of those that were skipped
pub record AreNotedToEnd (skips : Bool) (wanted : Wanted) (p : Positions) (from : Spot) (is_open : Bool) (gaps noted : Gaps) (faults : List FileError) : Type 0 where
  pub events : List Event
  pub end : Spot
  pub after : Bool
  pub said : AreNoted skips wanted p from is_open gaps events end after noted faults
  pub is_end : IsEnd p.stop end

-- what a file of these bytes says, and the errors of its events that were skipped
abbrev pub AreAllNoted : Settings → List ℕ → Gaps → List FileError → Type 0
AreAllNoted settings x noted faults =
    (is_binlog x ≡ true) × AreNotedToEnd settings.skips_faulty (wanted_by settings.filter) settings.filter.positions (first_spot x) false no_gaps noted faults
