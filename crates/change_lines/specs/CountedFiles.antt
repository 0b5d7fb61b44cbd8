-- Which rows of a file are counted. It is a module of its own because Settings is a type of the code.
use Rattle.std.specs.Prelude.{◌≡◌, ◌⊎◌, ℕ, Bool, true, List, [], ◌∷◌, ◌++◌, length, Option, Some, None, ◌==◌, if◌then◌else◌}
use Rattle.mysql_binlog_rows.specs.Images.{Pair, pair}
use Rattle.mysql_binlog_rows.specs.Cover.{Covers}
use Rattle.binlog_events.specs.declared.error.FileError.{FileError}
use Rattle.binlog_file.specs.Events.{Event, glance_of, is_binlog}
use Rattle.binlog_file.specs.Changes.{Wanted, Spot, first_spot}
use Rattle.binlog_file.specs.LentChanges.{LentChange}
use Rattle.binlog_file.specs.LentEvents.{Shows, GoesPast}
use Rattle.binlog_file.specs.declared.lent_changes.LentEvent.{LentEvent}
use Rattle.binlog_file.specs.declared.lent_changes.LentEvent.TheVariants as lent
use Rattle.change_lines.specs.declared.error.Failure.{Failure}
use Rattle.changed_rows.specs.declared.filter.Operation.{Operation}
use Rattle.change_lines.specs.declared.run.Settings.{Settings}
use Rattle.changed_rows.specs.declared.count.Counts.{Counts}
use Rattle.changed_rows.specs.Names.{up_to_most}
use Rattle.changed_rows.specs.Filters.{operation_of, wanted_by}
use Rattle.changed_rows.specs.Counted.{Name, Counted, CountsMore}
use Rattle.change_lines.specs.Rows.{BeginsWith}
use Rattle.change_lines.specs.FaultyRows.{IsSkippedAt}
use Rattle.change_lines.specs.Lines.{IsEnd}
use Rattle.change_lines.specs.Failures.{IsNotOfFile, EndsAtRow, EndsAtEvent, EndsAtHeader, IsInTime, MissesNone, IsMissing}

-- ---- the rows of an event

-- so many rows of a table, if there are any and their operation is known
abbrev pub counted_by : Option Operation → Name → ℕ → List Counted
counted_by None name n = []
counted_by (Some o) name n = if n == 0 then [] else record { name = name; operation = o; rows = n } ∷ []

-- so many rows of an event, whose operation is known: no other is wanted
abbrev pub counted_in : LentChange → ℕ → List Counted
counted_in c n = counted_by (operation_of c.rows.event_type) (c.table.database, c.table.table) (up_to_most n)

-- the rows of an event that is skipped, before the one with this error
pub record AreSkippedRows (c : LentChange) (xs : List Counted) : Type 0 where
  pub pairs : List Pair
  pub rest : List ℕ
  pub error : FileError
  pub begins : BeginsWith (pair c.table c.rows) c.left pairs rest
  pub counted : xs ≡ counted_in c (length pairs)
  pub skipped : IsSkippedAt c (length pairs) rest error

-- All rows of a rows event that is wanted, or those before it is skipped, where such events are; none of any other event.
abbrev pub AreEventRows : Bool → LentEvent → List Counted → Type 0
AreEventRows skips (lent.Other o) xs = xs ≡ []
AreEventRows skips (lent.Rows c) xs =
    ((ps : List Pair) × Covers (pair c.table c.rows) c.left ps None × (xs ≡ counted_in c (length ps)))
    ⊎ ((skips ≡ true) × AreSkippedRows c xs)

-- The first rows of such an event, up to a failure. Of a failure that is none of the file's, as refused memory, it
-- may also be none.
abbrev pub AreFirstEventRows : Failure → LentEvent → List Counted → Type 0
AreFirstEventRows why (lent.Other o) xs = (xs ≡ []) × IsNotOfFile why
AreFirstEventRows why (lent.Rows c) xs =
    ((xs ≡ []) × IsNotOfFile why)
    ⊎ ((ps : List Pair) × (rest : List ℕ) × BeginsWith (pair c.table c.rows) c.left ps rest × (xs ≡ counted_in c (length ps)) × EndsAtRow why c (length ps) rest)

-- ---- the events of a file

-- the rows of events that are read one after the other from a spot on, up to another
abbrev pub AreCounted : Bool → Wanted → Spot → List Event → List Counted → Spot → Type 0
AreCounted skips wanted old [] xs new = (new ≡ old) × (xs ≡ [])
AreCounted skips wanted old (e ∷ es) xs new =
    (mid : Spot) × GoesPast old e mid
    × (x : LentEvent) × Shows wanted mid.in_force.tables (glance_of e) x
    × (first more : List Counted) × AreEventRows skips x first
    × AreCounted skips wanted mid es more new
    × (xs ≡ first ++ more)

-- the rows of all events from a spot on, up to the end or the stop position
pub record AreCountedToEnd (skips : Bool) (stop : Option ℕ) (wanted : Wanted) (from : Spot) (xs : List Counted) : Type 0 where
  pub events : List Event
  pub end : Spot
  pub counted : AreCounted skips wanted from events xs end
  pub is_end : IsEnd stop end

-- none, where the event at a spot fails, or no event begins at a position; or the first rows of this event, up
-- to the failure
abbrev pub AreNextCounted : Failure → Wanted → Spot → List Counted → Type 0
AreNextCounted why wanted at xs =
    ((xs ≡ []) × EndsAtEvent why wanted at)
    ⊎ (MissesNone why × (e : Event) × (new : Spot) × GoesPast at e new × (x : LentEvent) × Shows wanted new.in_force.tables (glance_of e) x × AreFirstEventRows why x xs)

-- The rows of some events that are read one after the other from a spot on, and then some first rows of the
-- next one, up to a failure. If that is an error of the file, the next one begins before the stop position. A
-- position at which no event begins is missing in the file.
pub record AreFirstCounted (why : Failure) (skips : Bool) (stop : Option ℕ) (wanted : Wanted) (from : Spot) (xs : List Counted) : Type 0 where
  pub events : List Event
  pub front : List Counted
  pub at : Spot
  pub rows : List Counted
  pub counted : AreCounted skips wanted from events front at
  pub next : AreNextCounted why wanted at rows
  pub in_time : IsInTime why stop at
  pub missing : IsMissing why stop events at
  pub whole : xs ≡ front ++ rows

-- ---- files

-- all rows of a file of these bytes that are wanted
abbrev pub AreAllCounted : Settings → List ℕ → List Counted → Type 0
AreAllCounted settings x xs = (is_binlog x ≡ true) × AreCountedToEnd settings.skips_faulty settings.filter.positions.stop (wanted_by settings.filter) (first_spot x) xs

-- the first of them, up to a failure
abbrev pub AreFirstOfFile : Failure → Settings → List ℕ → List Counted → Type 0
AreFirstOfFile why settings x xs =
    ((xs ≡ []) × EndsAtHeader why x)
    ⊎ ((is_binlog x ≡ true) × AreFirstCounted why settings.skips_faulty settings.filter.positions.stop (wanted_by settings.filter) (first_spot x) xs)

-- such rows were counted beside all that was counted before
abbrev pub CountsThese : (List Counted → Type 0) → Counts → Counts → Type 0
CountsThese Are old new = (xs : List Counted) × Are xs × CountsMore xs old new
