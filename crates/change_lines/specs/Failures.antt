-- What was written where a run ends early. It is a module of its own because Failure is a type of the code.
use Rattle.std.specs.Prelude.{◌≡◌, ◌≢◌, ◌⊎◌, ◌<◌, ℕ, true, List, [], ◌∷◌, ◌++◌, length, Option, Some, Result, Ok, Err, ⊤}
use Rattle.std.specs.Io.KnownBytes.{Appends}
use Rattle.binlog_base.specs.declared.fault.Fault.{Fault}
use Rattle.binlog_base.specs.declared.fault.Fault.TheVariants as fault
use Rattle.mysql_binlog_rows.specs.RowsEvent.{RowsEvent}
use Rattle.mysql_binlog_rows.specs.Images.{Pair, pair}
use Rattle.binlog_events.specs.declared.error.EventError.TheVariants as error
use Rattle.binlog_events.specs.declared.error.EventError.{EventError}
use Rattle.binlog_events.specs.declared.error.FileError.{FileError}
use Rattle.binlog_file.specs.Events.{Event, glance_of}
use Rattle.binlog_file.specs.Changes.{Wanted, Spot, IsMemory}
use Rattle.binlog_file.specs.Stream.{IsOutside, NoHeader}
use Rattle.binlog_file.specs.LentChanges.{LentChange}
use Rattle.binlog_file.specs.LentEvents as Events
use Rattle.binlog_file.specs.LentEvents.{Shows, GoesPast}
use Rattle.binlog_file.specs.declared.lent_changes.LentEvent.{LentEvent}
use Rattle.binlog_file.specs.declared.lent_changes.LentEvent.TheVariants as lent
use Rattle.row_json.specs.Columns.{Column}
use Rattle.row_json.specs.Faults.{IsFaultOfPair}
use Rattle.change_lines.specs.declared.error.Failure.{Failure}
use Rattle.change_lines.specs.declared.error.Failure.TheVariants as failure
use Rattle.changed_rows.specs.Names.{is_before}
use Rattle.std.specs.declared.io.Error.{Error}
use Rattle.changed_rows.specs.declared.filter.Positions.{Positions}
use Rattle.changed_rows.specs.Filters.{start_sought}
use Rattle.change_lines.specs.Outputs.{IsErrorOf}
use Rattle.change_lines.specs.Rows.{AreLinesBy, BeginsWith}
use Rattle.change_lines.specs.FaultyRows.{IsRowError}
use Rattle.change_lines.specs.Lines.{Manner, AreRowLines, AreLines}

-- ---- what a failure is of

-- the output failed
abbrev pub IsOutput : Failure → Type 0
IsOutput (failure.Output e) = ⊤
IsOutput _ = ⊥

-- it is no error of the file
abbrev pub IsNotOfFile : Failure → Type 0
IsNotOfFile (failure.File e) = ⊥
IsNotOfFile _ = ⊤

-- an error of an event is that of a row
abbrev pub IsOfRow : EventError → Type 0
IsOfRow (error.RowsData row f) = ⊤
IsOfRow _ = ⊥

-- it isn't the error of a row
abbrev pub IsNotOfRow : Failure → Type 0
IsNotOfRow (failure.File e) = IsOfRow e.error → ⊥
IsNotOfRow _ = ⊤

-- it is of no output, and no position is missing
abbrev pub IsOfReading : Failure → Type 0
IsOfReading (failure.File e) = ⊤
IsOfReading failure.Memory = ⊤
IsOfReading _ = ⊥

-- a failure of the output is the error of one of its calls; no position is missing, and the file is open
abbrev pub IsOfEvent : {O : Type 0} → (O → List ℕ → Result ℕ Error → O → Type 0) → (O → Result (Unit {0}) Error → O → Type 0) → Failure → Type 0
IsOfEvent writes flushes (failure.Output e) = IsErrorOf writes flushes e
IsOfEvent writes flushes (failure.NoEvent n) = ⊥
IsOfEvent writes flushes (failure.Unopened e) = ⊥
IsOfEvent writes flushes _ = ⊤

-- a failure of the output is the error of one of its calls, and the position at which no event begins is one
-- that was asked for
abbrev pub IsOfRun : {O : Type 0} → Positions → (O → List ℕ → Result ℕ Error → O → Type 0) → (O → Result (Unit {0}) Error → O → Type 0) → Failure → Type 0
IsOfRun p writes flushes (failure.NoEvent n) = (start_sought p ≡ Some n) ⊎ (p.stop ≡ Some n)
IsOfRun p writes flushes why = IsOfEvent writes flushes why

-- the error of the row of an event that comes after n others, with which this rest begins; or that memory was refused
abbrev pub IsErrorOfRow : LentChange → ℕ → List ℕ → FileError → Type 0
IsErrorOfRow c n rest e = (e.position ≡ c.origin.position) × (IsMemory e.error ⊎ IsRowError c n rest e.error)

-- an error of the file is that of the row of an event that comes after n others, with which this rest begins
abbrev pub EndsAtRow : Failure → LentChange → ℕ → List ℕ → Type 0
EndsAtRow (failure.File e) c n rest = IsErrorOfRow c n rest e
EndsAtRow _ c n rest = ⊤

-- an error of the file is that of the event at a spot, or isn't the bytes'
abbrev pub EndsAtEvent : Failure → Wanted → Spot → Type 0
EndsAtEvent (failure.File e) wanted at = IsOutside e.error ⊎ Events.EndsWith wanted at.place at.in_force at.pending e
EndsAtEvent _ wanted at = ⊤

-- an error of the file is that it is no binlog file, or isn't the bytes'; no position is missing
abbrev pub EndsAtHeader : Failure → List ℕ → Type 0
EndsAtHeader (failure.File e) x = NoHeader (Some x) e
EndsAtHeader (failure.NoEvent n) x = ⊥
EndsAtHeader _ x = ⊤

-- ---- the lines before a failure

-- A rows event that is wanted gives the lines of its first rows, up to the failure, which isn't the error of a row where
-- events are skipped by that; any other event gives none.
abbrev pub AreFirstOfEvent : Failure → Manner → List ℕ → Option (List ℕ) → LentEvent → List ℕ → Type 0
AreFirstOfEvent why m file gtid (lent.Other o) text = (text ≡ []) × IsNotOfFile why
AreFirstOfEvent why m file gtid (lent.Rows c) text =
    (ps : List Pair) × (rest : List ℕ) × BeginsWith (pair c.table c.rows) c.left ps rest × AreRowLines m.form file gtid c 0 ps text × EndsAtRow why c (length ps) rest
    × (m.skips ≡ true → IsNotOfRow why)

-- no position is missing
abbrev pub MissesNone : Failure → Type 0
MissesNone (failure.NoEvent n) = ⊥
MissesNone _ = ⊤

-- No lines, where the event at a spot fails, or no event begins at a position; or those of the first rows of
-- this event, up to the failure.
abbrev pub AreFirstOfNext : Failure → Manner → Wanted → List ℕ → Spot → Option (List ℕ) → List ℕ → Type 0
AreFirstOfNext why m wanted file at gtid text =
    ((text ≡ []) × EndsAtEvent why wanted at)
    ⊎ (MissesNone why × (e : Event) × (new : Spot) × GoesPast at e new × (x : LentEvent) × Shows wanted new.in_force.tables (glance_of e) x × AreFirstOfEvent why m file gtid x text)

-- each of these events begins before a position
abbrev pub AllBegin : List Event → ℕ → Type 0
AllBegin [] n = ⊤
AllBegin (e ∷ es) n = (e.position < n) × AllBegin es n

-- Where no event begins at a position, each of these events begins before it, and the next one, if there is
-- one, after it. The stop position may be the end of the file.
abbrev pub IsMissing : Failure → Option ℕ → List Event → Spot → Type 0
IsMissing (failure.NoEvent n) stop es at = AllBegin es n × ((n < at.place.at) ⊎ ((at.place.left ≡ []) × (stop ≡ Some n → n ≢ at.place.at)))
IsMissing _ stop es at = ⊤

-- an error of the file is that of an event before the stop position, if there is one
abbrev pub IsInTime : Failure → Option ℕ → Spot → Type 0
IsInTime (failure.File e) stop at = is_before stop at.place.at ≡ true
IsInTime _ stop at = ⊤

-- Lines of a file from a spot on, up to a failure: those of some events that are read one after the other,
-- and then those of some first rows of the next one, which begins before the stop position if the failure is
-- an error of the file. A position at which no event begins is missing in the file.
pub record AreFirst (why : Failure) (m : Manner) (stop : Option ℕ) (wanted : Wanted) (file : List ℕ) (from : Spot) (gtid : Option (List ℕ)) (text : List ℕ) : Type 0 where
  pub events : List Event
  pub front : List ℕ
  pub at : Spot
  pub here : Option (List ℕ)
  pub rows : List ℕ
  pub lines : AreLines m wanted file from gtid events front at here
  pub next : AreFirstOfNext why m wanted file at here rows
  pub in_time : IsInTime why stop at
  pub missing : IsMissing why stop events at
  pub whole : text ≡ front ++ rows

-- ---- what was written

-- what is lost of a text that was to be written: nothing, unless the output failed
abbrev pub IsLost : Failure → List ℕ → Type 0
IsLost (failure.Output e) lost = ⊤
IsLost _ lost = lost ≡ []

-- the same for a run that may have ended early
abbrev pub IsLostBy : {A : Type 0} → Result A Failure → List ℕ → Type 0
IsLostBy (Ok _) lost = lost ≡ []
IsLostBy (Err why) lost = IsLost why lost

-- A text was written as by Outputs, or a beginning of it if the output failed.
abbrev pub OutputsUpTo : Failure → Option (List ℕ) → List ℕ → List ℕ → Option (List ℕ) → List ℕ → Type 0
OutputsUpTo why old held text new left = (written lost : List ℕ) × Appends old new written × (held ++ text ≡ written ++ (left ++ lost)) × IsLost why lost

-- a text was appended to the output, or a beginning of it if the output failed
abbrev pub AppendsUpTo : Failure → Option (List ℕ) → Option (List ℕ) → List ℕ → Type 0
AppendsUpTo why old new text = (written lost : List ℕ) × Appends old new written × (text ≡ written ++ lost) × IsLost why lost

-- Some first rows of an event were read, and each was written as such a line.
pub record WritesFirstRows (why : Failure) (Is : ℕ → Pair → List ℕ → Type 0) (c : LentChange) (old : Option (List ℕ)) (held : List ℕ) (new : Option (List ℕ)) (left : List ℕ) : Type 0 where
  pub pairs : List Pair
  pub rest : List ℕ
  pub text : List ℕ
  pub begins : BeginsWith (pair c.table c.rows) c.left pairs rest
  pub lines : AreLinesBy Is 0 pairs text
  pub ends : EndsAtRow why c (length pairs) rest
  pub outputs : OutputsUpTo why old held text new left

-- The lines of some first rows of an event were written.
abbrev pub WritesFirstOfEvent : Failure → Manner → List ℕ → Option (List ℕ) → LentEvent → Option (List ℕ) → List ℕ → Option (List ℕ) → List ℕ → Type 0
WritesFirstOfEvent why m file gtid x old held new left = (text : List ℕ) × AreFirstOfEvent why m file gtid x text × OutputsUpTo why old held text new left

-- Lines of a file from a spot on were written.
abbrev pub WritesFirst : Failure → Manner → Option ℕ → Wanted → List ℕ → Spot → Option (List ℕ) → Option (List ℕ) → List ℕ → Option (List ℕ) → List ℕ → Type 0
WritesFirst why m stop wanted file from gtid old held new left = (text : List ℕ) × AreFirst why m stop wanted file from gtid text × OutputsUpTo why old held text new left

-- A row wasn't put out: a beginning of its line was written, where the output failed; or its line can't be made,
-- and nothing was written.
abbrev pub FailsAtLine : (List ℕ → Type 0) → (Failure → Type 0) → Failure → Option (List ℕ) → List ℕ → Option (List ℕ) → List ℕ → Type 0
FailsAtLine Is IsFault why old held new left =
    ((line : List ℕ) × Is line × IsOutput why × OutputsUpTo why old held line new left)
    ⊎ (IsFault why × OutputsUpTo why old held [] new left)

-- ---- what the functions give

-- the failure at a row with a fault
abbrev pub IsRowFailure : ℕ → ℕ → Fault → Failure → Type 0
IsRowFailure at row f (failure.File e) = (f ≢ fault.Memory) × (e.position ≡ at) × (e.error ≡ error.RowsData row f)
IsRowFailure at row f failure.Memory = f ≡ fault.Memory
IsRowFailure at row f _ = ⊥

-- the line of the row of this number in the event at a position can't be made
abbrev pub IsLineFailure : List Column → RowsEvent → ℕ → ℕ → Pair → Failure → Type 0
IsLineFailure cs rows at row p (failure.File e) = (e.position ≡ at) × (f : Fault) × IsFaultOfPair cs rows p f × (e.error ≡ error.RowsData row f)
IsLineFailure cs rows at row p failure.Memory = ⊤
IsLineFailure cs rows at row p _ = ⊥
