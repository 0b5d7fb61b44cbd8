-- The changes of a file: its rows events with their pairs of rows.
use Rattle.std.specs.Prelude.{◌≡◌, ℕ, ◌+◌, ◌*◌, ◌%◌, ◌<◌, Bool, true, false, nat_eq, ◌&&◌, ◌||◌, List, [], ◌∷◌, ◌++◌, length, Option, Some, None, Result, Ok, Err, ◌⊎◌, ⊤}
use Rattle.std.specs.Option.{option_map}
use Rattle.binlog_base.specs.declared.fault.Fault.{Fault}
use Rattle.binlog_consts.specs.declared.consts.event_type.EventType.{EventType}
use Rattle.binlog_table.specs.TableMap.{TableMap}
use Rattle.mysql_binlog_rows.specs.declared.rows_event.event.RowsEventCtx.{RowsEventCtx}
use Rattle.mysql_binlog_rows.specs.RowsEvent.{RowsEvent, rows_event}
use Rattle.mysql_binlog_rows.specs.Images.{Pair, pair}
use Rattle.mysql_binlog_rows.specs.Cover.{Covers}
use Rattle.binlog_events.specs.declared.error.EventError.{EventError}
use Rattle.binlog_events.specs.declared.error.EventError.TheVariants as error
use Rattle.binlog_events.specs.declared.error.FileError.{FileError}
use Rattle.binlog_events.specs.declared.origin.Origin.{Origin}
use Rattle.binlog_file.specs.Events.{Event, origin_of, AreEventsOfFile, Place, AreLeft, first_place}
use Rattle.binlog_file.specs.Tables.{Tables, InForce, nothing_in_force, in_force_after}

-- which rows events are wanted: by their position, their table and their type
abbrev pub Wanted : Type 0
Wanted = ℕ → TableMap → EventType → Bool

-- a rows event, the table map event that it is read with, and its pairs of rows
pub record Change : Type 0 where
  pub origin : Origin
  pub rows : RowsEvent
  pub table : TableMap
  pub pairs : List Pair

-- the table ids of MySQL's rows events that only end a statement: six bytes FF, or three
abbrev pub is_id_of_dummy : ℕ → Bool
is_id_of_dummy id = nat_eq id 0xFFFFFFFFFFFF || nat_eq id 0x00FFFFFF

-- MySQL's rows event that only ends a statement: it has such an id and no rows data, and STMT_END_F, the
-- lowest flag, is set. With rows data it is an event of a table that has this id.
abbrev pub is_dummy : RowsEvent → Bool
is_dummy rows = (is_id_of_dummy rows.table_id && nat_eq (rows.flags % 2) 1) && nat_eq (length rows.rows_data) 0

-- ---- what a rows event gives, by the tables in force

-- The change of a rows event that is wanted. With the table map event that is in force for it, its rows
-- data is these pairs, and then a rest with this fault.
pub record IsChange (wanted : Wanted) (ts : Tables) (from : Origin) (rows : RowsEvent) (c : Change) (end : Option Fault) : Type 0 where
  pub is_from : c.origin ≡ from
  pub is_of : c.rows ≡ rows
  pub in_force : ts rows.table_id ≡ Some c.table
  pub is_wanted : wanted from.position c.table rows.event_type ≡ true
  pub covers : Covers (pair c.table rows) rows.rows_data c.pairs end

-- the rows event isn't wanted
pub record IsUnwanted (wanted : Wanted) (ts : Tables) (from : Origin) (rows : RowsEvent) : Type 0 where
  pub table : TableMap
  pub in_force : ts rows.table_id ≡ Some table
  pub not_wanted : wanted from.position table rows.event_type ≡ false

-- nothing; the error that no table map event is in force; the change; or the change up to a fault, which
-- is the error with the number of the pair
abbrev pub RowsGive : Wanted → Tables → Origin → RowsEvent → Option Change → Option EventError → Type 0
RowsGive wanted ts from rows None None = (is_dummy rows ≡ true) ⊎ ((is_dummy rows ≡ false) × IsUnwanted wanted ts from rows)
RowsGive wanted ts from rows None (Some err) = (is_dummy rows ≡ false) × (ts rows.table_id ≡ None) × (err ≡ error.UnknownTable rows.table_id)
RowsGive wanted ts from rows (Some c) None = (is_dummy rows ≡ false) × IsChange wanted ts from rows c None
RowsGive wanted ts from rows (Some c) (Some err) = (is_dummy rows ≡ false) × (f : Fault) × IsChange wanted ts from rows c (Some f) × (err ≡ error.RowsData (length c.pairs) f)

-- ---- what an event gives

-- a change, an error, both or nothing
pub record Given : Type 0 where
  pub change : Option Change
  pub error : Option EventError

abbrev pub nothing : Given
nothing = record { change = None; error = None }

abbrev pub failure : EventError → Given
failure err = record { change = None; error = Some err }

-- what the body of a rows event gives: it is refused, or is a rows event, which gives this
abbrev pub BodyGives : Wanted → Tables → Origin → RowsEventCtx → List ℕ → Given → Type 0
BodyGives wanted ts from ctx body g =
    ((f : Fault) × (rows_event ctx).refuses body f × (g ≡ failure (error.RowsEvent f)))
    ⊎ ((rows : RowsEvent) × (rows_event ctx).spells body rows × RowsGive wanted ts from rows g.change g.error)

abbrev pub Gives : Wanted → Tables → Origin → Option RowsEventCtx → List ℕ → Given → Type 0
Gives wanted ts from None body g = g ≡ nothing
Gives wanted ts from (Some ctx) body g = BodyGives wanted ts from ctx body g

-- an event gives this with these tables in force
abbrev pub EventGives : Wanted → Tables → Event → Given → Type 0
EventGives wanted ts e g = Gives wanted ts (origin_of e) e.rows e.body g

-- ---- the changes of a file

abbrev pub listed : Option Change → List Change
listed None = []
listed (Some c) = c ∷ []

-- After an event the changes go on, or end with its error.
abbrev pub GoesOn : (List Change → Type 0) → ℕ → Option Change → Option EventError → List Change → Option FileError → Type 0
GoesOn Later at c None cs out = (rest : List Change) × (cs ≡ listed c ++ rest) × Later rest
GoesOn Later at c (Some err) cs out = (cs ≡ listed c) × (out ≡ Some (record { position = at; error = err }))

-- With these tables in force before them, these events, and then this error or none, give these changes,
-- and then this error or none.
abbrev pub AreChanges : Wanted → InForce → List Event → Option FileError → List Change → Option FileError → Type 0
AreChanges wanted s [] end [] out = out ≡ end
AreChanges wanted s [] end (c ∷ cs) out = ⊥
AreChanges wanted s (e ∷ es) end cs out =
    (g : Given) × EventGives wanted (in_force_after s e).tables e g
    × GoesOn (λ rest. AreChanges wanted (in_force_after s e) es end rest out) e.position g.change g.error cs out

-- the changes of a file that are wanted, and the error that follows them
pub record AreChangesOfFile (wanted : Wanted) (x : List ℕ) (cs : List Change) (out : Option FileError) : Type 0 where
  pub events : List Event
  pub end : Option FileError
  pub are_events : AreEventsOfFile x events end
  pub are_changes : AreChanges wanted nothing_in_force events end cs out

-- ---- a reading of the changes

-- where a reading is: its place, the tables in force there, and the error with which it ends there, if it
-- does
pub record Spot : Type 0 where
  pub place : Place
  pub in_force : InForce
  pub pending : Option FileError

abbrev pub spot : Place → InForce → Option FileError → Spot
spot p s pending = record { place = p; in_force = s; pending = pending }

abbrev pub first_spot : List ℕ → Spot
first_spot x = record { place = first_place x; in_force = nothing_in_force; pending = None }

-- the changes that the events at a place give
pub record AreGiven (wanted : Wanted) (p : Place) (s : InForce) (cs : List Change) (out : Option FileError) : Type 0 where
  pub events : List Event
  pub end : Option FileError
  pub are_left : AreLeft p events end
  pub are_changes : AreChanges wanted s events end cs out

-- the changes that are left at a spot, and the error that follows them
abbrev pub LeftFrom : Wanted → Place → InForce → Option FileError → List Change → Option FileError → Type 0
LeftFrom wanted p s None cs out = AreGiven wanted p s cs out
LeftFrom wanted p s (Some e) cs out = (cs ≡ []) × (out ≡ Some e)

abbrev pub Left : Wanted → Spot → List Change → Option FileError → Type 0
Left wanted s cs out = LeftFrom wanted s.place s.in_force s.pending cs out

abbrev pub count : Option FileError → ℕ
count None = 0
count (Some e) = 1

-- more items than are left: two for each byte, and the error
abbrev pub most_left : Spot → ℕ
most_left s = 2 * length s.place.left + count s.pending

-- at the end nothing is left
abbrev pub IsAtEnd : Spot → Type 0
IsAtEnd s = (s.place.left ≡ []) × (s.pending ≡ None)

-- what was left at the old spot begins with these changes, and goes on with what is left at the new one
abbrev pub Follows : Wanted → Spot → List Change → Spot → Type 0
Follows wanted old front new = (cs : List Change) (out : Option FileError) → Left wanted new cs out → Left wanted old (front ++ cs) out

abbrev pub at_position : ℕ → Option EventError → Option FileError
at_position at error = option_map (λ e. record { position = at; error = e }) error

-- memory was refused
abbrev pub IsMemory : EventError → Type 0
IsMemory e = e ≡ error.Memory

-- What was left at the old spot is what is left at the new one, or begins with a change; or the reading
-- ends with an error that isn't the bytes', and no change is given.
abbrev pub TakeGives : (EventError → Type 0) → Wanted → Spot → Option Change → Spot → Type 0
TakeGives IsOther wanted old c new = Follows wanted old (listed c) new ⊎ ((c ≡ None) × (e : FileError) × (new.pending ≡ Some e) × IsOther e.error)

-- The next change; nothing if none are left; or the error that follows, or one that isn't the bytes'.
-- Nothing is left after an error.
abbrev pub ChangeGives : (EventError → Type 0) → Wanted → Spot → Option (Result Change FileError) → Spot → Type 0
ChangeGives IsOther wanted old None new = Left wanted old [] None × IsAtEnd new
ChangeGives IsOther wanted old (Some (Ok c)) new = Follows wanted old (c ∷ []) new
ChangeGives IsOther wanted old (Some (Err e)) new = IsAtEnd new × (IsOther e.error ⊎ Left wanted old [] (Some e))

-- each item lessens how many are left at most
abbrev pub LessensTo : ℕ → Option (Result Change FileError) → ℕ → Type 0
LessensTo old None new = ⊤
LessensTo old (Some r) new = new < old

pub record ChangeSteps (wanted : Wanted) (old : Spot) (r : Option (Result Change FileError)) (new : Spot) : Type 0 where
  pub gives : ChangeGives IsMemory wanted old r new
  pub lessens : LessensTo (most_left old) r (most_left new)

-- ---- what the functions give

-- a rows event from there and its pairs by this table, and the error that ends them
abbrev pub IsCovered : TableMap → Origin → RowsEvent → Option Change → Option EventError → Type 0
IsCovered t from rows None err = ⊥
IsCovered t from rows (Some c) None = (c.origin ≡ from) × (c.rows ≡ rows) × (c.table ≡ t) × Covers (pair t rows) rows.rows_data c.pairs None
IsCovered t from rows (Some c) (Some err) = (f : Fault) × (c.origin ≡ from) × (c.rows ≡ rows) × (c.table ≡ t) × Covers (pair t rows) rows.rows_data c.pairs (Some f) × (err ≡ error.RowsData (length c.pairs) f)

-- a rows event that begins there is read with this table map event if it is wanted, else with none
abbrev pub IsChosen : Wanted → TableMap → ℕ → RowsEvent → Option TableMap → Type 0
IsChosen wanted t at rows None = wanted at t rows.event_type ≡ false
IsChosen wanted t at rows (Some u) = (wanted at t rows.event_type ≡ true) × (u ≡ t)
