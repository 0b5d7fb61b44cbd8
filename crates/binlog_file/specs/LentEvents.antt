-- The events of a reading, whose pairs of rows are lent. It is a module of its own because LentEvent is a
-- type of the code.
use Rattle.std.specs.Prelude.{◌≡◌, ◌⊎◌, ℕ, zero, suc, true, false, List, [], ◌∷◌, Option, Some, None, Result, Ok, Err, ⊤}
use Rattle.binlog_base.specs.declared.fault.Fault.{Fault}
use Rattle.binlog_table.specs.TableMap.{TableMap}
use Rattle.mysql_binlog_rows.specs.declared.rows_event.event.RowsEventCtx.{RowsEventCtx}
use Rattle.mysql_binlog_rows.specs.RowsEvent.{RowsEvent, rows_event}
use Rattle.mysql_binlog_rows.specs.Images.{Pair, pair}
use Rattle.mysql_binlog_rows.specs.Cover.{Covers}
use Rattle.binlog_events.specs.declared.error.EventError.{EventError}
use Rattle.binlog_events.specs.declared.error.FileError.{FileError}
use Rattle.binlog_file.specs.declared.lent_changes.LentEvent.{LentEvent}
use Rattle.binlog_file.specs.declared.lent_changes.LentEvent.TheVariants as lent
use Rattle.binlog_file.specs.Events.{Event, Glance, glance_of, Place, NextGives}
use Rattle.binlog_file.specs.Tables.{Tables, InForce, in_force_after}
use Rattle.binlog_file.specs.Changes.{Wanted, RowsGive, Gives, EventGives, nothing, failure, IsMemory, Spot, spot, IsAtEnd, Left, Follows, at_position}
use Rattle.binlog_file.specs.LentChanges.{unread, Opens, OtherEvent, change_with, error_after}
use Rattle.binlog_file.specs.Asked.{is_asked}

abbrev pub other_of : Glance → OtherEvent
other_of g = record { origin = g.origin; header = g.header; body = g.body }

-- With these tables in force, an event of which this is seen is a rows event that is wanted; or it gives
-- no change, and is given as it is.
abbrev pub Shows : Wanted → Tables → Glance → LentEvent → Type 0
Shows wanted ts g (lent.Rows c) = (ctx : RowsEventCtx) × (g.rows ≡ Some ctx) × (rows : RowsEvent) × (rows_event ctx).spells g.body rows × Opens wanted ts g.origin rows c
Shows wanted ts g (lent.Other o) = Gives wanted ts g.origin g.rows g.body nothing × (o ≡ other_of g)

-- the error of such an event, or that memory was refused
abbrev pub GivesError : Wanted → Tables → Glance → FileError → Type 0
GivesError wanted ts g e = (e.position ≡ g.origin.position) × (IsMemory e.error ⊎ Gives wanted ts g.origin g.rows g.body (failure e.error))

-- the error of a rows event that was read, or that memory was refused
abbrev pub RowsFail : Wanted → Tables → Glance → RowsEvent → FileError → Type 0
RowsFail wanted ts g rows e = (e.position ≡ g.origin.position) × (IsMemory e.error ⊎ RowsGive wanted ts g.origin rows None (Some e.error))

-- the reading goes past an event
pub record GoesPast (old : Spot) (e : Event) (new : Spot) : Type 0 where
  pub gives : NextGives old.place (Some (Ok e)) new.place
  pub in_force : new.in_force ≡ in_force_after old.in_force e
  pub ends_before : old.pending ≡ None
  pub goes_on : new.pending ≡ None

-- the error of the event at a place: it can't be read, or its tables and its body give the error alone
abbrev pub Fails : Wanted → Place → InForce → FileError → Type 0
Fails wanted p s err =
    (q : Place) × (NextGives p (Some (Err err)) q
    ⊎ ((e : Event) × NextGives p (Some (Ok e)) q × EventGives wanted (in_force_after s e).tables e (failure err.error) × (err.position ≡ e.position)))

-- the error that is pending, or that of the event at the place
abbrev pub EndsWith : Wanted → Place → InForce → Option FileError → FileError → Type 0
EndsWith wanted p s None err = Fails wanted p s err
EndsWith wanted p s (Some pending) err = err ≡ pending

-- The next event; nothing if no bytes are left; or the error, or one that isn't the bytes'. Nothing is left
-- after an error.
abbrev pub NextEvent : (EventError → Type 0) → Wanted → Spot → Option (Result LentEvent FileError) → Spot → Type 0
NextEvent IsOther wanted old None new = (old.pending ≡ None) × (old.place.left ≡ []) × IsAtEnd new
NextEvent IsOther wanted old (Some (Ok x)) new = (e : Event) × GoesPast old e new × Shows wanted new.in_force.tables (glance_of e) x
NextEvent IsOther wanted old (Some (Err err)) new = IsAtEnd new × (IsOther err.error ⊎ EndsWith wanted old.place old.in_force old.pending err)

-- ---- the next event that is asked for

-- the reading goes past an event that isn't asked for
abbrev pub PassesOne : List ℕ → Spot → Spot → Type 0
PassesOne types old new = (e : Event) × GoesPast old e new × (is_asked types e.header.event_type ≡ false)

-- the reading goes past so many events, of which none is asked for
abbrev pub PassesOver : List ℕ → ℕ → Spot → Spot → Type 0
PassesOver types zero old new = new ≡ old
PassesOver types (suc n) old new = (mid : Spot) × PassesOver types n old mid × PassesOne types mid new

-- an event that is given is asked for; a rows event always is
abbrev pub IsAsked : List ℕ → Option (Result LentEvent FileError) → Type 0
IsAsked types (Some (Ok (lent.Other o))) = is_asked types o.header.event_type ≡ true
IsAsked types item = ⊤

-- The next event that is asked for, after others that are passed over; nothing if none is left; or the
-- error.
pub record NextAsked (IsOther : EventError → Type 0) (wanted : Wanted) (types : List ℕ) (old : Spot) (item : Option (Result LentEvent FileError)) (new : Spot) : Type 0 where
  pub passed : ℕ
  pub at : Spot
  pub passes : PassesOver types passed old at
  pub gives : NextEvent IsOther wanted at item new
  pub is_asked_for : IsAsked types item

-- a reading ends so where a pair can't be read, and else stays where it is
abbrev pub GoesOnUnless : {A : Type 0} → Type 0 → Option (Result (Unit {0}) FileError) → A → A → Type 0
GoesOnUnless Ends None old new = new ≡ old
GoesOnUnless Ends (Some (Ok _)) old new = new ≡ old
GoesOnUnless Ends (Some (Err _)) old new = Ends

-- ---- what the functions give

-- a rows event that is wanted is read with the table map event that is in force for it, and one that gives
-- no change with none
abbrev pub RowsOpen : Wanted → Tables → Glance → RowsEvent → Option TableMap → Type 0
RowsOpen wanted ts g rows (Some t) = Opens wanted ts g.origin rows (unread g.origin rows t)
RowsOpen wanted ts g rows None = RowsGive wanted ts g.origin rows None None

-- ---- the owned changes

-- What was left at the old spot is nothing; or begins with the change of the event's pairs, whatever they
-- are, and goes on with what is left at the new one, or ends with the error of its last pair; or is what is
-- left at the new one; or is the error.
abbrev pub ChangesOn : (EventError → Type 0) → Wanted → Spot → Option (Result LentEvent FileError) → Spot → Type 0
ChangesOn IsOther wanted old None new = Left wanted old [] None
ChangesOn IsOther wanted old (Some (Ok (lent.Rows c))) new =
    (ps : List Pair) (end : Option Fault) → Covers (pair c.table c.rows) c.left ps end
    → Follows wanted old (change_with c ps ∷ []) (spot new.place new.in_force (at_position c.origin.position (error_after ps end)))
ChangesOn IsOther wanted old (Some (Ok (lent.Other o))) new = Follows wanted old [] new
ChangesOn IsOther wanted old (Some (Err e)) new = IsOther e.error ⊎ Left wanted old [] (Some e)
