-- The iterator over the pairs of a rows event, and what a call of its `next` returns.
use Rattle.std.specs.Prelude.{◌≡◌, ◌≢◌, ℕ, ◌<◌, ◌≤◌, ◌+◌, ◌*◌, Bool, true, false, List, [], ◌∷◌, ◌++◌, length, Option, Some, None, Result, Ok, Err}
use denote.Ref.{Bor}
use Rattle.binlog_base.specs.declared.fault.Fault.{Fault}
use Rattle.binlog_base.specs.declared.fault.Fault.TheVariants.{Memory}
use Rattle.binlog_base.specs.Format.{Format}
use Rattle.binlog_table.specs.TableMap.{TableMap}
use Rattle.binlog_table.specs.Extracted.{field_fault}
use Rattle.binlog_table.specs.TableColumns.{Column, column_at}
use Rattle.binlog_table.specs.Steps.{steps_after}
use Rattle.mysql_binlog_rows.specs.RowsEvent.{RowsEvent, image_columns, same_columns}
use Rattle.mysql_binlog_rows.specs.Images.{Pair, pair}
use Rattle.mysql_binlog_rows.specs.Workings.Plans.{Plans, Reads, plans_of, slot_count}
use Rattle.mysql_binlog_rows.specs.Cover.{IsPair, NoPair, RestFault}

-- The state of the iterator: how pairs are read, and the bytes that are left; whether the plans are
-- made; how many steps that took so far, how many it takes in all, and a bound on these.
pub record Rows : Type 0 where
  pub plans : Plans
  pub left : List ℕ
  pub is_planned : Bool
  pub steps : ℕ
  pub due_steps : ℕ
  pub most_steps : ℕ

-- plans that were made, and the steps that this took
pub record Made : Type 0 where
  pub plans : Plans
  pub steps : ℕ

-- the same plans, for whose making no column was walked over
abbrev pub unwalked : Plans → Plans
unwalked p = record { before = p.before; after = p.after; is_one = p.is_one; has_options = p.has_options; walked = 0 }

-- plans that were made for this event, or for an earlier one, so that no step is this event's
abbrev pub made_by : Bool → Made → Made
made_by true m = m
made_by false m = record { plans = unwalked m.plans; steps = 0 }

-- the two events that say how pairs are read
pub record Events : Type 0 where
  pub table : TableMap
  pub event : RowsEvent

-- the plans for their images
abbrev pub plans_of_events : Events → Plans
plans_of_events e = plans_of e.table e.event

-- how many columns the event has, if it has the image
abbrev pub columns_in : Option (List Bool) → ℕ
columns_in None = 0
columns_in (Some present) = length present

-- The steps of the plan of an image, if the event has the image: those of a walk over as many columns
-- of the table as the event has.
abbrev pub image_steps : TableMap → Option (List Bool) → ℕ
image_steps t None = 0
image_steps t (Some present) = steps_after t (length present)

-- the steps of the plan of the image after the change: none where the plan of the image before it
-- serves for both
abbrev pub steps_apart : Bool → ℕ → ℕ
steps_apart true n = 0
steps_apart false n = n

-- the steps of both plans, each by a bit for each column of the event
abbrev pub steps_by : TableMap → Option (List Bool) → Option (List Bool) → ℕ
steps_by t before after = image_steps t before + steps_apart (same_columns before after) (image_steps t after)

-- the steps of the plans for the images of an event
abbrev pub event_steps : TableMap → RowsEvent → ℕ
event_steps t e = steps_by t (image_columns e.num_columns e.before) (image_columns e.num_columns e.after)

-- how many steps are made for these two events
abbrev pub steps_of_events : Events → ℕ
steps_of_events e = event_steps e.table e.event

-- at most one step for each column of the event and each byte of the optional metadata, for each of
-- two images
abbrev pub most_steps : TableMap → RowsEvent → ℕ
most_steps t e = 2 * (e.num_columns + length t.optional_metadata)

-- how many steps are made for these two events at most
abbrev pub most_of_events : Events → ℕ
most_of_events e = most_steps e.table e.event

-- the first n columns of the table, and its optional metadata, have no fault
pub record IsDescribed (t : TableMap) (n : ℕ) : Type 0 where
  pub fields : field_fault t ≡ None
  pub columns : (i : ℕ) → i < n → (c : Column) × (column_at t i ≡ Ok c)

-- This is an iterator over the pairs of these two events. How it reads them stands in Plans, which a
-- caller needn't look at: what holds before a call of `next` holds after it (NextGives).
abbrev pub GivesPairsOf : TableMap → RowsEvent → Rows → Type 0
GivesPairsOf t e r = Reads t e r.plans

-- The same, of an iterator whose plans are made for these two events. It makes exactly the steps of
-- their plans: at most two for each column of the event and for each byte of the optional metadata.
-- The plans walk over each column of the event if no column has a fault.
pub record IsOf (t : TableMap) (e : RowsEvent) (r : Rows) : Type 0 where
  pub reads : GivesPairsOf t e r
  pub exact : r.due_steps ≡ event_steps t e
  pub most : r.most_steps ≤ most_steps t e
  pub least : IsDescribed t e.num_columns → e.num_columns ≤ slot_count r.plans

-- the result of reading a pair at the start of the bytes: the pair and the bytes after it, or its
-- fault
abbrev pub PairGives : Format Pair → List ℕ → Result (Pair × List ℕ) Fault → Type 0
PairGives pair old (Ok r) = (x : List ℕ) × (old ≡ x ++ r.1) × IsPair pair x r.0
PairGives pair old (Err e) = e ≢ Memory → NoPair pair old × RestFault pair old e

-- the result of a function that returns the rest of a slice, with the bytes of the rest
abbrev pub at_rest : Result (Pair × Bor (List ℕ)) Fault → Result (Pair × List ℕ) Fault
at_rest (Ok r) = Ok (r.0, r.1.now)
at_rest (Err e) = Err e

-- Nothing if no bytes are left; else the pair at the start of the bytes, which leaves the bytes
-- after it, or a fault, which leaves none.
abbrev pub ItemGives : Format Pair → List ℕ → Option (Result Pair Fault) → List ℕ → Type 0
ItemGives pair old None new = (old ≡ []) × (new ≡ [])
ItemGives pair old (Some (Ok p)) new = (0 < length old) × PairGives pair old (Ok (p, new))
ItemGives pair old (Some (Err e)) new = (0 < length old) × (new ≡ []) × PairGives pair old (Err e)

-- each item takes bytes; a fault takes all of them
abbrev pub Shrinks : List ℕ → Option (Result Pair Fault) → List ℕ → Type 0
Shrinks old None new = (old ≡ []) × (new ≡ [])
Shrinks old (Some (Ok p)) new = length new < length old
Shrinks old (Some (Err e)) new = (0 < length old) × (new ≡ [])

-- Once the plans are made, they and their steps stay as they are. They are made when there are
-- bytes left, if there is memory for them.
pub record PlansOnce (s : Rows) (r : Option (Result Pair Fault)) (t : Rows) : Type 0 where
  pub plans : t.plans ≡ s.plans
  pub once : s.is_planned ≡ true → (t.is_planned ≡ true) × (t.steps ≡ s.steps)
  pub waits : s.left ≡ [] → (t.is_planned ≡ s.is_planned) × (t.steps ≡ s.steps)
  pub made : s.left ≢ [] → r ≢ Some (Err Memory) → t.is_planned ≡ true
  pub due : t.due_steps ≡ s.due_steps
  pub most : t.most_steps ≤ s.most_steps

-- What a call of `next` does: r is its result, and s and t are the states before and after it. Of an
-- iterator over the pairs of two events the item is the pair at the start of the bytes, or the fault
-- there; none where no bytes are left. It is an iterator over their pairs after the call too.
pub record NextGives (s : Rows) (r : Option (Result Pair Fault)) (t : Rows) : Type 0 where
  pub plans : PlansOnce s r t
  pub shrinks : Shrinks s.left r t.left
  pub item : (table : TableMap) (event : RowsEvent) → GivesPairsOf table event s → ItemGives (pair table event) s.left r t.left
  pub stays : (table : TableMap) (event : RowsEvent) → GivesPairsOf table event s → GivesPairsOf table event t

-- the items of calls of `next`, one after the other from this state on: these pairs, and then this
-- fault, or none and no bytes
abbrev pub AreItems : Rows → List Pair → Option Fault → Type 0
AreItems s [] None = (t : Rows) × NextGives s None t
AreItems s [] (Some e) = (t : Rows) × NextGives s (Some (Err e)) t
AreItems s (p ∷ ps) end = (t : Rows) × NextGives s (Some (Ok p)) t × AreItems t ps end
