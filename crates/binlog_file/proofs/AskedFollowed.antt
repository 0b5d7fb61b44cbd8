-- The next event that is asked for.
use Rattle.std.proofs.Common.{◌≡◌, ℕ, zero, suc, ◌||◌, Bool, true, false, List, [], Option, Some, None, Result, Ok, Err, refl, sym, subst, inl, inr}
use Rattle.std.specs.List.{list_any}
use Rattle.std.specs.Option.{is_some}
use Rattle.std.specs.Prelude.{nat_eq, IfOk}
use Rattle.mysql_binlog_rows.specs.declared.rows_event.event.RowsEventCtx.{RowsEventCtx}
use Rattle.binlog_events.specs.declared.error.EventError.{EventError}
use Rattle.binlog_events.specs.declared.error.FileError.{FileError}
use Rattle.binlog_file.specs.declared.lent_changes.LentEvent.{LentEvent}
use Rattle.binlog_file.specs.declared.lent_changes.LentEvent.TheVariants as lent
use Rattle.binlog_file.specs.Events.{Event, Glance, glance_of, origin_of, Place, rows_type}
use Rattle.binlog_file.specs.Tables.{Tables, InForce}
use Rattle.binlog_file.specs.Changes.{Wanted, nothing, Gives, EventGives, Spot, spot, Follows, IsMemory, IsAtEnd}
use Rattle.binlog_file.specs.Workings.Glances.{GlanceSteps}
use Rattle.binlog_file.specs.Asked.{is_asked}
use Rattle.binlog_file.specs.LentChanges.{OtherEvent}
use Rattle.binlog_file.specs.LentEvents.{other_of, Shows, NextEvent, ChangesOn, PassesOne, PassesOver, IsAsked, NextAsked}
use Rattle.binlog_file.specs.Workings.AskedGlances.{is_glance_asked, GlanceAsked}
use Rattle.binlog_file.proofs.Bodies.{no_rows}
use Rattle.binlog_file.proofs.LentFollowed.{other_on, changes_on, pending_now}

-- ---- the events that are passed over give no changes

none_of : {A : Type 0} (o : Option A) (b : Bool) → (is_some o || b) ≡ false → o ≡ None
none_of None b h = refl
none_of (Some x) b h = absurd cc

gives_nothing : (w : Wanted) (ts : Tables) (e : Event) → e.rows ≡ None → EventGives w ts e nothing
gives_nothing w ts e none = subst (λ (r : Option RowsEventCtx). Gives w ts (origin_of e) r e.body nothing) (sym none) refl

-- an event that is passed over would be shown as it is
pub passed_shows : (w : Wanted) (types : List ℕ) (old new : Spot) (h : PassesOne types old new) → Shows w new.in_force.tables (glance_of h.0) (lent.Other (other_of (glance_of h.0)))
passed_shows w types old new h =
    let e = h.0 in
    let type : rows_type e.header.event_type ≡ None = none_of (rows_type e.header.event_type) (list_any (λ t. nat_eq t e.header.event_type) types) h.2 in
    (gives_nothing w new.in_force.tables e (no_rows old.place.at old.place.in_force h.1.gives.0 e type h.1.gives.2), refl)

passes_one : (w : Wanted) (types : List ℕ) (old new : Spot) → PassesOne types old new → Follows w old [] new
passes_one w types old new h = other_on w old new h.0 h.1 (passed_shows w types old new h).0

passes_follow : (w : Wanted) (types : List ℕ) (n : ℕ) (old new : Spot) → PassesOver types n old new → Follows w old [] new
passes_follow w types zero old new same = λ cs out left. subst (λ (s : Spot). Follows w s [] new) same (λ cs out left. left) cs out left
passes_follow w types (suc n) old new h = λ cs out left. passes_follow w types n old h.0 h.1 cs out (passes_one w types h.0 new h.2 cs out left)

after_passed : (O : EventError → Type 0) (w : Wanted) (old mid : Spot) (item : Option (Result LentEvent FileError)) (new : Spot) → Follows w old [] mid → ChangesOn O w mid item new → ChangesOn O w old item new
after_passed O w old mid None new passed h = passed [] None h
after_passed O w old mid (Some (Ok (lent.Rows c))) new passed h = λ ps end covers cs out left. passed _ out (h ps end covers cs out left)
after_passed O w old mid (Some (Ok (lent.Other o))) new passed h = λ cs out left. passed cs out (h cs out left)
after_passed O w old mid (Some (Err e)) new passed h = elim h [ inl other ↦ inl other | inr left ↦ inr (passed [] (Some e) left) ]

pub asked_on : (O : EventError → Type 0) (w : Wanted) (types : List ℕ) (old : Spot) (item : Option (Result LentEvent FileError)) (new : Spot) → NextAsked O w types old item new → ChangesOn O w old item new
asked_on O w types old item new h = after_passed O w old h.at item new (passes_follow w types h.passed old h.at h.passes) (changes_on O w h.at item new h.gives)

-- ---- what the functions give

pub shown_asked : (w : Wanted) (ts : Tables) (types : List ℕ) (g : Glance) (x : LentEvent) → Shows w ts g x → is_asked types g.header.event_type ≡ true → IsAsked types (Some (Ok x))
shown_asked w ts types g (lent.Rows c) shows asked = tt
shown_asked w ts types g (lent.Other o) shows asked = subst (λ (x : OtherEvent). is_asked types x.header.event_type ≡ true) (sym shows.1) asked

-- the item of the next event, where it is asked for
pub asked_now : (O : EventError → Type 0) (w : Wanted) (types : List ℕ) (old : Spot) (item : Option (Result LentEvent FileError)) (new : Spot) → NextEvent O w old item new → IsAsked types item → NextAsked O w types old item new
asked_now O w types old item new gives asked = record { passed = 0; at = old; passes = refl; gives = gives; is_asked_for = asked }

pub error_now : (O : EventError → Type 0) (w : Wanted) (types : List ℕ) (old new : Spot) (err : FileError) → old.pending ≡ Some err → IsAtEnd new → NextAsked O w types old (Some (Err err)) new
error_now O w types old new err some ended = asked_now O w types old (Some (Err err)) new (pending_now O w old new err some ended) tt

pub none_asked : (w : Wanted) (types : List ℕ) (old new : Spot) → GlanceAsked types old None new.place new.in_force → new.pending ≡ None → NextAsked IsMemory w types old None new
none_asked w types old new h none = record {
  passed = h.passed;
  at = spot h.place h.in_force None;
  passes = h.passes;
  gives = (refl, h.steps.gives.0, (h.steps.gives.1, none));
  is_asked_for = tt;
}

pub item_asked : (w : Wanted) (types : List ℕ) (old : Spot) (q : Place) (t : InForce) (item : Result Glance FileError) (result : Result LentEvent FileError) (new : Spot) → GlanceAsked types old (Some item) q t
    → ((s : Spot) → s.pending ≡ None → GlanceSteps s.place s.in_force (Some item) q t → NextEvent IsMemory w s (Some result) new)
    → ((ts : List ℕ) → is_glance_asked ts item ≡ true → IsAsked ts (Some result)) → NextAsked IsMemory w types old (Some result) new
item_asked w types old q t item result new h event asked = record {
  passed = h.passed;
  at = spot h.place h.in_force None;
  passes = h.passes;
  gives = event (spot h.place h.in_force None) refl h.steps;
  is_asked_for = asked types h.is_asked_for;
}

-- ---- passing over events

-- so many events are passed over
abbrev pub Passes : List ℕ → Spot → Spot → Type 0
Passes types old new = (n : ℕ) × PassesOver types n old new

pub none_passed : (types : List ℕ) (old : Spot) → Passes types old old
none_passed types old = (0, refl)

pub one_passed : (types : List ℕ) (old : Spot) (p q : Place) (s t : InForce) (item : Result Glance FileError) → Passes types old (spot p s None) → GlanceSteps p s (Some item) q t → is_glance_asked types item ≡ false → Passes types old (spot q t None)
one_passed types old p q s t (Err e) passes steps not = absurd cc
one_passed types old p q s t (Ok g) passes steps not = (
  suc passes.0,
  (
    spot p s None,
    passes.1,
    (
      steps.0,
      record { gives = steps.2.gives; in_force = steps.3; ends_before = refl; goes_on = refl },
      subst (λ (h : Glance). is_asked types h.header.event_type ≡ false) steps.1 not,
    ),
  ),
)

pub result_asked : (w : Wanted) (ts : Tables) (types : List ℕ) (g : Glance) (item : Result LentEvent FileError) → IfOk item (Shows w ts g) → is_asked types g.header.event_type ≡ true → IsAsked types (Some item)
result_asked w ts types g (Ok x) shows asked = shown_asked w ts types g x shows asked
result_asked w ts types g (Err e) shows asked = tt
