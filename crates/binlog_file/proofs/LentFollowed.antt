-- Changes whose pairs are lent, and the changes that own their pairs.
use Rattle.std.proofs.Common.{◌≡◌, ◌≢◌, ◌⊎◌, ℕ, ◌+◌, List, [], ◌∷◌, ◌++◌, length, Option, Some, None, Result, Ok, Err, refl, sym, ap, subst, ◌∙◌, append_assoc, inl, inr, arith, ◌<◌}
use Rattle.std.specs.List.{concat}
use Rattle.std.specs.Prelude.{IfErr, IsErr}
use Rattle.std.proofs.lemmas.Bool.{false≢true}
use Rattle.binlog_base.specs.declared.fault.Fault.{Fault}
use Rattle.binlog_base.specs.declared.fault.Fault.TheVariants.{Memory}
use Rattle.binlog_base.specs.Format.{Format}
use Rattle.binlog_table.specs.TableMap.{TableMap}
use Rattle.mysql_binlog_rows.specs.declared.rows_event.event.RowsEventCtx.{RowsEventCtx}
use Rattle.mysql_binlog_rows.specs.RowsEvent.{RowsEvent, rows_event}
use Rattle.mysql_binlog_rows.specs.Images.{Pair, pair}
use Rattle.mysql_binlog_rows.specs.Rows.{ItemGives}
use Rattle.mysql_binlog_rows.specs.Cover.{IsPair, Covers}
use Rattle.mysql_binlog_rows.specs.Cover as cover
use Rattle.binlog_events.specs.declared.error.EventError.{EventError}
use Rattle.binlog_events.specs.declared.error.EventError.TheVariants as error
use Rattle.binlog_events.specs.declared.error.FileError.{FileError}
use Rattle.binlog_events.specs.declared.origin.Origin.{Origin}
use Rattle.binlog_file.specs.declared.lent_changes.LentEvent.{LentEvent}
use Rattle.binlog_file.specs.declared.lent_changes.LentEvent.TheVariants as lent
use Rattle.binlog_file.specs.Events.{Event, Glance, glance_of, origin_of, Place, NextGives}
use Rattle.binlog_file.specs.Tables.{Tables, InForce, in_force_after}
use Rattle.binlog_file.specs.Changes.{Wanted, Change, Given, nothing, failure, Gives, EventGives, RowsGive, Spot, spot, LeftFrom, Follows, IsMemory, IsAtEnd, at_position}
use Rattle.binlog_file.specs.Workings.Glances.{GlanceSteps}
use Rattle.binlog_file.specs.LentChanges.{LentChange, unread, Opens, PairGives, CoversOn, change_with, error_after}
use Rattle.binlog_file.specs.LentEvents.{Shows, GoesPast, NextEvent, ChangesOn}
use Rattle.binlog_file.specs.LentEvents as events
use Rattle.binlog_file.proofs.Followed.{event_follows, event_ends, error_follows, event_taken, change_given}

-- ---- the pairs of an event

covers_more : (g : Format Pair) (old new x : List ℕ) (p : Pair) (ps : List Pair) (end : Option Fault) → old ≡ x ++ new → IsPair g x p → Covers g new ps end → Covers g old (p ∷ ps) end
covers_more g old new x p ps end front is h = record {
  parts = x ∷ h.parts;
  rest = h.rest;
  whole = front ∙ ap (λ (t : List ℕ). x ++ t) h.whole ∙ sym (append_assoc x (concat h.parts) h.rest);
  each = (is, h.each);
  ending = h.ending;
}

covers_none : (g : Format Pair) (left : List ℕ) (end : Option Fault) → cover.EndsWith g left end → Covers g left [] end
covers_none g left end h = record { parts = []; rest = left; whole = refl; each = tt; ending = h }

pub covers_on : (old : LentChange) (p : Pair) (item : Option (Result (Unit {0}) FileError)) (new : LentChange) → PairGives old p item new → CoversOn old p item new
covers_on old p None new h = covers_none (pair old.table old.rows) old.left None h.0
covers_on old p (Some (Ok u)) new h = λ ps end more. covers_more (pair old.table old.rows) old.left new.left h.0 p ps end h.1 h.2 more
covers_on old p (Some (Err e)) new h = elim h.3 [
  | inl memory ↦ inl memory
  | inr fault ↦ inr (fault.0, covers_none (pair old.table old.rows) old.left (Some fault.0) fault.1, h.2, fault.2)
]

-- ---- an event that is opened

opened_gives : (w : Wanted) (ts : Tables) (from : Origin) (rows : RowsEvent) (t : TableMap) (ps : List Pair) (end : Option Fault) → Opens w ts from rows (unread from rows t) → Covers (pair t rows) rows.rows_data ps end
    → RowsGive w ts from rows (Some (change_with (unread from rows t) ps)) (error_after ps end)
opened_gives w ts from rows t ps None o covers =
    (o.is_real, record { is_from = refl; is_of = refl; in_force = o.in_force; is_wanted = o.is_wanted; covers = covers })
opened_gives w ts from rows t ps (Some f) o covers =
    (o.is_real, f, record { is_from = refl; is_of = refl; in_force = o.in_force; is_wanted = o.is_wanted; covers = covers }, refl)

-- what an event gives whose pairs are these
abbrev given_with : LentChange → List Pair → Option Fault → Given
given_with c ps end = record { change = Some (change_with c ps); error = error_after ps end }

shown_gives : (w : Wanted) (ts : Tables) (e : Event) (ctx : RowsEventCtx) (rows : RowsEvent) (t : TableMap) (ps : List Pair) (end : Option Fault) → e.rows ≡ Some ctx → (rows_event ctx).spells e.body rows
    → Opens w ts (origin_of e) rows (unread (origin_of e) rows t) → Covers (pair t rows) rows.rows_data ps end → EventGives w ts e (given_with (unread (origin_of e) rows t) ps end)
shown_gives w ts e ctx rows t ps end has spells o covers =
    subst (λ (r : Option RowsEventCtx). Gives w ts (origin_of e) r e.body (given_with (unread (origin_of e) rows t) ps end)) (sym has)
    (inr (rows, spells, opened_gives w ts (origin_of e) rows t ps end o covers))

-- ---- what was left at the old spot

from_old : (w : Wanted) (old : Spot) (front : List Change) (new : Spot) → old.pending ≡ None → Follows w (spot old.place old.in_force None) front new → Follows w old front new
from_old w old front new none h =
    subst (λ (p : Option FileError). Follows w (spot old.place old.in_force p) front new) (sym none) h

left_at : (w : Wanted) (p : Place) (s : InForce) (pending : Option FileError) → pending ≡ None → p.left ≡ [] → LeftFrom w p s pending [] None
left_at w p s None none empty = record { events = []; end = None; are_left = empty; are_changes = refl }
left_at w p s (Some e) none empty = absurd cc

rows_on : (O : EventError → Type 0) (w : Wanted) (old new : Spot) (e : Event) (ctx : RowsEventCtx) (rows : RowsEvent) (c : LentChange) → GoesPast old e new → e.rows ≡ Some ctx → (rows_event ctx).spells e.body rows
    → Opens w new.in_force.tables (origin_of e) rows c → ChangesOn O w old (Some (Ok (lent.Rows c))) new
rows_on O w old new e ctx rows c past has spells o =
    subst (λ (d : LentChange). ChangesOn O w old (Some (Ok (lent.Rows d))) new) (sym o.is_unread) (λ ps end covers.
    let from = origin_of e in
    let d = unread from rows c.table in
    let opens : Opens w (in_force_after old.in_force e).tables from rows d =
    subst (λ (s : InForce). Opens w s.tables from rows d) past.in_force (subst (λ (x : LentChange). Opens w new.in_force.tables from rows x) o.is_unread o) in
    let g = given_with d ps end in
    let here = shown_gives w (in_force_after old.in_force e).tables e ctx rows c.table ps end has spells opens covers in
    let pending = at_position e.position (error_after ps end) in
    from_old w old (change_with d ps ∷ []) (spot new.place new.in_force pending) past.ends_before
    (change_given O w (spot old.place old.in_force None) (change_with d ps) (spot new.place new.in_force pending)
    (event_taken O w old.in_force new.in_force old.place new.place new.place e g (Some (change_with d ps)) pending past.gives here past.in_force refl refl (λ _. refl))))

pub other_on : (w : Wanted) (old new : Spot) (e : Event) → GoesPast old e new → EventGives w new.in_force.tables e nothing → Follows w old [] new
other_on w old new e past gives =
    let here : EventGives w (in_force_after old.in_force e).tables e nothing = subst (λ (s : InForce). EventGives w s.tables e nothing) past.in_force gives in
    let there : Follows w old [] (spot new.place (in_force_after old.in_force e) None) =
    from_old w old [] (spot new.place (in_force_after old.in_force e) None) past.ends_before (event_follows w old.in_force old.place new.place e nothing past.gives here refl) in
    let with_tables : Follows w old [] (spot new.place new.in_force None) = subst (λ (s : InForce). Follows w old [] (spot new.place s None)) (sym past.in_force) there in
    subst (λ (p : Option FileError). Follows w old [] (spot new.place new.in_force p)) (sym past.goes_on) with_tables

fails_on : (w : Wanted) (p : Place) (s : InForce) (err : FileError) → events.Fails w p s err → LeftFrom w p s None [] (Some err)
fails_on w p s err h = elim h.1 [
  | inl refused ↦ error_follows w s s p h.0 h.0 err refused [] (Some err) (refl, refl)
  | inr fails ↦
      let at : FileError = record { position = fails.0.position; error = err.error } in
      let left : LeftFrom w p s None [] (Some at) = event_ends w s s p h.0 h.0 fails.0 (failure err.error) err.error fails.1 fails.2 refl [] (Some at) (refl, refl) in
      subst (λ (n : ℕ). LeftFrom w p s None [] (Some (record { position = n; error = err.error }))) (sym fails.3) left
]

ends_on : (w : Wanted) (p : Place) (s : InForce) (pending : Option FileError) (err : FileError) → events.EndsWith w p s pending err → LeftFrom w p s pending [] (Some err)
ends_on w p s None err h = fails_on w p s err h
ends_on w p s (Some pending) err h = (refl, ap Some h)

pub changes_on : (O : EventError → Type 0) (w : Wanted) (old : Spot) (item : Option (Result LentEvent FileError)) (new : Spot) → NextEvent O w old item new → ChangesOn O w old item new
changes_on O w old None new h = left_at w old.place old.in_force old.pending h.0 h.1
changes_on O w old (Some (Ok (lent.Rows c))) new h = rows_on O w old new h.0 h.2.0 h.2.2 c h.1 h.2.1 h.2.3 h.2.4
changes_on O w old (Some (Ok (lent.Other o))) new h = other_on w old new h.0 h.1 h.2.0
changes_on O w old (Some (Err e)) new h = elim h.1 [ inl other ↦ inl other | inr ends ↦ inr (ends_on w old.place old.in_force old.pending e ends) ]

-- ---- what the functions give

-- the pair that was read
pub pair_read : (c : LentChange) (p : Pair) (new : List ℕ) → ItemGives (pair c.table c.rows) c.left (Some (Ok p)) new → PairGives c p (Some (Ok tt)) (record c { left = new; count = c.count + 1 })
pair_read c p new h = (h.1.0, h.1.1, h.1.2, refl)

-- the pair that can't be read
pub pair_failed : (c : LentChange) (p : Pair) (new : List ℕ) (f : Fault) (e : FileError) → ItemGives (pair c.table c.rows) c.left (Some (Err f)) new → p ≡ (None, None) → e.position ≡ c.origin.position
    → IsMemory e.error ⊎ ((f ≢ Memory) × (e.error ≡ error.RowsData c.count f)) → PairGives c p (Some (Err e)) (record c { left = new })
pair_failed c p new f e h none at is = (
  ap (λ (l : List ℕ). record c { left = l }) h.1,
  none,
  at,
  elim is [
    | inl memory ↦ inl memory
    | inr fault ↦ inr (f, (h.0, (h.2 fault.0).0, (h.2 fault.0).1), fault.1)
  ],
)

-- nothing is left of the rows data
pub no_pair : (c : LentChange) (p : Pair) (new : List ℕ) → ItemGives (pair c.table c.rows) c.left None new → p ≡ (None, None) → PairGives c p None (record c { left = new })
no_pair c p new h none = (h.0, ap (λ (l : List ℕ). record c { left = l }) (h.1 ∙ sym h.0), none)

-- ---- the next event

pub fails_now : (w : Wanted) (old : Spot) (err : FileError) → old.pending ≡ None → events.Fails w old.place old.in_force err → events.EndsWith w old.place old.in_force old.pending err
fails_now w old err none h = subst (λ (p : Option FileError). events.EndsWith w old.place old.in_force p err) (sym none) h

pub pending_now : (O : EventError → Type 0) (w : Wanted) (old new : Spot) (err : FileError) → old.pending ≡ Some err → IsAtEnd new → NextEvent O w old (Some (Err err)) new
pending_now O w old new err some ended = (ended, inr (subst (λ (p : Option FileError). events.EndsWith w old.place old.in_force p err) (sym some) refl))

-- what the tables and the body of an event give, if that is an error
error_given : (w : Wanted) (p q : Place) (s t : InForce) (e : Event) (g : Glance) (err : FileError) → NextGives p (Some (Ok e)) q → g ≡ glance_of e → t ≡ in_force_after s e → err.position ≡ g.origin.position
    → Gives w t.tables g.origin g.rows g.body (failure err.error) → events.Fails w p s err
error_given w p q s t e g err gives is kept at given =
    let there = subst (λ (x : Glance). Gives w t.tables x.origin x.rows x.body (failure err.error)) is given in
    let here = subst (λ (u : InForce). EventGives w u.tables e (failure err.error)) kept there in
    (q, inr (e, gives, here, at ∙ ap (λ (x : Glance). x.origin.position) is))

pub event_shown : (O : EventError → Type 0) (w : Wanted) (old : Spot) (q : Place) (s t : InForce) (e : Event) (g : Glance) (x : LentEvent) (new : Spot) → old.pending ≡ None → NextGives old.place (Some (Ok e)) q → g ≡ glance_of e
    → t ≡ in_force_after old.in_force e → Shows w t.tables g x → new ≡ spot q t None → NextEvent O w old (Some (Ok x)) new
event_shown O w old q s t e g x new none gives is kept shows at = subst (λ (n : Spot). NextEvent O w old (Some (Ok x)) n) (sym at)
    (e, record { gives = gives; in_force = kept; ends_before = none; goes_on = refl }, subst (λ (h : Glance). Shows w t.tables h x) is shows)

pub event_failed : (O : EventError → Type 0) (w : Wanted) (old : Spot) (q : Place) (t : InForce) (e : Event) (g : Glance) (err : FileError) (new : Spot) → ((d : EventError) → IsMemory d → O d) → old.pending ≡ None → NextGives old.place (Some (Ok e)) q
    → g ≡ glance_of e → t ≡ in_force_after old.in_force e → events.GivesError w t.tables g err → IsAtEnd new → NextEvent O w old (Some (Err err)) new
event_failed O w old q t e g err new wider none gives is kept given ended = (
  ended,
  elim given.1 [
    | inl memory ↦ inl (wider err.error memory)
    | inr error ↦ inr (fails_now w old err none (error_given w old.place q old.in_force t e g err gives is kept given.0 error))
  ],
)

-- ---- in memory

pub item_shown : (w : Wanted) (old : Spot) (q : Place) (t u : InForce) (g : Glance) (x : LentEvent) → old.pending ≡ None → GlanceSteps old.place old.in_force (Some (Ok g)) q t → Shows w t.tables g x → u ≡ t → NextEvent IsMemory w old (Some (Ok x)) (spot q u None)
item_shown w old q t u g x none steps shows held =
    subst (λ (v : InForce). NextEvent IsMemory w old (Some (Ok x)) (spot q v None)) (sym held) (event_shown IsMemory w old q t t steps.0 g x (spot q t None) none steps.2.gives steps.1 steps.3 shows refl)

pub item_failed : (w : Wanted) (old : Spot) (q : Place) (t : InForce) (g : Glance) (err : FileError) (new : Spot) → old.pending ≡ None → GlanceSteps old.place old.in_force (Some (Ok g)) q t → events.GivesError w t.tables g err → IsAtEnd new → NextEvent IsMemory w old (Some (Err err)) new
item_failed w old q t g err new none steps given ended = event_failed IsMemory w old q t steps.0 g err new (λ d m. m) none steps.2.gives steps.1 steps.3 given ended

pub item_failed_if : (w : Wanted) (old : Spot) (q : Place) (t : InForce) (g : Glance) (item : Result LentEvent FileError) (new : Spot) → old.pending ≡ None → GlanceSteps old.place old.in_force (Some (Ok g)) q t → IfErr item (events.GivesError w t.tables g) → IsErr item → IsAtEnd new → NextEvent IsMemory w old (Some item) new
item_failed_if w old q t g (Ok x) new none steps given is ended = absurd (false≢true is)
item_failed_if w old q t g (Err err) new none steps given is ended = item_failed w old q t g err new none steps given ended

pub item_refused : (w : Wanted) (old : Spot) (q : Place) (t : InForce) (err : FileError) (new : Spot) → old.pending ≡ None → GlanceSteps old.place old.in_force (Some (Err err)) q t → IsAtEnd new → NextEvent IsMemory w old (Some (Err err)) new
item_refused w old q t err new none steps ended = (
  ended,
  elim steps [
    | inl refused ↦ inr (fails_now w old err none (q, inl refused.gives))
    | inr memory ↦ inl memory.0
  ],
)

-- each item takes bytes
pub item_shrinks : (p q : Place) (s t : InForce) (item : Result Glance FileError) → GlanceSteps p s (Some item) q t → length q.left < length p.left
item_shrinks p q s t (Ok g) h = omega (arith, h.2.shrinks)
item_shrinks p q s t (Err e) h = elim h [
  | inl steps ↦ omega (arith, steps.shrinks.0, ap length steps.shrinks.1)
  | inr memory ↦ omega (arith, memory.1, ap length memory.2)
]
