-- What is shown of an event that was glanced at.
use Rattle.std.proofs.Common.{◌≡◌, ℕ, true, false, List, Option, Some, None, Result, Ok, Err, refl, sym, ap, subst, ◌∙◌, inl, inr}
use Rattle.std.specs.Prelude.{IfOk, IfErr}
use Rattle.binlog_base.specs.declared.fault.Fault.{Fault}
use Rattle.binlog_table.specs.TableMap.{TableMap}
use Rattle.mysql_binlog_rows.specs.declared.rows_event.event.RowsEventCtx.{RowsEventCtx}
use Rattle.mysql_binlog_rows.specs.RowsEvent.{RowsEvent, rows_event}
use Rattle.binlog_events.specs.declared.error.EventError.{EventError}
use Rattle.binlog_events.specs.declared.error.EventError.TheVariants as error
use Rattle.binlog_events.specs.declared.error.FileError.{FileError}
use Rattle.binlog_events.specs.declared.origin.Origin.{Origin}
use Rattle.binlog_file.specs.declared.lent_changes.LentEvent.{LentEvent}
use Rattle.binlog_file.specs.declared.lent_changes.LentEvent.TheVariants as lent
use Rattle.binlog_file.specs.Events.{Glance}
use Rattle.binlog_file.specs.Tables.{Tables}
use Rattle.binlog_file.specs.Changes.{Wanted, is_dummy, Gives, nothing, failure, IsChosen}
use Rattle.binlog_file.specs.LentChanges.{unread, Opens}
use Rattle.binlog_file.specs.LentEvents.{other_of, RowsOpen, RowsFail, Shows, GivesError}

chosen : (w : Wanted) (ts : Tables) (g : Glance) (rows : RowsEvent) (t : TableMap) (o : Option TableMap) → is_dummy rows ≡ false → ts rows.table_id ≡ Some t → IsChosen w t g.origin.position rows o → RowsOpen w ts g rows o
chosen w ts g rows t (Some u) real e h =
    subst (λ (v : TableMap). Opens w ts g.origin rows (unread g.origin rows v)) (sym h.1) (record { is_real = real; in_force = e; is_wanted = h.0; is_unread = refl })
chosen w ts g rows t None real e h = inr (real, record { table = t; in_force = e; not_wanted = h })

pub chosen_in : (w : Wanted) (ts : Tables) (g : Glance) (id : ℕ) (rows : RowsEvent) (t : TableMap) (o : Option TableMap) → is_dummy rows ≡ false → id ≡ rows.table_id → ts id ≡ Some t → IsChosen w t g.origin.position rows o → RowsOpen w ts g rows o
chosen_in w ts g id rows t o real same e h = chosen w ts g rows t o real (ap ts (sym same) ∙ e) h

pub dummy_opened : (w : Wanted) (ts : Tables) (g : Glance) (rows : RowsEvent) → is_dummy rows ≡ true → RowsOpen w ts g rows None
dummy_opened w ts g rows dummy = inl dummy

pub other_shown : (w : Wanted) (ts : Tables) (g : Glance) (ctx : RowsEventCtx) (rows : RowsEvent) → g.rows ≡ Some ctx → (rows_event ctx).spells g.body rows → RowsOpen w ts g rows None → Shows w ts g (lent.Other (other_of g))
other_shown w ts g ctx rows has spells h =
    (subst (λ (r : Option RowsEventCtx). Gives w ts g.origin r g.body nothing) (sym has) (inr (rows, spells, h)), refl)

pub change_shown : (w : Wanted) (ts : Tables) (g : Glance) (ctx : RowsEventCtx) (rows : RowsEvent) (t : TableMap) (left : List ℕ) → g.rows ≡ Some ctx → (rows_event ctx).spells g.body rows → RowsOpen w ts g rows (Some t) → left ≡ rows.rows_data
    → Shows w ts g (lent.Rows (record { origin = g.origin; rows = rows; table = t; left = left; count = 0 }))
change_shown w ts g ctx rows t left has spells h e =
    let change = subst (λ (x : List ℕ). Opens w ts g.origin rows (record { origin = g.origin; rows = rows; table = t; left = x; count = 0 })) (sym e) h in
    (ctx, has, rows, spells, change)

pub rows_failed : (w : Wanted) (ts : Tables) (g : Glance) (ctx : RowsEventCtx) (rows : RowsEvent) (e : FileError) → g.rows ≡ Some ctx → (rows_event ctx).spells g.body rows → RowsFail w ts g rows e → GivesError w ts g e
rows_failed w ts g ctx rows e has spells h = (
  h.0,
  elim h.1 [
    | inl memory ↦ inl memory
    | inr give ↦ inr (subst (λ (r : Option RowsEventCtx). Gives w ts g.origin r g.body (failure e.error)) (sym has) (inr (rows, spells, give)))
  ],
)

pub body_failed : (w : Wanted) (ts : Tables) (g : Glance) (ctx : RowsEventCtx) (f : Fault) (e : FileError) → g.rows ≡ Some ctx → (rows_event ctx).refuses g.body f → e.position ≡ g.origin.position → e.error ≡ error.RowsEvent f → GivesError w ts g e
body_failed w ts g ctx f e has refuses at is =
    let given : Gives w ts g.origin g.rows g.body (failure (error.RowsEvent f)) = subst (λ (r : Option RowsEventCtx). Gives w ts g.origin r g.body (failure (error.RowsEvent f))) (sym has) (inl (f, refuses, refl)) in
    (at, inr (subst (λ (d : EventError). Gives w ts g.origin g.rows g.body (failure d)) (sym is) given))

pub memory_refused : (w : Wanted) (ts : Tables) (g : Glance) (rows : RowsEvent) (e : FileError) → e.position ≡ g.origin.position → e.error ≡ error.Memory → RowsFail w ts g rows e
memory_refused w ts g rows e at is = (at, inl is)

pub opened_in_force : (w : Wanted) (ts : Tables) (from : Origin) (rows : RowsEvent) (t : TableMap) → Opens w ts from rows (unread from rows t) → ts rows.table_id ≡ Some t
opened_in_force w ts from rows t h = h.in_force

pub no_table : (w : Wanted) (ts : Tables) (g : Glance) (id : ℕ) (rows : RowsEvent) (e : FileError) → is_dummy rows ≡ false → id ≡ rows.table_id → ts id ≡ None → e.position ≡ g.origin.position → e.error ≡ error.UnknownTable id → RowsFail w ts g rows e
no_table w ts g id rows e real same none at is = (at, inr (real, ap ts (sym same) ∙ none, is ∙ ap error.UnknownTable same))

pub nothing_shown : (w : Wanted) (ts : Tables) (g : Glance) (x : LentEvent) → g.rows ≡ None → x ≡ lent.Other (other_of g) → Shows w ts g x
nothing_shown w ts g x none is = subst (λ (y : LentEvent). Shows w ts g y) (sym is)
    (subst (λ (r : Option RowsEventCtx). Gives w ts g.origin r g.body nothing) (sym none) refl, refl)
