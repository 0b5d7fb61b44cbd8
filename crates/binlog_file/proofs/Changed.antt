-- What a rows event gives.
use Rattle.std.proofs.Common.{◌≡◌, ℕ, true, false, Option, Some, None, Result, Ok, Err, sym, ap, subst, ◌∙◌, inr}
use Rattle.std.specs.Prelude.{IfOk}
use Rattle.binlog_base.specs.declared.fault.Fault.{Fault}
use Rattle.binlog_table.specs.TableMap.{TableMap}
use Rattle.mysql_binlog_rows.specs.RowsEvent.{RowsEvent}
use Rattle.binlog_events.specs.declared.error.EventError.{EventError}
use Rattle.binlog_events.specs.declared.origin.Origin.{Origin}
use Rattle.binlog_file.specs.Tables.{Tables}
use Rattle.mysql_binlog_rows.specs.Images.{pair}
use Rattle.mysql_binlog_rows.specs.Cover.{Covers}
use Rattle.binlog_file.specs.Changes.{Wanted, Change, IsChange, IsChosen, IsCovered, RowsGive, Given, is_dummy}

pub unwanted : (w : Wanted) (ts : Tables) (from : Origin) (id : ℕ) (rows : RowsEvent) (t : TableMap) → is_dummy rows ≡ false → id ≡ rows.table_id → ts id ≡ Some t
    → IsChosen w t from.position rows None → RowsGive w ts from rows None None
unwanted w ts from id rows t real same e h = inr (real, record { table = t; in_force = ap ts (sym same) ∙ e; not_wanted = h })

changed : (w : Wanted) (ts : Tables) (from : Origin) (rows : RowsEvent) (t : TableMap) (c : Change) (end : Option Fault) → ts rows.table_id ≡ Some t → w from.position t rows.event_type ≡ true
    → c.origin ≡ from → c.rows ≡ rows → c.table ≡ t → Covers (pair t rows) rows.rows_data c.pairs end → IsChange w ts from rows c end
changed w ts from rows t c end e h is_from is_of has covers = record {
  is_from = is_from;
  is_of = is_of;
  in_force = e ∙ ap (λ (u : TableMap). Some u) (sym has);
  is_wanted = subst (λ (u : TableMap). w from.position u rows.event_type ≡ true) (sym has) h;
  covers = subst (λ (u : TableMap). Covers (pair u rows) rows.rows_data c.pairs end) (sym has) covers;
}

covered : (w : Wanted) (ts : Tables) (from : Origin) (rows : RowsEvent) (t : TableMap) (c : Option Change) (err : Option EventError) → is_dummy rows ≡ false → ts rows.table_id ≡ Some t
    → w from.position t rows.event_type ≡ true → IsCovered t from rows c err → RowsGive w ts from rows c err
covered w ts from rows t None err real e h k = absurd k
covered w ts from rows t (Some c) None real e h k = (real, changed w ts from rows t c None e h k.0 k.1 k.2 k.3)
covered w ts from rows t (Some c) (Some err) real e h k = (real, k.0, changed w ts from rows t c (Some k.0) e h k.1 k.2 k.3 k.4, k.5)

pub covered_if : (w : Wanted) (ts : Tables) (from : Origin) (id : ℕ) (rows : RowsEvent) (t u : TableMap) (r : Result Given Fault) → is_dummy rows ≡ false → id ≡ rows.table_id → ts id ≡ Some t
    → IsChosen w t from.position rows (Some u) → IfOk r (λ g. IsCovered u from rows g.change g.error) → IfOk r (λ g. RowsGive w ts from rows g.change g.error)
covered_if w ts from id rows t u (Ok g) real same e h k = covered w ts from rows t g.change g.error real (ap ts (sym same) ∙ e) h.0 (subst (λ (v : TableMap). IsCovered v from rows g.change g.error) h.1 k)
covered_if w ts from id rows t u (Err f) real same e h k = tt
