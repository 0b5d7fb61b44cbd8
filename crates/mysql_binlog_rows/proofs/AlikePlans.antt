-- Two events that tell the same of their table have the same plans.
use Rattle.std.proofs.Common.{◌≡◌, ℕ, suc, ◌+◌, ◌≤◌, Bool, true, false, List, [], ◌∷◌, Option, Result, Ok, Err, refl, sym, ap, subst, ◌∙◌, arith}
use Rattle.std.specs.Option.{option_map}
use Rattle.binlog_base.specs.declared.fault.Fault.{Fault}
use Rattle.binlog_base.specs.Bits.{count_set}
use Rattle.binlog_table.specs.TableMap.{TableMap, without_id}
use Rattle.binlog_table.specs.ColumnTypes.{json_count}
use Rattle.binlog_table.specs.Extracted.{field_fault}
use Rattle.binlog_table.specs.TableColumns.{Column, column_at, table_columns}
use Rattle.mysql_binlog_rows.specs.RowsEvent.{RowsEvent, image_columns, same_columns, has_options}
use Rattle.mysql_binlog_rows.specs.RowsEventWritten.{IsRowsEvent}
use Rattle.mysql_binlog_rows.specs.Workings.Plans as Spec
use Rattle.mysql_binlog_rows.specs.Workings.Plans.{Plan, Plans, planned_then, first_column, after_first, planned_from, unless_refused, plan_of, plans_by, plans_of, walked_in, walked_apart, slot_count, planned_pair, Reads}
use Rattle.mysql_binlog_rows.specs.Rows.{Made, Rows, IsOf, event_steps, most_steps, made_by}
use Rattle.mysql_binlog_rows.specs.Kept.{Planned, Serves, plans_kept}
use Rattle.mysql_binlog_rows.proofs.PlanReads.{plans_read, slots_least}

then_alike : (t : TableMap) (i : ℕ) (c : Result Column Fault) (p : Bool) (others : Spec.Planned) → planned_then t i c p others ≡ planned_then (without_id t) i c p others
then_alike t i (Ok c) p others = refl
then_alike t i (Err e) p others = refl

planned_alike : (t : TableMap) (i : ℕ) (walk : List (Result Column Fault)) (ps : List Bool) → planned_from t i walk ps ≡ planned_from (without_id t) i walk ps
planned_alike t i walk [] = refl
planned_alike t i walk (p ∷ ps) =
    ap (planned_then t i (first_column walk) p) (planned_alike t (suc i) (after_first walk) ps) ∙ then_alike t i (first_column walk) p (planned_from (without_id t) (suc i) (after_first walk) ps)

columns_alike : (t : TableMap) → table_columns t ≡ table_columns (without_id t)
unfolding column_at
columns_alike t = refl

plan_alike : (t : TableMap) (ps : List Bool) → plan_of t ps ≡ plan_of (without_id t) ps
plan_alike t ps =
    ap (λ (k : Spec.Planned). record { count = count_set ps; json_columns = json_count t.types; planned = unless_refused (field_fault t) k })
    (planned_alike t 0 (table_columns t) ps ∙ ap (λ (walk : List (Result Column Fault)). planned_from (without_id t) 0 walk ps) (columns_alike t))

abbrev plans_with : (List Bool → Plan) → Bool → Option (List Bool) → Option (List Bool) → Plans
plans_with f o before after = record { before = option_map f before; after = option_map f after; is_one = same_columns before after; has_options = o; walked = walked_in (option_map f before) + walked_apart (same_columns before after) (option_map f after) }

plans_alike : (t : TableMap) (o : Bool) (before after : Option (List Bool)) → plans_by t o before after ≡ plans_by (without_id t) o before after
plans_alike t o before after = ap (λ (f : List Bool → Plan). plans_with f o before after) (λ k ps. plan_alike t ps k)

-- the plans that are kept are those of the events that they serve
served : (p : Planned) (t : TableMap) (e : RowsEvent) → Serves p t e → plans_kept p ≡ plans_of t e
served p t e h =
    plans_alike p.table p.has_options (image_columns p.num_columns p.before) (image_columns p.num_columns p.after)
    ∙ (λ k. plans_by (h.table k) (h.options k) (image_columns (h.num_columns k) (h.before k)) (image_columns (h.num_columns k) (h.after k)))
    ∙ sym (plans_alike t (has_options e.event_type) (image_columns e.num_columns e.before) (image_columns e.num_columns e.after))

-- by kept plans, the pairs are read of the events that they serve
pub served_reads : (p : Planned) (plans : Plans) → plans ≡ plans_kept p → (t : TableMap) (e : RowsEvent) → Serves p t e → Reads t e plans
served_reads p plans is t e h x = ap (λ (q : Plans). (planned_pair q).parse x) (is ∙ served p t e h) ∙ plans_read t e x

-- by plans that were made for an earlier event the same pairs are read
pub made_reads : (is_new : Bool) (m : Made) (t : TableMap) (e : RowsEvent) → Reads t e m.plans → Reads t e (made_by is_new m).plans
unfolding planned_pair
made_reads true m t e reads x = reads x
made_reads false m t e reads x = reads x

pub reads_made : (is_new : Bool) (m : Made) (t : TableMap) (e : RowsEvent) → Reads t e (made_by is_new m).plans → Reads t e m.plans
unfolding planned_pair
reads_made true m t e reads x = reads x
reads_made false m t e reads x = reads x

-- plans that were made for these events are theirs
pub of_events : (t : TableMap) (e : RowsEvent) (m : Made) (r : Rows) → IsRowsEvent e → m.plans ≡ plans_of t e → m.steps ≡ event_steps t e → m.steps ≤ most_steps t e → r.plans ≡ m.plans → r.due_steps ≡ m.steps → r.most_steps ≡ m.steps → IsOf t e r
of_events t e m r is plans exact most same due steps = record {
  reads = subst (λ (p : Plans). Reads t e p) (sym (same ∙ plans)) (plans_read t e);
  exact = due ∙ exact;
  most = omega (arith, most, steps);
  least = λ d. subst (λ (p : Plans). e.num_columns ≤ slot_count p) (sym (same ∙ plans)) (slots_least t e is d);
}
