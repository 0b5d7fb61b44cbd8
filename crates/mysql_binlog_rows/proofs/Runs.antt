-- Decoding both events: the bytes allow only one table map event, one rows event and one list of
-- pairs.
use Rattle.std.proofs.Common.{◌≡◌, ℕ, List, [], Option, None, Result, Err, sym, ap, subst, refl, ◌∙◌, inl, inr}
use Rattle.std.specs.List.{concat}
use Rattle.std.proofs.lemmas.List.{append-nil}
use Rattle.binlog_base.specs.declared.fault.Fault.{Fault}
use Rattle.binlog_base.specs.Lemmas.Format.{ok_is, err_is, ok_or_err}
use Rattle.binlog_base.specs.declared.below.columns.server.Server.{Server}
use Rattle.binlog_table.specs.TableMap.{TableMap, of_server, table_map_of}
use Rattle.binlog_table.specs.Lemmas.TableMap.{exact_table_map, same_table_map}
use Rattle.mysql_binlog_rows.specs.RowsEvent.{RowsEvent, rows_event}
use Rattle.mysql_binlog_rows.specs.Lemmas.RowsEvent.{exact_rows_event}
use Rattle.mysql_binlog_rows.specs.Images.{Pair, pair}
use Rattle.mysql_binlog_rows.specs.Lemmas.Images.{exact_pair}
use Rattle.mysql_binlog_rows.specs.Cover.{Covers}
use Rattle.mysql_binlog_rows.specs.Decodes.{Input, IsTable, IsEvent, Decodes, IsAllPairs, IsRefused}
use Rattle.mysql_binlog_rows.proofs.Covers.{covers_one}

table_one : (i : Input) (t u : TableMap) → IsTable i t → IsTable i u → t ≡ u
table_one i t u ht hu =
    let ef = exact_table_map i.server i.table_post_header_len in
    ap (λ (p : TableMap × List ℕ). p.0) (ok_is (t, []) (u, []) (sym (ef.complete i.table t ht) ∙ ef.complete i.table u hu))

event_one : (i : Input) (d e : RowsEvent) → IsEvent i d → IsEvent i e → d ≡ e
event_one i d e hd he =
    let ef = exact_rows_event i.ctx in
    ap (λ (p : RowsEvent × List ℕ). p.0) (ok_is (d, []) (e, []) (sym (ef.complete i.rows d hd) ∙ ef.complete i.rows e he))

pub decoded_one : (i : Input) (ps qs : List Pair) (e f : Option Fault) → Decodes i ps e → Decodes i qs f → (ps ≡ qs) × (e ≡ f)
decoded_one i ps qs e f a b =
    let t-is = table_one i b.table a.table b.is_table a.is_table in
    let e-is = event_one i b.event a.event b.is_event a.is_event in
    let with_event = subst (λ (v : RowsEvent). Covers (pair b.table v) v.rows_data qs f) e-is b.covers in
    let other = subst (λ (t : TableMap). Covers (pair t a.event) a.event.rows_data qs f) t-is with_event in
    covers_one (pair a.table a.event) (exact_pair a.table a.event) a.event.rows_data ps qs e f a.covers other

-- if the rows data is exactly a list of pairs, it is decoded to them without a fault
pub all_decode : (i : Input) (parts : List (List ℕ)) (ps : List Pair) → IsAllPairs i parts ps → Decodes i ps None
all_decode i parts ps h = record {
  table = h.table;
  event = h.event;
  is_table = h.is_table;
  is_event = h.is_event;
  covers = record { parts = parts; rest = []; whole = h.whole ∙ sym (append-nil (concat parts)); each = h.each; ending = refl };
}

-- ---- a refused event can't be read, and has only one fault

abbrev table_at : Input → Result (TableMap × List ℕ) Fault
table_at i = (table_map_of i.server i.table_post_header_len).parse i.table

abbrev event_at : Input → Result (RowsEvent × List ℕ) Fault
event_at i = (rows_event i.ctx).parse i.rows

abbrev refusal : {A : Type 0} → Fault → Result A Fault
refusal e = Err e

pub table_refused : {A : Type 0} (i : Input) (d e : Fault) → table_at i ≡ Err d → IsRefused i e → refusal {A = A} d ≡ refusal e
table_refused {A} i d e h r =
    let ef = exact_table_map i.server i.table_post_header_len in
    elim r [
      | inl l ↦ ap (refusal {A = A}) (err_is d e (sym h ∙ ef.refused_complete i.table e l))
      | inr o ↦ absurd (ok_or_err (table_at i) (o.0, []) d (ef.complete i.table o.0 o.1) h)
    ]

pub event_refused : {A : Type 0} (i : Input) (t : TableMap) (d e : Fault) → IsTable i t → event_at i ≡ Err d → IsRefused i e → refusal {A = A} d ≡ refusal e
event_refused {A} i t d e is h r =
    let tf = exact_table_map i.server i.table_post_header_len in
    let ef = exact_rows_event i.ctx in
    elim r [
      | inl l ↦ absurd (ok_or_err (table_at i) (t, []) e (tf.complete i.table t is) (tf.refused_complete i.table e l))
      | inr o ↦ ap (refusal {A = A}) (err_is d e (sym h ∙ ef.refused_complete i.rows e o.2))
    ]

pub none_refused : (i : Input) (t : TableMap) (v : RowsEvent) (e : Fault) → IsTable i t → IsEvent i v → IsRefused i e → ⊥
none_refused i t v e is_table is_event r =
    let tf = exact_table_map i.server i.table_post_header_len in
    let ef = exact_rows_event i.ctx in
    elim r [
      | inl l ↦ ok_or_err (table_at i) (t, []) e (tf.complete i.table t is_table) (tf.refused_complete i.table e l)
      | inr o ↦ ok_or_err (event_at i) (v, []) e (ef.complete i.rows v is_event) (ef.refused_complete i.rows e o.2)
    ]

-- ---- an event that is read, or refused, as MySQL's is the same event of each server

pub read_as : (s r : Server) (n : ℕ) (x : List ℕ) (t u : TableMap) → (table_map_of s n).spells x t → u ≡ of_server r t → (table_map_of r n).spells x u
read_as s r n x t u h is = rw is ((same_table_map s r n).spells x t h)

pub refused_as : (s r : Server) (n : ℕ) (x : List ℕ) (e : Fault) → (table_map_of s n).refuses x e → (table_map_of r n).refuses x e
refused_as s r n x e h = (same_table_map s r n).refuses x e h

pub fault_as : (s r : Server) (n : ℕ) (x : List ℕ) (e : Fault) → (table_map_of s n).parse x ≡ Err e → (table_map_of r n).parse x ≡ Err e
fault_as s r n x e h = (exact_table_map r n).refused_complete x e (refused_as s r n x e ((exact_table_map s n).refused_sound x e h))
