-- The items of an iterator, one call of `next` after the other, cover the bytes that are left.
use Rattle.std.proofs.Common.{◌≡◌, ◌≢◌, ℕ, List, [], ◌∷◌, ◌++◌, Option, Some, None, refl, sym, ap, ◌∙◌, append_assoc}
use Rattle.std.specs.List.{concat}
use Rattle.binlog_base.specs.declared.fault.Fault.{Fault}
use Rattle.binlog_base.specs.declared.fault.Fault.TheVariants.{Memory}
use Rattle.binlog_base.specs.Format.{Format}
use Rattle.binlog_table.specs.TableMap.{TableMap}
use Rattle.mysql_binlog_rows.specs.RowsEvent.{RowsEvent}
use Rattle.mysql_binlog_rows.specs.Images.{Pair, pair}
use Rattle.mysql_binlog_rows.specs.Cover.{IsPair, Covers}
use Rattle.mysql_binlog_rows.specs.Rows.{Rows, GivesPairsOf, AreItems}

-- a pair, and then what covers the bytes after it
pair_first : (g : Format Pair) (x left bytes : List ℕ) (p : Pair) (ps : List Pair) (end : Option Fault) → bytes ≡ x ++ left → IsPair g x p → Covers g left ps end → Covers g bytes (p ∷ ps) end
pair_first g x left bytes p ps end front is others = record {
  parts = x ∷ others.parts;
  rest = others.rest;
  whole = front ∙ ap (λ (y : List ℕ). x ++ y) others.whole ∙ sym (append_assoc x (concat others.parts) others.rest);
  each = (is, others.each);
  ending = others.ending;
}

pub items_cover : (t : TableMap) (e : RowsEvent) (s : Rows) (ps : List Pair) (end : Option Fault) → GivesPairsOf t e s → AreItems s ps end → end ≢ Some Memory → Covers (pair t e) s.left ps end
items_cover t e s [] None over items not =
    let item = items.1.item t e over in
    record { parts = []; rest = s.left; whole = refl; each = tt; ending = item.0 }
items_cover t e s [] (Some fault) over items not =
    let item = items.1.item t e over in
    let told = item.2 (λ is. not (ap Some is)) in
    record { parts = []; rest = s.left; whole = refl; each = tt; ending = (item.0, told.0, told.1) }
items_cover t e s (p ∷ ps) end over items not =
    let item = items.1.item t e over in
    pair_first (pair t e) item.1.0 items.0.left s.left p ps end item.1.1 item.1.2
    (items_cover t e items.0 ps end (items.1.stays t e over) items.2 not)
