use Rattle.std.proofs.Common.{◌≡◌, ◌∷◌, ◌++◌, [], List, ℕ, map, rules, sym, ap, subst, ◌∙◌, true, false}
use Rattle.std.specs.Prelude.{not, ◌==◌, ◌&&◌}
use Rattle.std.specs.Map.{values_of}
use Rattle.std.specs.Map.Iter.{deref_pair}
use Rattle.std.specs.List.{flat_map}
use Rattle.std.specs.Io.KnownBytes.{Appends}
use Rattle.std.proofs.lemmas.List.{map-append}
use Rattle.std.proofs.lemmas.Map.Iter.{iter_end}
use Rattle.changed_rows.specs.declared.count.Changed.{Changed}
use Rattle.changed_rows.specs.declared.count.TableName.{TableName}
use Rattle.changed_rows.specs.Counted.{name_text, numbers_text, plus, sum_of, others_text, head_text}
use Rattle.changed_rows.proofs.Counted.{line_printed, entry_summed, table_printed, names_ascend, nothing_printed, others_printed, turned_false, turned_true, in_any_case}
use Rattle.changed_rows.proofs.count.Counts.print.Goals.{then-ne+in_ok-print-2, else-ne}
use Rattle.changed_rows.proofs.count.Counts.print.Goals as goal

pub loop-name-preserved : goal.loop-name-preserved
loop-name-preserved g c =
    let h = c.loop-name.invariant in
    let so_far = map deref_pair c.loop-name.yielded in
    let e : TableName × Changed = (c.in-Some.name.now, c.in-Some.changed.now) in
    let more = sym (map-append deref_pair c.loop-name.yielded ((c.in-Some.name, c.in-Some.changed) ∷ [])) in
    let name : c.as_str.result.now ≡ name_text c.in-Some.name.now = c.as_str.ensures.value ∙ c.in_ok-name.ensures in
    let line = subst (λ (n : List ℕ). Appends (g.O.Write.contents c.loop-name.out) (g.O.Write.contents c.print.new.out) (numbers_text c.in-Some.changed.now n)) name c.in_ok-print.ensures in (
      subst (λ (es : List (TableName × Changed)). Appends (g.O.Write.contents c.args.out.now) (g.O.Write.contents c.print.new.out) (head_text ++ flat_map (λ e. numbers_text e.1 (name_text e.0)) es)) more
          (line_printed _ _ _ head_text so_far e h.0 line),
      c.add_all-in-loop-name.ensures ∙ ap (λ (s : Changed). plus s c.in-Some.changed.now) h.1 ∙ entry_summed c.args.self.now.others so_far e ∙ ap (λ (es : List (TableName × Changed)). sum_of (c.args.self.now.others ∷ values_of es)) more,
    )

pub returns-clause-written : goal.returns-clause-written
returns-clause-written g c =
    let h = c.loop-name.invariant in
    let others = c.args.self.now.others in
    let all : map deref_pair c.loop-name.yielded ≡ c.args.self.now.tables.entries = search (rules, iter_end) in
    let tables = subst (λ (es : List (TableName × Changed)). Appends (g.O.Write.contents c.args.out.now) (g.O.Write.contents c.loop-name.out) (head_text ++ flat_map (λ e. numbers_text e.1 (name_text e.0)) es)) all h.0 in
    let sums = h.1 ∙ ap (λ (es : List (TableName × Changed)). sum_of (others ∷ values_of es)) all in
    let rest : Appends (g.O.Write.contents c.loop-name.out) (g.O.Write.contents c.if-ne.out) (others_text others) = elim c.if-ne.branch [
      | then-ne+in_ok-print-2 w ↦
          let differs = subst (λ (n : Changed). true ≡ not (others.inserted == n.inserted && (others.updated == n.updated && others.deleted == n.deleted))) c.none.ensures w.if-ne.ensures in
          subst (λ o. Appends (g.O.Write.contents c.loop-name.out) (g.O.Write.contents o) (others_text others)) (sym w.out-is) (others_printed _ _ others (turned_false _ differs) w.in_ok-print-2.ensures)
      | else-ne w ↦
          let same = subst (λ (n : Changed). false ≡ not (others.inserted == n.inserted && (others.updated == n.updated && others.deleted == n.deleted))) c.none.ensures w.if-ne.ensures in
          subst (λ o. Appends (g.O.Write.contents c.loop-name.out) (g.O.Write.contents o) (others_text others)) (sym w.out-is) (nothing_printed _ others (turned_true _ same))
    ] in
    in_any_case c.flush_once.result _ (table_printed _ _ _ _ _ _ others c.loop-name.sums tables rest sums c.in_ok-print-3.ensures c.flush_once.ensures.bytes)

pub returns-clause-ascend : goal.returns-clause-ascend
returns-clause-ascend g c = in_any_case c.flush_once.result _ (names_ascend c.args.self.now.tables.entries c.iter-name-items.ensures.ordered)
