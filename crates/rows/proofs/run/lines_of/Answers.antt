use Rattle.std.proofs.Common.{List, ℕ, [], ◌∷◌, ◌++◌, Some, Result, sym, ap, subst, ◌∙◌, append-nil}
use Rattle.std.proofs.lemmas.List.Concat.{flat_map-append}
use Rattle.binlog_base.specs.declared.fault.Fault.{Fault}
use Rattle.mysql_binlog_rows.specs.Images.{pair}
use Rattle.mysql_binlog_rows.specs.Workings.Plans.{Plans}
use Rattle.mysql_binlog_rows.specs.Workings.Plans.{Reads}
use Rattle.mysql_binlog_rows.specs.LentPairs.{lent_result}
use Rattle.mysql_binlog_rows.proofs.Pairs.{item_is_pair, item_is_fault}
use Rattle.mysql_binlog_rows.proofs.Covers.{one_pair_more, covers_from}
use Rattle.row_lines.specs.Lines.{line_text, lines_text}
use Rattle.rows.proofs.run.lines_of.Goals as goal
use Rattle.rows.proofs.run.lines_of.Goals.{in-Memory, in_default-fault}

pub loop-read-preserved : goal.loop-read-preserved
loop-read-preserved c =
    let h = c.loop-read.invariant in
    let gives = c.in-Some.ensures.gives in
    let p = c.next_lent.new.pair in (
      gives.plans.plans ∙ h.0,
      λ t e reads.
          let by = subst (λ (q : Plans). Reads t e q) (sym h.0) reads in
          let found = item_is_pair (pair t e) c.loop-read.rows.left c.next_lent.new.self.left (lent_result p c.in-Some.read) p (ap (λ (r : Result (Unit {0}) Fault). lent_result p r) c.in-Ok.is) (gives.item t e by) in
          let so_far = h.1 t e reads in (
            so_far.0 ++ p ∷ [],
            one_pair_more (pair t e) _ _ _ _ found.0 p so_far.1 found.1 found.2,
            c.in_ok-push_line-in-Ok.ensures.added ∙ ap (λ (l : List ℕ). l ++ line_text p) so_far.2 ∙ (rw (flat_map-append line_text so_far.0 (p ∷ [])) (ap (λ (l : List ℕ). lines_text so_far.0 ++ l) (sym (append-nil (line_text p))))),
          ),
    )

pub returns-in-Err : goal.returns-in-Err
returns-in-Err c = λ t e reads.
    let h = c.loop-read.invariant in
    let p = c.next_lent.new.pair in
    elim c.match-fault.branch [
      | in-Memory w ↦ rw w.result-is tt
      | in_default-fault w ↦
          let by = subst (λ (q : Plans). Reads t e q) (sym h.0) reads in
          let so_far = h.1 t e reads in
          let end = item_is_fault (pair t e) c.loop-read.rows.left c.next_lent.new.self.left (lent_result p c.in-Some.read) c.in-Err.fault (ap (λ (r : Result (Unit {0}) Fault). lent_result p r) c.in-Err.is) w.in_default-fault.not-Memory (c.in-Some.ensures.gives.item t e by) in
          rw w.result-is (so_far.0, covers_from (pair t e) _ _ _ (Some c.in-Err.fault) so_far.1 end, so_far.2)
    ]
