use Rattle.std.proofs.Common.{Some, None, sym, subst, ◌∙◌}
use Rattle.mysql_binlog_rows.specs.Images.{pair}
use Rattle.mysql_binlog_rows.specs.Workings.Plans.{Plans, Reads}
use Rattle.mysql_binlog_rows.proofs.Pairs.{item_is_pair, item_is_fault}
use Rattle.mysql_binlog_rows.proofs.Covers.{one_pair_more, covers_from}
use Rattle.mysql_binlog_rows.proofs.rows_event.decode.collect.Goals as goal

pub loop-item-preserved : goal.loop-item-preserved
loop-item-preserved c =
    let h = c.loop-item.invariant in
    let gives = c.in-Some.ensures.steps in (
      tt,
      tt,
      gives.plans.plans ∙ h.2,
      λ t e reads.
          let by = subst (λ (p : Plans). Reads t e p) (sym h.2) reads in
          let found = item_is_pair (pair t e) c.loop-item.item-iterator.left c.next.new.self.left c.in-Some.item c.in-Ok.pair c.in-Ok.is (gives.item t e by) in
          rw c.in_ok-push-in-Ok.ensures.items (one_pair_more (pair t e) _ _ _ _ found.0 c.in-Ok.pair (h.3 t e reads) found.1 found.2),
    )

pub returns-in_default : goal.returns-in_default
returns-in_default c =
    let h = c.loop-item.invariant in
    record {
      covers = λ t e reads.
          let by = subst (λ (p : Plans). Reads t e p) (sym h.2) reads in
          let end = item_is_fault (pair t e) c.loop-item.item-iterator.left c.next.new.self.left c.in-Some.item c.in-Err.fault c.in-Err.is c.in_default.not-Memory (c.in-Some.ensures.steps.item t e by) in
          covers_from (pair t e) _ _ _ (Some c.in-Err.fault) (h.3 t e reads) end;
      err = tt;
    }

pub returns-clause-covers : goal.returns-clause-covers
returns-clause-covers c = λ t e reads.
    let h = c.loop-item.invariant in
    let by = subst (λ (p : Plans). Reads t e p) (sym h.2) reads in
    covers_from (pair t e) _ _ _ None (h.3 t e reads) (c.in-None.ensures.steps.item t e by).0
