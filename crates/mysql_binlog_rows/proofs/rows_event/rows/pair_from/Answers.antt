use Rattle.std.proofs.Common.{sym, subst}
use Rattle.mysql_binlog_rows.specs.declared.rows_event.rows.State.{State}
use Rattle.mysql_binlog_rows.specs.Workings.Plans.{Plans, Reads}
use Rattle.mysql_binlog_rows.specs.Rows.{Made}
use Rattle.mysql_binlog_rows.specs.Workings.State.{plans_in}
use Rattle.mysql_binlog_rows.proofs.AlikePlans.{reads_made}
use Rattle.mysql_binlog_rows.proofs.rows_event.rows.pair_from.Goals as goal

pub returns-in-Plans-clause-pair : goal.returns-in-Plans-clause-pair
returns-in-Plans-clause-pair c = λ t e reads.
    let kept : Reads t e c.in-Plans.shared.plans = subst (λ (x : State). Reads t e (plans_in x)) c.in-Plans.is reads in
    let own = reads_made c.shared.inside.is_new c.shared.inside.plans.value t e (subst (λ (m : Made). Reads t e m.plans) (sym c.shared.view_is) kept) in
    c.next_pair.ensures.pair t e (subst (λ (m : Made). Reads t e m.plans) (sym c.deref.ensures) own)

pub returns-in_ok-shared-in-Events-clause-pair : goal.returns-in_ok-shared-in-Events-clause-pair
returns-in_ok-shared-in-Events-clause-pair c = λ t e reads.
    let made : Reads t e c.in_ok-shared-in-Events.shared.plans = subst (λ (p : Plans). Reads t e p) (sym c.in_ok-shared-in-Events.ensures.plans) (subst (λ (x : State). Reads t e (plans_in x)) c.in-Events.is reads) in
    let own = reads_made c.shared-in-Events.inside.is_new c.shared-in-Events.inside.plans.value t e (subst (λ (m : Made). Reads t e m.plans) (sym c.shared-in-Events.view_is) made) in
    c.next_pair-answer.ensures.pair t e (subst (λ (m : Made). Reads t e m.plans) (sym c.deref-in-Events.ensures) own)
