use Rattle.std.proofs.Common.{false, sym, subst}
use Rattle.mysql_binlog_rows.specs.Rows.{Made, Rows}
use Rattle.mysql_binlog_rows.specs.Workings.Plans.{Reads}
use Rattle.mysql_binlog_rows.proofs.AlikePlans.{made_reads}
use Rattle.mysql_binlog_rows.proofs.rows_event.event.RowsEvent.lent_rows_if_served.Goals as goal

pub returns-in_ok-plans-in-Some-clause-reads : goal.returns-in_ok-plans-in-Some-clause-reads
returns-in_ok-plans-in-Some-clause-reads c =
    let t = c.args.table.now in
    let e = c.args.self.now in
    let kept : Reads t e c.in-Some.plans.now.value.plans = c.in-Some.ensures.serves.1 in
    let same : Reads t e c.in_ok-plans-in-Some.plans.value.plans = subst (λ (m : Made). Reads t e m.plans) (sym c.in_ok-plans-in-Some.ensures.cases) kept in
    let made : Reads t e c.made_before-shared.result.plans = subst (λ (m : Made). Reads t e m.plans) (sym c.made_before-shared.ensures) (made_reads false c.in_ok-plans-in-Some.plans.value t e same) in
    subst (λ (r : Rows). Reads t e r.plans) (sym c.by_plans.ensures) made
