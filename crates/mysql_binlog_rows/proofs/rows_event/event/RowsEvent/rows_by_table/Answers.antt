use Rattle.std.proofs.Common.{◌≡◌, ◌≤◌, sym, ap, subst, ◌∙◌}
use Rattle.mysql_binlog_rows.specs.Rows.{Made, Rows, IsOf, event_steps, most_steps}
use Rattle.mysql_binlog_rows.proofs.AlikePlans.{of_events}
use Rattle.mysql_binlog_rows.proofs.rows_event.event.RowsEvent.rows_by_table.Goals as goal

is_of : (c : goal.After-by_plans) → IsOf c.args.table.now c.args.self.now c.by_plans.result
is_of c =
    let t = c.args.table.now in
    let e = c.args.self.now in
    let value = c.in_ok-plans.ensures.ok in
    of_events t e c.in_ok-plans.plans.value c.by_plans.result c.in_ok-new.ensures.event
    (ap (λ (m : Made). m.plans) value ∙ c.in_ok-make.ensures.plans)
    (subst (λ (m : Made). m.steps ≡ event_steps t e) (sym value) c.in_ok-make.ensures.exact)
    (subst (λ (m : Made). m.steps ≤ most_steps t e) (sym value) c.in_ok-make.ensures.most)
    (ap (λ (r : Rows). r.plans) c.by_plans.ensures)
    (ap (λ (r : Rows). r.due_steps) c.by_plans.ensures)
    (ap (λ (r : Rows). r.most_steps) c.by_plans.ensures)

pub returns-clause-anew : goal.returns-clause-anew
returns-clause-anew c = λ _. is_of c

pub returns-clause-reads : goal.returns-clause-reads
returns-clause-reads c = (is_of c).reads
