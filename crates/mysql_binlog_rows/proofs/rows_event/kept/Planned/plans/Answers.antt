use Rattle.std.proofs.Common.{◌≡◌, subst}
use Rattle.std.specs.Rc.{rc_value}
use Rattle.mysql_binlog_rows.specs.Kept.{Planned, plans_kept}
use Rattle.mysql_binlog_rows.proofs.AlikePlans.{served_reads}
use Rattle.mysql_binlog_rows.proofs.rows_event.kept.Planned.plans.Goals as goal

pub returns : goal.returns
returns c = λ t e h.
    let plans = (rc_value c.self.inside.plans).plans in
    served_reads c.args.self.now plans (subst (λ (p : Planned). plans ≡ plans_kept p) c.self.view_is c.self.invariant) t e h
