use Rattle.std.proofs.Common.{ap, arith}
use Rattle.mysql_binlog_rows.specs.Rows.{columns_in, most_of_events}
use Rattle.mysql_binlog_rows.proofs.PlanReads.{columns_most}
use Rattle.mysql_binlog_rows.proofs.rows_event.rows.Plans.make.Goals as goal

pub returns-clause-most : goal.returns-clause-most
returns-clause-most c =
    let e = c.events.inside.event.now in
    let before = ap columns_in c.columns_before_image-columns_before.ensures in
    let after = ap columns_in c.columns_after_image-columns_after.ensures in
    let most = ap most_of_events c.events.view_is in
    omega (arith, most, before, after, columns_most e.num_columns e.before, columns_most e.num_columns e.after, c.in_ok-before.ensures.most, c.in_ok-after.ensures.most)
