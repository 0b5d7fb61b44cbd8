use Rattle.std.proofs.Common.{sym, ◌∙◌}
use Rattle.mysql_binlog_rows.proofs.SamePlan.{same_plan}
use Rattle.mysql_binlog_rows.proofs.rows_event.rows.plan_after.Goals as goal

pub returns-then-same_columns-clause-plan : goal.returns-then-same_columns-clause-plan
returns-then-same_columns-clause-plan c = same_plan c.args.table.now c.args.before.now c.args.after.now (sym c.same_columns.ensures ∙ c.if-same_columns.true)
