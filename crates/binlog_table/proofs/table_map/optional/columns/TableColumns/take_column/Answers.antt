use Rattle.std.proofs.Common.{suc, rules, refl, ap, ◌∙◌}
use Rattle.binlog_table.specs.TableColumns.{ToCome, steps_then}
use Rattle.binlog_table.specs.Workings.ColumnsLeft.{seen_column}
use Rattle.binlog_table.proofs.ColumnWalk.{walk_next, walk_fault, walk_end}
use Rattle.binlog_table.proofs.StepByStep.{next_steps, fault_steps}
use Rattle.binlog_table.proofs.table_map.optional.columns.TableColumns.take_column.Goals as goal

pub returns-in-Ok-clause-exact : goal.returns-in-Ok-clause-exact
returns-in-Ok-clause-exact c = λ n.
    next_steps c.self.inside.walk c.next_column.new.walk (seen_column c.in-Ok.column)
    (walk_next c.self.inside.walk c.next_column.new.walk (seen_column c.in-Ok.column) (search rules) (search rules) (search rules)) c.in-Ok.ensures.ahead n ∙
    ap (λ (s : ToCome). steps_then s (suc n)) c.self.view_is

pub returns-in-Err-clause-exact : goal.returns-in-Err-clause-exact
returns-in-Err-clause-exact c = λ n.
    fault_steps c.self.inside.walk _ c.in-Err.e (walk_fault c.self.inside.walk c.in-Err.e (search rules) (search rules)) (walk_end _ refl) (c.in-Err.ensures.exact (search rules)) n ∙
    ap (λ (s : ToCome). steps_then s (suc n)) c.self.view_is
