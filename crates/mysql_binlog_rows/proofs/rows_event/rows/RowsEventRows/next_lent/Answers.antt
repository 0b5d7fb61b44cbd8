use Rattle.std.proofs.Common.{rules, [], Some, Ok, Err, sym, subst, ◌∙◌}
use Rattle.mysql_binlog_rows.specs.Rows.{Rows, NextGives}
use Rattle.mysql_binlog_rows.proofs.Nexts.{state, some_bytes, pair_given, fault_given}
use Rattle.mysql_binlog_rows.proofs.rows_event.rows.RowsEventRows.next_lent.Goals as goal

pub returns-in-Ok-clause-gives : goal.returns-in-Ok-clause-gives
returns-in-Ok-clause-gives c =
    let x = c.self.inside.rows_data.now in
    let some = some_bytes x (sym c.is_empty.ensures ∙ c.if-is_empty.false) in
    subst (λ (s : Rows). NextGives s (Some (Ok c.lent_pair_from.new.pair)) (state c.lent_pair_from.new.state c.in-Ok.rest.now)) c.self.view_is
    (pair_given c.self.inside.state c.lent_pair_from.new.state x c.in-Ok.rest.now c.lent_pair_from.new.pair some c.in-Ok.ensures.plans (c.in-Ok.ensures.made (search rules)) c.in-Ok.ensures.shrinks c.in-Ok.ensures.pair)

pub returns-in-Err-clause-gives : goal.returns-in-Err-clause-gives
returns-in-Err-clause-gives c =
    let x = c.self.inside.rows_data.now in
    let some = some_bytes x (sym c.is_empty.ensures ∙ c.if-is_empty.false) in
    subst (λ (s : Rows). NextGives s (Some (Err c.in-Err.fault)) (state c.lent_pair_from.new.state [])) c.self.view_is
    (fault_given c.self.inside.state c.lent_pair_from.new.state x c.in-Err.fault some c.in-Err.ensures.plans (λ not. c.in-Err.ensures.made (search rules)) c.in-Err.ensures.pair)
