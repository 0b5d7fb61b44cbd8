use Rattle.std.proofs.Common.{sym, arith}
use Rattle.std.proofs.lemmas.Result.{err_from_is_err_and}
use Rattle.binlog_values.proofs.JsonbWalk.{found_fault, found_over, found_within}
use Rattle.binlog_values.proofs.jsonb.parse.position_in_limit.Goals as goal

pub returns-in_err-entry-clause-found : goal.returns-in_err-entry-clause-found
returns-in_err-entry-clause-found c =
    let p = err_from_is_err_and c.from_residual.result c.from_residual.ensures.1 in
    rw (p.1, p.2) (sym (found_fault _ _ _ _ _ c.in_err-entry.ensures.fault))

pub returns-then-counter-limit-clause-found : goal.returns-then-counter-limit-clause-found
returns-then-counter-limit-clause-found c = sym (found_over _ _ _ _ _ _ c.in_ok-entry.ensures.key c.in_ok-entry.ensures.value (omega arith))

pub returns-clause-found : goal.returns-clause-found
returns-clause-found c = sym (found_within _ _ _ _ _ _ c.in_ok-entry.ensures.key c.in_ok-entry.ensures.value (omega arith))
