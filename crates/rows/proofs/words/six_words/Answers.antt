use mathlib.Core.Logic.{inr}
use Rattle.std.proofs.lemmas.Result.{err_from_is_err_and}
use Rattle.rows.proofs.words.six_words.Goals as goal

pub returns-in_err-table_post_header_len-clause-err :
    goal.returns-in_err-table_post_header_len-clause-err
returns-in_err-table_post_header_len-clause-err c =
    let p = err_from_is_err_and c.from_residual.result c.from_residual.ensures.1 in
    rw (p.1) (inr (λ i said. c.in_err-table_post_header_len.ensures.err.1 i.table_post_header_len said.table_post_header_len))

pub returns-in_err-event_type-clause-err : goal.returns-in_err-event_type-clause-err
returns-in_err-event_type-clause-err c =
    let p = err_from_is_err_and c.from_residual-in_err-event_type.result c.from_residual-in_err-event_type.ensures.1 in
    rw (p.1) (inr (λ i said. c.in_err-event_type.ensures.err.1 i.ctx.event_type said.event_type))
