use Rattle.std.proofs.Common.{◌≢◌, [], sym, ◌∙◌}
use Rattle.std.proofs.lemmas.Bool.{true≢false}
use Rattle.std.proofs.lemmas.Result.{err_from_is_err_and}
use Rattle.binlog_base.specs.Lemmas.Items.{repeated_end, repeated_ok, repeated_err}
use Rattle.binlog_values.specs.JsonDiffs.{diff}
use Rattle.binlog_values.specs.Lemmas.JsonDiffs.{eats_diff}
use Rattle.binlog_values.proofs.documents.read_diffs.Goals as goal

pub returns-in_err-parse : goal.returns-in_err-parse
returns-in_err-parse c =
    let p = err_from_is_err_and c.from_residual.result c.from_residual.ensures.1 in
    let some : c.loop-buf.buf.0.now ≢ [] = λ h. true≢false (sym (c.is_empty.ensures.1 h) ∙ c.loop-buf-test.true) in
    rw (p.1, p.2) (λ other. sym c.loop-buf.invariant ∙ repeated_err diff c.loop-buf.diffs.items c.loop-buf.buf.0.now _ some c.in_err-parse.ensures.parses)

pub loop-buf-smaller : goal.loop-buf-smaller
loop-buf-smaller c = eats_diff c.loop-buf.buf.0.now _ _ c.in_ok-parse.ensures.parses

pub loop-buf-preserved : goal.loop-buf-preserved
loop-buf-preserved c =
    rw c.in_ok-push.ensures.items
    (sym (repeated_ok diff eats_diff c.loop-buf.diffs.items c.loop-buf.buf.0.now _ _ c.in_ok-parse.ensures.parses) ∙ c.loop-buf.invariant)

pub returns : goal.returns
returns c = sym c.loop-buf.invariant ∙ repeated_end diff c.loop-buf.diffs.items c.loop-buf.buf.0.now (c.is_empty.ensures.0 c.loop-buf-test.false)
