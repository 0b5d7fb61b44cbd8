use Rattle.std.proofs.Common.{◌≢◌, [], ◌∷◌, ◌++◌, sym, ◌∙◌}
use Rattle.std.proofs.lemmas.Bool.{true≢false}
use Rattle.std.proofs.lemmas.Result.{err_from_is_err_and}
use Rattle.binlog_base.specs.Items.{repeated}
use Rattle.binlog_base.specs.Lemmas.Items.{repeated_end, repeated_ok, repeated_err}
use Rattle.binlog_values.specs.JsonDiffs.{diff}
use Rattle.binlog_values.specs.Lemmas.JsonDiffs.{eats_diff}
use Rattle.binlog_values.proofs.LentDocuments.{itself, nothing_before}
use Rattle.binlog_values.proofs.documents.LentDiffs.read.Goals as goal

pub loop-buf-init : goal.loop-buf-init
loop-buf-init c = ([], nothing_before ((repeated diff).parse c.args.bytes.now))

pub loop-buf-smaller : goal.loop-buf-smaller
loop-buf-smaller c = eats_diff c.loop-buf.buf.0.now _ _ c.in_ok-diff.ensures.parses

pub loop-buf-preserved : goal.loop-buf-preserved
loop-buf-preserved c = (
  c.loop-buf.invariant.0 ++ c.in_ok-diff.diff ∷ [],
  sym (repeated_ok diff eats_diff c.loop-buf.invariant.0 c.loop-buf.buf.0.now _ _ c.in_ok-diff.ensures.parses) ∙ c.loop-buf.invariant.1,
)

pub returns-in_err-diff : goal.returns-in_err-diff
returns-in_err-diff c =
    let p = err_from_is_err_and c.from_residual.result c.from_residual.ensures.1 in
    let some : c.loop-buf.buf.0.now ≢ [] = λ h. true≢false (sym (c.is_empty.ensures.1 h) ∙ c.loop-buf-test.true) in
    rw (p.1, p.2) (sym c.loop-buf.invariant.1 ∙ repeated_err diff c.loop-buf.invariant.0 c.loop-buf.buf.0.now _ some c.in_err-diff.ensures.parses)

pub invariant_of-result : goal.invariant_of-result
invariant_of-result c =
    itself [] ((repeated diff).parse c.args.bytes.now) c.loop-buf.invariant.0 []
    (sym c.loop-buf.invariant.1 ∙ repeated_end diff c.loop-buf.invariant.0 c.loop-buf.buf.0.now (c.is_empty.ensures.0 c.loop-buf-test.false))

pub returns : goal.returns
returns c =
    itself [] ((repeated diff).parse c.args.bytes.now) c.loop-buf.invariant.0 []
    (sym c.loop-buf.invariant.1 ∙ repeated_end diff c.loop-buf.invariant.0 c.loop-buf.buf.0.now (c.is_empty.ensures.0 c.loop-buf-test.false))
