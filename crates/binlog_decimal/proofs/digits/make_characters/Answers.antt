use Rattle.std.proofs.Common.{ℕ, ◌+◌, ◌∙◌, ap, arith, set}
use Rattle.binlog_decimal.proofs.DecimalSteps.{mapped-more}
use Rattle.binlog_decimal.proofs.digits.make_characters.Goals as goal

pub loop-digit-preserved : goal.loop-digit-preserved
loop-digit-preserved c =
    let ys = c.loop-digit.digits in
    let i = c.loop-digit.digit-index in
    ap (λ (x : ℕ). set ys i x) (omega arith) ∙ mapped-more (λ digit. 48 + digit) c.args.digits.now ys i c.loop-digit-test.true c.loop-digit.invariant
