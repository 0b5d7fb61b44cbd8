use Rattle.std.proofs.Common.{ℕ, ◌+◌, ◌*◌, take, sym, ap, ◌∙◌, arith}
use Rattle.std.specs.Int.Digits.{number_from_digits}
use Rattle.std.proofs.lemmas.Int.Digits.{number_more}
use Rattle.binlog_decimal.proofs.DecimalSteps.{number-step}
use Rattle.binlog_decimal.proofs.decimal.group.number_of_digits.Goals as goal

pub overflow_mul-number : goal.overflow_mul-number
overflow_mul-number c =
    let h = number-step c.loop-digit.digit-index c.loop-digit.number c.args.digits.now c.loop-digit.invariant c.loop-digit-test.true c.requires.below c.requires.few in
    omega (arith, h)

pub overflow_add-number : goal.overflow_add-number
overflow_add-number c =
    let h = number-step c.loop-digit.digit-index c.loop-digit.number c.args.digits.now c.loop-digit.invariant c.loop-digit-test.true c.requires.below c.requires.few in
    omega (arith, h, c.from.ensures)

pub loop-digit-preserved : goal.loop-digit-preserved
loop-digit-preserved c =
    let i = c.loop-digit.digit-index in
    let ds = c.args.digits.now in
    ap (λ (n : ℕ). n * 10 + c.from.result) c.loop-digit.invariant
    ∙ ap (λ (d : ℕ). number_from_digits 10 (take i ds) * 10 + d) c.from.ensures
    ∙ sym (number_more 10 ds i c.loop-digit-test.true)
