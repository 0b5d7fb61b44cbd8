use Rattle.std.proofs.Common.{ℕ, ◌-◌, ◌∙◌, ap, arith, set}
use Rattle.binlog_decimal.proofs.DecimalSteps.{mapped-more}
use Rattle.binlog_decimal.proofs.digits.make_digits.Goals as goal

pub loop-character-preserved : goal.loop-character-preserved
loop-character-preserved c =
    let ys = c.loop-character.characters in
    let i = c.loop-character.character-index in
    ap (λ (x : ℕ). set ys i x) (omega arith) ∙ mapped-more (λ c. c - 48) c.args.characters.now ys i c.loop-character-test.true c.loop-character.invariant
