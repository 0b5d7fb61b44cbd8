use Rattle.std.proofs.Common.{◌≡◌, ℕ, ◌+◌, ◌-◌, ◌/◌, ◌%◌, ◌++◌, drop, set, ap, ◌∙◌, arith}
use Rattle.std.proofs.lemmas.List.{length-set}
use Rattle.binlog_decimal.specs.DecimalGroups.{low_digits}
use Rattle.binlog_decimal.proofs.DecimalSteps.{pair-written}
use Rattle.binlog_decimal.proofs.decimal.group.put_digits.Goals as goal

pub loop-at-preserved : goal.loop-at-preserved
loop-at-preserved c =
    let k = c.loop-at.at - 2 in
    let ds = c.loop-at.digits in
    let left = c.loop-at.left in
    let one = set ds (k + 1) (left % 100 % 10) in
    let at : c.loop-at.at ≡ k + 2 = omega (arith, c.loop-at-test.true) in
    record {
      within = omega (arith, c.loop-at.invariant.within, length-set ds (k + 1) (left % 100 % 10), length-set one k (left % 100 / 10));
      digits = c.loop-at.invariant.digits ∙ ap (λ (n : ℕ). low_digits 10 n left ++ drop n ds) at ∙ pair-written k left ds (omega (arith, at, c.loop-at.invariant.within));
    }
