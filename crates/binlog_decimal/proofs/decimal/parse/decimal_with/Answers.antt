use Rattle.std.proofs.Common.{sym, ◌∙◌}
use Rattle.binlog_decimal.proofs.DecimalTexts.{digits-cut, digits-decimal, decimal-is}
use Rattle.binlog_decimal.proofs.decimal.parse.decimal_with.Goals as goal

pub invariant_of-result : goal.invariant_of-result
invariant_of-result c =
    let cut = digits-cut c.args.before.now c.args.after.now c.in_ok-digits.digits.items c.in_ok-digits.ensures in
    (cut.2, digits-decimal c.keeps_minus-negative.result c.args.before.now c.args.after.now _ _ (sym c.are_digits.ensures ∙ c.if-not-are_digits.false) cut.0 cut.1)

pub returns : goal.returns
returns c =
    let cut = digits-cut c.args.before.now c.args.after.now c.in_ok-digits.digits.items c.in_ok-digits.ensures in
    decimal-is c.args.minus c.keeps_minus-negative.result c.args.before.now c.args.after.now _ _ (sym c.are_digits.ensures ∙ c.if-not-are_digits.false) c.keeps_minus-negative.ensures cut.0 cut.1
