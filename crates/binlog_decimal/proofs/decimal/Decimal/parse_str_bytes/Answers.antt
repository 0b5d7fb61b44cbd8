use Rattle.std.proofs.Common.{Option, subst}
use Rattle.binlog_decimal.specs.Decimals.{DecimalView}
use Rattle.binlog_decimal.specs.DecimalText.{ReadsText}
use Rattle.binlog_decimal.proofs.DecimalTexts.{text-is}
use Rattle.binlog_decimal.proofs.decimal.Decimal.parse_str_bytes.Goals as goal

pub returns : goal.returns
returns c =
    subst (λ (v : Option DecimalView). ReadsText c.decimal_with.result v)
    (text-is c.args.bytes.now c.without_leading_zeros-text.result.now c.split_sign-minus.result.1.now c.split_point.result.0.now c.split_point.result.1.now c.split_sign-minus.result.0
    c.without_leading_zeros-text.ensures c.split_sign-minus.ensures.minus c.split_sign-minus.ensures.after c.split_point.ensures.before c.split_point.ensures.after)
    c.decimal_with.ensures
