use Rattle.std.proofs.Common.{refl, arith}
use Rattle.binlog_decimal.proofs.DecimalSteps.{below-bytes, group-refused}
use Rattle.binlog_decimal.proofs.DecimalNumbers.{group_formed}
use Rattle.binlog_decimal.proofs.decimal.short.group_number.Goals as goal

pub returns-then-number-power_of_10 : goal.returns-then-number-power_of_10
returns-then-number-power_of_10 c =
    (refl, group-refused c.args.digits c.args.bytes.now c.requires.most (omega (arith, c.number_of_bytes-number.ensures, c.power_of_10.ensures, c.if-number-power_of_10.true)))

pub returns : goal.returns
returns c =
    group_formed c.args.digits c.number_of_bytes-number.result c.args.bytes.now (below-bytes c.args.bytes.now (λ k. omega (arith, c.type_inv.bytes k))) c.requires.width c.number_of_bytes-number.ensures
    (omega (arith, c.power_of_10.ensures, c.if-number-power_of_10.false))
