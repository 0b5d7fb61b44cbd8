use Rattle.std.proofs.Common.{ℕ, length, refl, ap, ◌∙◌, arith}
use Rattle.binlog_decimal.specs.DecimalGroups.{low_digits}
use Rattle.binlog_decimal.proofs.DecimalSteps.{below-bytes, group-refused, group-unpacked}
use Rattle.binlog_decimal.proofs.decimal.unpack.unpack_group.Goals as goal

pub returns-then-number-power_of_10 : goal.returns-then-number-power_of_10
returns-then-number-power_of_10 c =
    (refl, group-refused (length c.args.digits.now) c.args.bytes.now c.requires.size (omega (arith, c.number_of_bytes-number.ensures, c.power_of_10.ensures, c.if-number-power_of_10.true)))

pub returns : goal.returns
returns c =
    let size = length c.args.digits.now in
    group-unpacked {X = Unit {0}} tt c.args.bytes.now c.put_digits.new.digits size (below-bytes c.args.bytes.now (λ k. omega (arith, c.type_inv.bytes k))) c.requires.width
    (omega (arith, c.number_of_bytes-number.ensures, c.power_of_10.ensures, c.if-number-power_of_10.false))
    (c.put_digits.ensures ∙ ap (λ (n : ℕ). low_digits 10 size n) c.number_of_bytes-number.ensures)
