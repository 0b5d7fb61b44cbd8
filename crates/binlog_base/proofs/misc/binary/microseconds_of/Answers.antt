use Rattle.std.proofs.Common.{◌≡◌, ℕ, ◌*◌, ◌<◌, ◌≤◌, ◌^◌, pos, subst, sym, ap, ◌∙◌, arith}
use Rattle.std.specs.Int.{w64, cast_signed}
use Rattle.std.proofs.lemmas.Int.{ints}
use Rattle.binlog_base.specs.PackedTimes.{fraction_unit}
use Rattle.binlog_base.proofs.Fractions.{part_small}
use Rattle.binlog_base.proofs.misc.binary.microseconds_of.Goals as goal

-- the product fits, and stays what it is as a signed number
small : (part width unit : ℕ) → width ≤ 2 → part < 256 ^ width → unit ≡ fraction_unit width → part * unit < 6553600
small part width unit w low is = subst (λ (u : ℕ). part * u < 6553600) (sym is) (part_small width part w low)

signed : (n : ℕ) → n < 6553600 → cast_signed w64 n ≡ pos n
signed n low = omega (arith, ints, low)

pub overflow_mul-result : goal.overflow_mul-result
overflow_mul-result c = omega (arith, small _ _ _ c.requires.width c.requires.part c.fraction_unit.ensures.value)

pub overflow_cast-result : goal.overflow_cast-result
overflow_cast-result c = omega (arith, ints, small _ _ _ c.requires.width c.requires.part c.fraction_unit.ensures.value)

pub returns-clause-value : goal.returns-clause-value
returns-clause-value c =
    signed (c.args.part * c.fraction_unit.result) (small _ _ _ c.requires.width c.requires.part c.fraction_unit.ensures.value)
    ∙ ap (λ (u : ℕ). pos (c.args.part * u)) c.fraction_unit.ensures.value

pub returns-clause-most : goal.returns-clause-most
returns-clause-most c =
    let low = small _ _ _ c.requires.width c.requires.part c.fraction_unit.ensures.value in
    rw (signed (c.args.part * c.fraction_unit.result) low) low
