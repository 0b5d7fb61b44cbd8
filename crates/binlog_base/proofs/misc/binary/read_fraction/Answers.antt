use Rattle.std.proofs.Common.{rules, ◌≡◌, ℕ, ◌*◌, ◌<◌, ◌≤◌, ◌^◌, pos, subst, sym, ap, ◌∙◌, arith, refl, SFits}
use Rattle.std.specs.Prelude.{ℤ, ◌*ℤ◌, unsigned_abs}
use Rattle.std.specs.Int.{w64, cast_signed, cast_unsigned}
use Rattle.std.proofs.lemmas.Int.{ints, to_z-of_z, unsigned_abs-mul, fits_signed_from_abs}
use Rattle.binlog_base.specs.PackedTimes.{fraction, fraction_unit}
use Rattle.binlog_base.specs.Coding.{IsSigned}
use Rattle.binlog_base.proofs.Fractions.{signed_small}
use Rattle.binlog_base.proofs.misc.binary.read_fraction.Goals as goal

-- the product, as the function computes it
product : (w : ℕ) (part : ℤ) (unit : ℕ) → w ≤ 3 → IsSigned w part → unit ≡ fraction_unit w → unit ≤ 1000000 → SFits w64 part
    → SFits w64 (cast_signed w64 (cast_unsigned w64 part) *ℤ cast_signed w64 unit)
    × (cast_signed w64 (cast_unsigned w64 (cast_signed w64 (cast_unsigned w64 part) *ℤ cast_signed w64 unit)) ≡ part *ℤ pos (fraction_unit w))
    × (unsigned_abs (cast_signed w64 (cast_unsigned w64 (cast_signed w64 (cast_unsigned w64 part) *ℤ cast_signed w64 unit))) < 2 ^ 24)
product w part unit most signed is low held =
    let one : cast_signed w64 unit ≡ pos unit = omega (arith, ints) in
    let small : unsigned_abs part * unit < 2 ^ 24 = subst (λ (u : ℕ). unsigned_abs part * u < 2 ^ 24) (sym is) (signed_small w part most signed) in
    let size : unsigned_abs (part *ℤ pos unit) < 2 ^ 24 = omega (arith, small, unsigned_abs-mul part (pos unit)) in
    let fits : SFits w64 (part *ℤ pos unit) = fits_signed_from_abs w64 (part *ℤ pos unit) (omega (arith, size)) in
    let value : cast_signed w64 (cast_unsigned w64 (part *ℤ pos unit)) ≡ part *ℤ pos unit = to_z-of_z w64 (part *ℤ pos unit) fits in
    rw (to_z-of_z w64 part held, one) (fits, value ∙ ap (λ (u : ℕ). part *ℤ pos u) is, rw value size)

pub overflow_mul-result : goal.overflow_mul-result
overflow_mul-result c =
    let held : SFits w64 c.in_ok-part.part = search rules in
    (product c.args.width c.in_ok-part.part c.fraction_unit.result c.requires c.in_ok-part.ensures.fits c.fraction_unit.ensures.value c.fraction_unit.ensures.most held).0

pub returns-clause-parses : goal.returns-clause-parses
unfolding fraction
returns-clause-parses c =
    let held : SFits w64 c.in_ok-part.part = search rules in
    let is = (product c.args.width c.in_ok-part.part c.fraction_unit.result c.requires c.in_ok-part.ensures.fits c.fraction_unit.ensures.value c.fraction_unit.ensures.most held).1 in
    rw (c.in_ok-part.ensures.parses, is) refl

pub returns-clause-fits : goal.returns-clause-fits
returns-clause-fits c =
    let held : SFits w64 c.in_ok-part.part = search rules in
    (product c.args.width c.in_ok-part.part c.fraction_unit.result c.requires c.in_ok-part.ensures.fits c.fraction_unit.ensures.value c.fraction_unit.ensures.most held).2
