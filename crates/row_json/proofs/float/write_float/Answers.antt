use Rattle.std.proofs.Common.{refl, sym, ◌∙◌}
use Rattle.std.specs.Float.{binary32}
use Rattle.row_json.proofs.Floats.{float_wrote, special_wrote}
use Rattle.row_json.proofs.float.write_float.Goals as goal

pub returns-then-is_finite-clause-written : goal.returns-then-is_finite-clause-written
returns-then-is_finite-clause-written c =
    float_wrote c.float.result c.args.out.now c.float.new.self binary32 c.args.bits c.f32_from_bits_with_nan-number.result c.f32_from_bits_with_nan-number.ensures (sym c.is_finite.ensures.value ∙ c.if-is_finite.true) c.float.ensures.before c.float.ensures.plain

pub returns-then-is_nan-clause-written : goal.returns-then-is_nan-clause-written
returns-then-is_nan-clause-written c =
    special_wrote c.string.result c.args.out.now c.string.new.self binary32 c.args.bits c.f32_from_bits_with_nan-number.result _ c.f32_from_bits_with_nan-number.ensures (sym c.is_finite.ensures.value ∙ c.if-is_finite.false) (rw (sym c.is_nan.ensures.value ∙ c.if-is_nan.true) refl) c.string.ensures

pub returns-then-is_sign_negative-clause-written : goal.returns-then-is_sign_negative-clause-written
returns-then-is_sign_negative-clause-written c =
    special_wrote c.string-then-is_sign_negative.result c.args.out.now c.string-then-is_sign_negative.new.self binary32 c.args.bits c.f32_from_bits_with_nan-number.result _ c.f32_from_bits_with_nan-number.ensures (sym c.is_finite.ensures.value ∙ c.if-is_finite.false) (rw (sym c.is_nan.ensures.value ∙ c.if-is_nan.false, sym c.is_sign_negative.ensures ∙ c.if-is_sign_negative.true) refl) c.string-then-is_sign_negative.ensures

pub returns-else-is_sign_negative-clause-written : goal.returns-else-is_sign_negative-clause-written
returns-else-is_sign_negative-clause-written c =
    special_wrote c.string-else-is_sign_negative.result c.args.out.now c.string-else-is_sign_negative.new.self binary32 c.args.bits c.f32_from_bits_with_nan-number.result _ c.f32_from_bits_with_nan-number.ensures (sym c.is_finite.ensures.value ∙ c.if-is_finite.false) (rw (sym c.is_nan.ensures.value ∙ c.if-is_nan.false, sym c.is_sign_negative.ensures ∙ c.if-is_sign_negative.false) refl) c.string-else-is_sign_negative.ensures
