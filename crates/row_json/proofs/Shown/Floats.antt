-- Floats with the same JSON have the same bits, or are both no numbers.
use Rattle.std.proofs.Common.{◌≡◌, ℕ, ◌*◌, ◌<◌, Bool, true, false, T, not, refl, sym, ap, ◌∙◌, subst}
use Rattle.std.specs.Prelude.{Some, from_bits, to_bits, codes}
use Rattle.std.specs.Bool.{MatchBool}
use Rattle.std.specs.Float.{Float, Format, nan, inf, fin, float_is_finite, is_sign_negative}
use lib.Ieee.Bits.{to_bits-of_bits}
use lib.Ieee.{top, is_nan}
use Rattle.json.specs.Json.{Json, string}
use Rattle.row_json.specs.Floats.{IsNumberOf, special_text}

pub bits_back : (f : Format) (a b : ℕ) → a < 2 * top f → b < 2 * top f → from_bits f a ≡ from_bits f b → is_nan (from_bits f a) ≡ false → a ≡ b
bits_back f a b ha hb e h =
    let number_a : T (not (is_nan (from_bits f a))) = subst (λ (t : Bool). T (not t)) (sym h) tt in
    sym (to_bits-of_bits f a ha number_a) ∙ (ap (to_bits f) e ∙ to_bits-of_bits f b hb (subst (λ (v : Float). T (not (is_nan v))) e number_a))

pub same_floats : (f : Format) (x y : Float) (j : Json) → MatchBool (float_is_finite x) (IsNumberOf f x j) (j ≡ string (special_text x)) → MatchBool (float_is_finite y) (IsNumberOf f y j) (j ≡ string (special_text y)) → x ≡ y
unfolding float_is_finite is_sign_negative is_nan
same_floats f nan nan j a b = refl
same_floats f nan (inf false) j a b = absurd (let e : string (codes "NaN") ≡ string (codes "Infinity") = sym a ∙ b in cc)
same_floats f nan (inf true) j a b = absurd (let e : string (codes "NaN") ≡ string (codes "-Infinity") = sym a ∙ b in cc)
same_floats f (inf false) nan j a b = absurd (let e : string (codes "Infinity") ≡ string (codes "NaN") = sym a ∙ b in cc)
same_floats f (inf true) nan j a b = absurd (let e : string (codes "-Infinity") ≡ string (codes "NaN") = sym a ∙ b in cc)
same_floats f (inf false) (inf false) j a b = refl
same_floats f (inf true) (inf true) j a b = refl
same_floats f (inf false) (inf true) j a b = absurd (let e : string (codes "Infinity") ≡ string (codes "-Infinity") = sym a ∙ b in cc)
same_floats f (inf true) (inf false) j a b = absurd (let e : string (codes "-Infinity") ≡ string (codes "Infinity") = sym a ∙ b in cc)
same_floats f nan (fin s m e) j a b = absurd (cc (a, b.1))
same_floats f (inf t) (fin s m e) j a b = absurd (cc (a, b.1))
same_floats f (fin s m e) nan j a b = absurd (cc (a.1, b))
same_floats f (fin s m e) (inf t) j a b = absurd (cc (a.1, b))
same_floats f (fin s m e) (fin t n k) j a b =
    let text : a.0 ≡ b.0 = cc (a.1, b.1) in
    let read : Some (fin s m e) ≡ Some (fin t n k) = cc (a.3, b.3, text) in
    cc
