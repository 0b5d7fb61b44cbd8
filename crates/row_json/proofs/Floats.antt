-- Floats that were written.
use Rattle.std.proofs.Common.{◌≡◌, ℕ, List, [], ◌∷◌, ◌++◌, Bool, true, false, refl, sym, ap, ◌∙◌, subst}
use Rattle.std.specs.Prelude.{OnOk, Result, Ok, Err, Some, from_bits}
use Rattle.std.specs.Bool.{MatchBool}
use Rattle.std.specs.Float.{Float, Format, float_is_finite}
use Rattle.ryu.specs.Parse.{parse_float}
use Rattle.ryu.specs.Plain.{IsPlainNumber}
use Rattle.json.specs.Token as token
use Rattle.json.specs.Json as json
use Rattle.json.specs.Json.{Json}
use Rattle.json_line.specs.Written.{Written, Writes}
use Rattle.row_json.specs.Wrote.{Wrote}
use Rattle.row_json.specs.Floats.{IsNumberOf, special_text, IsFloatJson}
use Rattle.row_json.proofs.Steps.{token_wrote}

by_finite : (f : Format) (x : Float) (j : Json) (b : Bool) → float_is_finite x ≡ b → MatchBool b (IsNumberOf f x j) (j ≡ json.string (special_text x)) → MatchBool (float_is_finite x) (IsNumberOf f x j) (j ≡ json.string (special_text x))
by_finite f x j b e h = subst (λ (d : Bool). MatchBool d (IsNumberOf f x j) (j ≡ json.string (special_text x))) (sym e) h

pub float_wrote : {E : Type 0} (r : Result (Unit {0}) E) (a b : Written) (f : Format) (bits : ℕ) (x : Float) → x ≡ from_bits f bits → float_is_finite x ≡ true →
    b.before ≡ a.before → OnOk r ((s : List ℕ) × (b.tokens ≡ a.tokens ++ token.number s ∷ []) × IsPlainNumber s × (parse_float f s ≡ Some x)) → OnOk r (Wrote (IsFloatJson f bits) a b)
float_wrote (Ok _) a b f bits x e finite before w = record {
  value = json.number w.0;
  is = by_finite f (from_bits f bits) (json.number w.0) true (ap float_is_finite (sym e) ∙ finite) (w.0, refl, w.2, w.3 ∙ ap Some e);
  adds = record { before = before; tokens = w.1 };
}
float_wrote (Err _) a b f bits x e finite before w = tt

pub special_wrote : {E : Type 0} (r : Result (Unit {0}) E) (a b : Written) (f : Format) (bits : ℕ) (x : Float) (s : List ℕ) → x ≡ from_bits f bits → float_is_finite x ≡ false → s ≡ special_text x →
    Writes r a b (token.string s) → OnOk r (Wrote (IsFloatJson f bits) a b)
special_wrote r a b f bits x s e finite is w =
    token_wrote r a b (token.string s) (json.string s) (IsFloatJson f bits) refl w (by_finite f (from_bits f bits) (json.string s) false (ap float_is_finite (sym e) ∙ finite) (ap json.string (is ∙ ap special_text e)))
