-- The JSON of a value is that of another one exactly if it shows the same of both.
use Rattle.std.proofs.Common.{◌≡◌, ◌↔◌, sym, subst}
use Rattle.binlog_base.specs.Values.{PlainValue, Null, Bytes, Int, UInt, Float, Double, Date, Time}
use Rattle.json.specs.Json.{Json}
use Rattle.json.specs.Print.{print}
use Rattle.json.specs.Tree.{json_tokens}
use Rattle.row_json.specs.declared.kind.Kind.{Kind}
use Rattle.row_json.specs.declared.kind.Kind.TheVariants as kind
use Rattle.row_json.specs.Columns.{Column}
use Rattle.row_json.specs.Values.{with_sign, IsValueJson}
use Rattle.row_json.specs.Shown.{shown, IsInRange, HasDigits, AreAlike, AreOfOneColumn}
use Rattle.row_json.proofs.Shown.Signs.{time_with_sign}
use Rattle.row_json.proofs.Shown.FromJson.{HasText, plain_told}
use Rattle.row_json.proofs.Shown.ToJson.{plain_json}
use Rattle.row_json.proofs.Shown.Texts.{same_json}

pub signed_text : (k : Kind) (v : PlainValue) → IsInRange v → HasText (with_sign k v)
unfolding HasText
signed_text k (Time p d h i s u) fits = let t = time_with_sign k p d h i s u fits in
    subst HasText (sym t.is) (record { first = t.hours_short; middle = t.minutes_short; last = t.seconds_short })
signed_text kind.OldTime v fits = fits
signed_text _ v fits = fits

signed_digits : (k : Kind) (v : PlainValue) → HasDigits k v → HasDigits k (with_sign k v)
signed_digits kind.OldTime v has = tt
signed_digits _ v has = has

old_alike : (v w : PlainValue) → IsInRange v → IsInRange w → AreAlike v w → AreAlike (with_sign kind.OldTime v) (with_sign kind.OldTime w)
old_alike Null w hv hw alike = tt
old_alike (Time p d h i s u) Null hv hw alike = subst (λ v. AreAlike v Null) (sym (time_with_sign kind.OldTime p d h i s u hv).is) tt
old_alike (Time p d h i s u) (Time q d₂ h₂ i₂ s₂ u₂) hv hw alike =
    let a = time_with_sign kind.OldTime p d h i s u hv in
    let b = time_with_sign kind.OldTime q d₂ h₂ i₂ s₂ u₂ hw in
    subst (λ v. AreAlike v (with_sign kind.OldTime (Time q d₂ h₂ i₂ s₂ u₂))) (sym a.is)
    (subst (λ w. AreAlike (Time a.sign a.days a.hours a.minutes a.seconds a.micros) w) (sym b.is) tt)
old_alike v Null hv hw alike = tt
old_alike (Bytes x) (Bytes y) hv hw alike = tt
old_alike (Int y) (Int z) hv hw alike = tt
old_alike (Int z) (UInt n) hv hw alike = tt
old_alike (UInt n) (Int z) hv hw alike = tt
old_alike (UInt m) (UInt n) hv hw alike = tt
old_alike (Float x) (Float y) hv hw alike = tt
old_alike (Double x) (Double y) hv hw alike = tt
old_alike (Date y m d h i s u) (Date y₂ m₂ d₂ h₂ i₂ s₂ u₂) hv hw alike = tt
old_alike _ _ hv hw alike = absurd alike

signed_alike : (k : Kind) (v w : PlainValue) → IsInRange v → IsInRange w → AreAlike v w → AreAlike (with_sign k v) (with_sign k w)
signed_alike kind.OldTime v w hv hw alike = old_alike v w hv hw alike
signed_alike _ v w hv hw alike = alike

pub json_shows : (c : Column) (v w : PlainValue) (j : Json) → AreOfOneColumn c v w → IsValueJson c v j → IsValueJson c w j ↔ (shown c v ≡ shown c w)
json_shows c v w j are a =
    let alike = signed_alike c.kind v w are.first.in_range are.second.in_range are.alike in (
      (λ b. plain_told c (with_sign c.kind v) (with_sign c.kind w) j alike (signed_text c.kind v are.first.in_range) (signed_text c.kind w are.second.in_range)
          (signed_digits c.kind v are.first.digits) (signed_digits c.kind w are.second.digits) a b),
      (λ same. plain_json c (with_sign c.kind v) (with_sign c.kind w) j alike same a),
    )

pub texts_show : (c : Column) (v w : PlainValue) (j k : Json) → AreOfOneColumn c v w → IsValueJson c v j → IsValueJson c w k → print (json_tokens j) ≡ print (json_tokens k) → shown c v ≡ shown c w
texts_show c v w j k are a b e =
    let same = same_json c (with_sign c.kind v) (with_sign c.kind w) j k (signed_text c.kind v are.first.in_range) (signed_text c.kind w are.second.in_range) a b e in
    (json_shows c v w j are a).0 (subst (IsValueJson c w) (sym same) b)
