-- Values with the same text have the same JSON.
use Rattle.std.proofs.Common.{◌≡◌, ℕ, ◌^◌, ◌<◌, ◌==◌, Bool, true, false, ℤ, pos, negsuc, List, [], ◌∷◌, length, refl, sym, ap, ◌∙◌, subst, arith}
use Rattle.std.specs.Prelude.{Option, Some, None, codes, decimal, if◌then◌else◌, nat_lt, unsigned_abs, from_bits}
use Rattle.std.specs.Fmt.{signed_decimal}
use Rattle.std.specs.Str.{bytes_eq}
use Rattle.std.specs.Bool.{MatchBool}
use Rattle.std.specs.Float.{Float as FloatValue, Format, binary32, binary64, float_is_finite}
use Rattle.std.proofs.lemmas.Bool.{cond_both, ltb-false}
use Rattle.byteorder.specs.Endian.{little_number, big_number}
use Rattle.binlog_base.specs.Coding.{IsSigned}
use Rattle.binlog_base.specs.Numbers.{AreBytes}
use Rattle.binlog_base.specs.Values.{PlainValue, Null, Bytes, Int, UInt, Float, Double, Date, Time}
use Rattle.json.specs.Json.{Json, number, string, document}
use Rattle.json.specs.Word.{after_number}
use Rattle.json.specs.Print.{print, IsNumber}
use Rattle.json.specs.Tree.{json_tokens, HasNumbers}
use Rattle.json.proofs.Printed.Decimals.{IsNumber-decimal, IsNumber-signed_decimal}
use Rattle.json.proofs.Printed.Floats.{IsNumber-plain}
use Rattle.json.proofs.Printed.Trees.{document-print}
use Rattle.row_json.specs.declared.kind.Kind.{Kind}
use Rattle.row_json.specs.declared.kind.Kind.TheVariants as kind
use Rattle.row_json.specs.declared.charset.Charset.TheVariants.{Utf8mb4}
use Rattle.row_json.specs.Charsets.{text_in}
use Rattle.row_json.specs.Columns.{Column}
use Rattle.row_json.specs.Floats.{IsNumberOf, special_text}
use Rattle.row_json.specs.Times.{timestamp_in}
use Rattle.row_json.specs.Values.{base64_json, string_or, is_whole, number_or_bytes, string_or_number, set_of_bits, name_of, IsTimestampOrText, IsBytesJson, IsIntJson, IsPlainJson}
use Rattle.row_json.proofs.Depths.{plain_fits}
use Rattle.row_json.proofs.Shown.Numbers.{signed_size, little_below, big_below, short_power}
use Rattle.row_json.proofs.Shown.FromJson.{HasText}

-- ---- each number is one of JSON

text_numbers : (x : List ℕ) (s : Option (List ℕ)) → HasNumbers (string_or x s)
text_numbers x None = (tt, tt)
text_numbers x (Some s) = tt

whole : (o : Option (List ℕ)) → is_whole o ≡ true → o ≡ Some []
whole None e = absurd (cc)
whole (Some []) e = refl
whole (Some (c ∷ cs)) e = absurd (cc)

year_numbers : (x : List ℕ) (s : Option (List ℕ)) → HasNumbers (number_or_bytes x s)
year_numbers x None = (tt, tt)
year_numbers x (Some s) = cond_both (is_whole (after_number s)) (number s) (string s) HasNumbers (λ e. whole (after_number s) e) (λ e. tt)

named_numbers : (n : ℕ) (s : Option (List ℕ)) → n < 2 ^ 64 → HasNumbers (string_or_number n s)
named_numbers n None h = IsNumber-decimal n h
named_numbers n (Some s) h = tt

timestamp_numbers : (n : ℕ) (x : List ℕ) (s : Option (ℕ × ℕ)) (j : Json) → IsTimestampOrText n x s j → HasNumbers j
timestamp_numbers n x None j a = subst HasNumbers (sym a) (text_numbers x (text_in Utf8mb4 x))
timestamp_numbers n x (Some s) j a = subst HasNumbers (sym a.2) tt

bits_numbers : (x : List ℕ) → AreBytes x → HasNumbers (if nat_lt 8 (length x) then base64_json x else number (decimal (big_number (length x) x)))
bits_numbers x all = cond_both (nat_lt 8 (length x)) (base64_json x) (number (decimal (big_number (length x) x))) HasNumbers (λ e. (tt, tt))
    (λ e. IsNumber-decimal (big_number (length x) x) (omega (arith, big_below 0 (length x) x all, short_power (length x) (ltb-false 8 (length x) e))))

set_numbers : (names : List (Option (List ℕ))) (x : List ℕ) → AreBytes x → HasNumbers (if nat_lt 8 (length x) then base64_json x else set_of_bits names (little_number (length x) x))
set_numbers names x all = cond_both (nat_lt 8 (length x)) (base64_json x) (set_of_bits names (little_number (length x) x)) HasNumbers (λ e. (tt, tt))
    (λ e. named_numbers (little_number (length x) x) _ (omega (arith, little_below 0 (length x) x all, short_power (length x) (ltb-false 8 (length x) e))))

bytes_numbers : (c : Column) (k : Kind) (x : List ℕ) (j : Json) → AreBytes x → IsBytesJson c k x j → HasNumbers j
bytes_numbers c (kind.Text charset) x j all a = subst HasNumbers (sym a) (text_numbers x (text_in charset x))
bytes_numbers c kind.Year x j all a = subst HasNumbers (sym a)
    (cond_both (bytes_eq x (codes "1900")) (number (decimal 0)) (number_or_bytes x (text_in Utf8mb4 x)) HasNumbers (λ e. IsNumber-decimal 0 (omega arith)) (λ e. year_numbers x (text_in Utf8mb4 x)))
bytes_numbers c kind.Bits x j all a = subst HasNumbers (sym a) (bits_numbers x all)
bytes_numbers c kind.Set x j all a = subst HasNumbers (sym a) (set_numbers c.names x all)
bytes_numbers c (kind.Timestamp n) x j all a = timestamp_numbers n x (timestamp_in x) j a
bytes_numbers c _ x j all a = subst HasNumbers (sym a) (tt, tt)

signed_number : (z : ℤ) → IsSigned 8 z → IsNumber (signed_decimal z)
signed_number (pos n) h = IsNumber-signed_decimal (pos n) h
signed_number (negsuc n) h = IsNumber-signed_decimal (negsuc n) h

int_numbers : (c : Column) (k : Kind) (z : ℤ) (j : Json) → IsSigned 8 z → IsIntJson c k z j → HasNumbers j
int_numbers c (kind.Timestamp n) z j h a = subst HasNumbers (sym a.2) tt
int_numbers c kind.Enum z j h a = subst HasNumbers (sym a)
    (cond_both (unsigned_abs z == 0) (string []) (string_or_number (unsigned_abs z) (name_of c.names (unsigned_abs z))) HasNumbers (λ e. tt) (λ e. named_numbers (unsigned_abs z) _ (signed_size z h)))
int_numbers c _ z j h a = subst HasNumbers (sym a) (signed_number z h)

float_numbers : (f : Format) (x : FloatValue) (j : Json) (p : Bool) → MatchBool p (IsNumberOf f x j) (j ≡ string (special_text x)) → HasNumbers j
float_numbers f x j true a = subst HasNumbers (sym a.1) (IsNumber-plain a.0 a.2)
float_numbers f x j false a = subst HasNumbers (sym a) tt

pub plain_numbers : (c : Column) (v : PlainValue) (j : Json) → HasText v → IsPlainJson c v j → HasNumbers j
unfolding HasText
plain_numbers c Null j h a = subst HasNumbers (sym a) tt
plain_numbers c (Bytes x) j h a = bytes_numbers c c.kind x j h a
plain_numbers c (Int z) j h a = int_numbers c c.kind z j h a
plain_numbers c (UInt n) j h a = subst HasNumbers (sym a) (IsNumber-decimal n h)
plain_numbers c (Float x) j h a = float_numbers binary32 (from_bits binary32 x) j (float_is_finite (from_bits binary32 x)) a
plain_numbers c (Double x) j h a = float_numbers binary64 (from_bits binary64 x) j (float_is_finite (from_bits binary64 x)) a
plain_numbers c (Date y m d hh i s u) j h a = subst HasNumbers (sym a) tt
plain_numbers c (Time p d hh i s u) j h a = subst HasNumbers (sym a) tt

-- ---- texts

reads_back : (c : Column) (v : PlainValue) (j : Json) → HasText v → IsPlainJson c v j → document (print (json_tokens j)) ≡ Some j
reads_back c v j h a = document-print j (plain_numbers c v j h a) (omega (arith, plain_fits c v j a))

-- the same text is the same JSON
pub same_json : (c : Column) (v w : PlainValue) (j k : Json) → HasText v → HasText w → IsPlainJson c v j → IsPlainJson c w k → print (json_tokens j) ≡ print (json_tokens k) → j ≡ k
same_json c v w j k hv hw a b e =
    let read : Some j ≡ Some k = sym (reads_back c v j hv a) ∙ (ap document e ∙ reads_back c w k hw b) in
    cc
