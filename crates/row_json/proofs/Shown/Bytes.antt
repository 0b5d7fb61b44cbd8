-- Bytes with the same JSON are the same.
use Rattle.std.proofs.Common.{◌≡◌, ℕ, zero, suc, ◌-◌, Bool, true, false, List, [], ◌∷◌, ◌++◌, length, replicate, refl, sym, ap, ◌∙◌, Ok, arith}
use Rattle.std.proofs.lemmas.Fmt.{decimal_digit}
use Rattle.std.specs.Prelude.{Option, Some, None, codes, decimal, if◌then◌else◌, ◌&&◌}
use Rattle.std.specs.Str.{bytes_eq, is_utf8}
use Rattle.base64.specs.Engines.{standard}
use Rattle.base64.specs.GeneralPurpose.{encode_of, decode_of}
use Rattle.base64.proofs.EngineFacts.{decode_of-encode_of}
use Rattle.binlog_base.specs.Numbers.{AreBytes}
use Rattle.json.specs.Json.{number, string}
use Rattle.json.specs.Word.{after_number}
use Rattle.row_json.specs.declared.charset.Charset.{Charset}
use Rattle.row_json.specs.declared.charset.Charset.TheVariants.{Ascii, Latin1, Utf8mb3, Utf8mb4, Binary, Other}
use Rattle.row_json.specs.Charsets.{text_in, str_in, may_be_text}
use Rattle.row_json.specs.Values.{base64_json, padded, string_or, text_json, is_whole, number_or_bytes, year_json}
use Rattle.row_json.specs.Shown.{bytes, shown_year}
use Rattle.row_json.proofs.Shown.Latin1.{latin1_text_injective}

pub same_base64 : (x y : List ℕ) → AreBytes x → AreBytes y → base64_json x ≡ base64_json y → x ≡ y
same_base64 x y hx hy e =
    let texts : encode_of standard x ≡ encode_of standard y = cc in
    let read : Ok x ≡ Ok y = sym (decode_of-encode_of standard x refl hx) ∙ (ap (decode_of standard) texts ∙ decode_of-encode_of standard y refl hy) in
    cc

-- ---- zero bytes at the end

zeros : (n : ℕ) → AreBytes (replicate n 0)
zeros zero = λ i. omega arith
zeros (suc n) = elim [ zero ↦ omega arith | suc i ↦ zeros n i ]

both : (x y : List ℕ) → AreBytes x → AreBytes y → AreBytes (x ++ y)
both [] y hx hy = hy
both (b ∷ x) y hx hy = elim [ zero ↦ hx 0 | suc i ↦ both x y (λ k. hx (suc k)) hy i ]

pub padded_bytes : (n : ℕ) (x : List ℕ) → AreBytes x → AreBytes (padded n x)
padded_bytes n x all = both x (replicate (n - length x) 0) all (zeros (n - length x))

-- ---- texts of a character set

-- bytes that are text of a character set are found from the text
pub str_is : (cs : Charset) (x z : List ℕ) → str_in cs x ≡ Some z → x ≡ z
str_is cs x z e = by (may_be_text cs x && is_utf8 x) e
  where
    by : (p : Bool) → (if p then Some x else None) ≡ Some z → x ≡ z
    by true f = cc
    by false f = absurd (cc)

same_strs : (cs : Charset) (x y z : List ℕ) → str_in cs x ≡ Some z → str_in cs y ≡ Some z → x ≡ y
same_strs cs x y z e f = str_is cs x z e ∙ sym (str_is cs y z f)

same_texts : (cs : Charset) (x y z : List ℕ) → AreBytes x → AreBytes y → text_in cs x ≡ Some z → text_in cs y ≡ Some z → x ≡ y
same_texts Latin1 x y z hx hy e f = latin1_text_injective x y hx hy (cc)
same_texts Ascii x y z hx hy e f = same_strs Ascii x y z e f
same_texts Utf8mb3 x y z hx hy e f = same_strs Utf8mb3 x y z e f
same_texts Utf8mb4 x y z hx hy e f = same_strs Utf8mb4 x y z e f
same_texts Binary x y z hx hy e f = same_strs Binary x y z e f
same_texts Other x y z hx hy e f = same_strs Other x y z e f

-- strings, or bytes in base64
same_or : (x y : List ℕ) (s t : Option (List ℕ)) → AreBytes x → AreBytes y → ((z : List ℕ) → s ≡ Some z → t ≡ Some z → x ≡ y) → string_or x s ≡ string_or y t → x ≡ y
same_or x y None None hx hy same e = same_base64 x y hx hy e
same_or x y None (Some t) hx hy same e = absurd (cc)
same_or x y (Some s) None hx hy same e = absurd (cc)
same_or x y (Some s) (Some t) hx hy same e = same s refl (cc)

pub same_text_json : (cs : Charset) (x y : List ℕ) → AreBytes x → AreBytes y → text_json cs x ≡ text_json cs y → x ≡ y
same_text_json cs x y hx hy e = same_or x y (text_in cs x) (text_in cs y) hx hy (λ z. same_texts cs x y z hx hy) e

-- ---- years

by_tests : (p q : Bool) (a b : List ℕ) → (if p then number a else string a) ≡ (if q then number b else string b) → a ≡ b
by_tests true true a b e = cc
by_tests true false a b e = absurd (cc)
by_tests false true a b e = absurd (cc)
by_tests false false a b e = cc

-- numbers, or strings, or bytes in base64
same_digits : (x y : List ℕ) (s t : Option (List ℕ)) → AreBytes x → AreBytes y → ((z : List ℕ) → s ≡ Some z → t ≡ Some z → x ≡ y) → number_or_bytes x s ≡ number_or_bytes y t → x ≡ y
same_digits x y None None hx hy same e = same_base64 x y hx hy e
same_digits x y None (Some t) hx hy same e = absurd (not_base64 (is_whole (after_number t)) e)
  where
    not_base64 : (p : Bool) → base64_json x ≡ (if p then number t else string t) → ⊥
    not_base64 true f = cc
    not_base64 false f = cc
same_digits x y (Some s) None hx hy same e = absurd (not_base64 (is_whole (after_number s)) e)
  where
    not_base64 : (p : Bool) → (if p then number s else string s) ≡ base64_json y → ⊥
    not_base64 true f = cc
    not_base64 false f = cc
same_digits x y (Some s) (Some t) hx hy same e = same s refl (ap Some (sym (by_tests (is_whole (after_number s)) (is_whole (after_number t)) s t e)))

zero_digit : (x : List ℕ) (t : Option (List ℕ)) → ((z : List ℕ) → t ≡ Some z → x ≡ z) → number (decimal 0) ≡ number_or_bytes x t → x ≡ codes "0"
zero_digit x None is e = absurd (cc)
zero_digit x (Some t) is e = is t refl ∙ sym (sym (decimal_digit 0 (omega arith)) ∙ by_tests true (is_whole (after_number t)) (decimal 0) t e)

same_by : (x y : List ℕ) (p q : Bool) → AreBytes x → AreBytes y →
    (if p then number (decimal 0) else number_or_bytes x (text_in Utf8mb4 x)) ≡ (if q then number (decimal 0) else number_or_bytes y (text_in Utf8mb4 y)) →
    (if p then bytes (codes "0") else bytes x) ≡ (if q then bytes (codes "0") else bytes y)
same_by x y true true hx hy e = refl
same_by x y true false hx hy e = ap bytes (sym (zero_digit y (text_in Utf8mb4 y) (str_is Utf8mb4 y) e))
same_by x y false true hx hy e = ap bytes (zero_digit x (text_in Utf8mb4 x) (str_is Utf8mb4 x) (sym e))
same_by x y false false hx hy e = ap bytes (same_digits x y (text_in Utf8mb4 x) (text_in Utf8mb4 y) hx hy (λ z. same_strs Utf8mb4 x y z) e)

pub same_year_json : (x y : List ℕ) → AreBytes x → AreBytes y → year_json x ≡ year_json y → shown_year x ≡ shown_year y
same_year_json x y hx hy e = same_by x y (bytes_eq x (codes "1900")) (bytes_eq y (codes "1900")) hx hy e
