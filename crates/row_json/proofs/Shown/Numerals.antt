-- Texts of decimal digits: what number they are, and where they end.
use Rattle.std.proofs.Common.{◌≡◌, ℕ, ◌+◌, ◌*◌, ◌/◌, ◌%◌, ◌^◌, ◌<◌, ◌≤◌, List, [], ◌∷◌, ◌++◌, refl, sym, ap, ◌∙◌, subst, ⊎_elim, arith, rules}
use Rattle.std.specs.Prelude.{decimal, nat_lt}
use Rattle.std.specs.Char.{digit_value}
use Rattle.std.specs.Str.Parse.{AllDigits, digits_value, digits_value_after}
use Rattle.std.proofs.lemmas.Fmt.{decimal_is_IsNumeral_wide, decimal_digit}
use Rattle.std.proofs.lemmas.Bool.{cases_lt, cond-true, cond-false, lt-ltb, le-ltb}
use Rattle.row_json.specs.Times.{two_digits, four_digits}

-- these digits write the number n
pub record Numeral (n : ℕ) (ds : List ℕ) : Type 0 where
  pub digits : AllDigits 10 ds
  pub value : digits_value 10 ds ≡ n

-- ---- digits

pub glyph_value : (d : ℕ) → d < 10 → digit_value (48 + d) ≡ d
glyph_value d h = grind (arith, rules)

all_append : (xs ys : List ℕ) → AllDigits 10 xs → AllDigits 10 ys → AllDigits 10 (xs ++ ys)
all_append [] ys a b = b
all_append (x ∷ xs) ys a b = (a.0, all_append xs ys a.1 b)

value_append : (n : ℕ) (xs ys : List ℕ) → digits_value_after 10 n (xs ++ ys) ≡ digits_value_after 10 (digits_value_after 10 n xs) ys
value_append n [] ys = refl
value_append n (x ∷ xs) ys = value_append (n * 10 + digit_value x) xs ys

-- ---- numerals

pub decimal_numeral : (n : ℕ) → n < 10 ^ 64 → Numeral n (decimal n)
decimal_numeral n h = let is = decimal_is_IsNumeral_wide n h in record { digits = is.0.1; value = is.1 }

at_number : {m n : ℕ} {ds : List ℕ} → m ≡ n → Numeral m ds → Numeral n ds
at_number {ds} e is = subst (λ (k : ℕ). Numeral k ds) e is

-- two digits after others
pair_numeral : (n a b : ℕ) (ds : List ℕ) → Numeral n ds → a < 10 → b < 10 → Numeral (n * 100 + a * 10 + b) (ds ++ ((48 + a) ∷ (48 + b) ∷ []))
pair_numeral n a b ds is ha hb = record {
  digits = all_append ds ((48 + a) ∷ (48 + b) ∷ []) is.digits (subst (λ v. v < 10) (sym (glyph_value a ha)) ha, (subst (λ v. v < 10) (sym (glyph_value b hb)) hb, tt));
  value = value_append 0 ds ((48 + a) ∷ (48 + b) ∷ []) ∙ omega (arith, is.value, glyph_value a ha, glyph_value b hb);
}

-- a number below 100 in two digits
two : (n : ℕ) → n < 100 → two_digits n ≡ (48 + n / 10) ∷ (48 + n % 10) ∷ []
two n h = cond-true (nat_lt n 100) (decimal (n / 10) ++ decimal (n % 10)) (decimal n) (lt-ltb n 100 h)
    ∙ (ap (λ (ds : List ℕ). ds ++ decimal (n % 10)) (decimal_digit (n / 10) (omega arith)) ∙ ap (λ (ds : List ℕ). (48 + n / 10) ∷ ds) (decimal_digit (n % 10) (omega arith)))

pub two_digits_numeral : (n : ℕ) → n < 10 ^ 64 → Numeral n (two_digits n)
two_digits_numeral n h = ⊎_elim (λ few. short few) (λ many. subst (Numeral n) (sym (cond-false (nat_lt n 100) (decimal (n / 10) ++ decimal (n % 10)) (decimal n) (le-ltb n 100 many))) (decimal_numeral n h)) (cases_lt n 100)
  where
    short : n < 100 → Numeral n (two_digits n)
    short few = subst (Numeral n) (sym (two n few)) (at_number (omega arith) (pair_numeral 0 (n / 10) (n % 10) [] (record { digits = tt; value = refl }) (omega arith) (omega arith)))

pub four_digits_numeral : (n : ℕ) → n < 10 ^ 64 → Numeral n (four_digits n)
four_digits_numeral n h = subst (λ (ds : List ℕ). Numeral n (two_digits (n / 100) ++ ds)) (sym (two (n % 100) (omega arith)))
    (at_number (omega arith) (pair_numeral (n / 100) (n % 100 / 10) (n % 100 % 10) (two_digits (n / 100)) (two_digits_numeral (n / 100) (omega arith)) (omega arith) (omega arith)))

-- ---- where digits end

pub same_numbers : {m n : ℕ} {xs ys : List ℕ} → Numeral m xs → Numeral n ys → xs ≡ ys → m ≡ n
same_numbers a b e = sym a.value ∙ (ap (digits_value 10) e ∙ b.value)

-- the same bytes after the digits
pub record Ends (xs ys x y : List ℕ) (s t : ℕ) : Type 0 where
  pub digits : xs ≡ ys
  pub stop : s ≡ t
  pub rest : x ≡ y

ends : (xs ys x y : List ℕ) (s t : ℕ) → AllDigits 10 xs → AllDigits 10 ys → 10 ≤ digit_value s → 10 ≤ digit_value t → xs ++ s ∷ x ≡ ys ++ t ∷ y → Ends xs ys x y s t
ends [] [] x y s t a b hs ht e = record { digits = refl; stop = cc; rest = cc }
ends [] (d ∷ ys) x y s t a b hs ht e = let same : s ≡ d = cc in absurd (omega (arith, ap digit_value same, b.0))
ends (c ∷ xs) [] x y s t a b hs ht e = let same : c ≡ t = cc in absurd (omega (arith, ap digit_value same, a.0))
ends (c ∷ xs) (d ∷ ys) x y s t a b hs ht e =
    let same : c ≡ d = cc in
    let more : xs ++ s ∷ x ≡ ys ++ t ∷ y = cc in
    let is = ends xs ys x y s t a.1 b.1 hs ht more in
    record { digits = ap (λ (h : ℕ). h ∷ xs) same ∙ ap (λ (l : List ℕ). d ∷ l) is.digits; stop = is.stop; rest = is.rest }

-- numbers before a byte that is no digit
pub record Parted (m n s t : ℕ) (x y : List ℕ) : Type 0 where
  pub number : m ≡ n
  pub stop : s ≡ t
  pub rest : x ≡ y

pub parted : {m n : ℕ} {xs ys : List ℕ} (s t : ℕ) (x y : List ℕ) → Numeral m xs → Numeral n ys → 10 ≤ digit_value s → 10 ≤ digit_value t → xs ++ s ∷ x ≡ ys ++ t ∷ y → Parted m n s t x y
parted {xs} {ys} s t x y a b hs ht e = let is = ends xs ys x y s t a.digits b.digits hs ht e in record { number = same_numbers a b is.digits; stop = is.stop; rest = is.rest }
