-- Fractions of a second with the same text have the same shown digits.
use Rattle.std.proofs.Common.{◌≡◌, ℕ, zero, suc, ◌+◌, ◌-◌, ◌/◌, ◌%◌, ◌^◌, ◌<◌, List, [], ◌∷◌, ◌++◌, take, refl, sym, ap, ◌∙◌, arith}
use Rattle.std.specs.Prelude.{decimal, ⊤}
use Rattle.std.specs.List.{flat_map}
use Rattle.std.proofs.lemmas.Fmt.{decimal_digit}
use Rattle.binlog_decimal.specs.TimeText.{six_digits}

step : (a b : ℕ) → a / 10 ≡ b / 10 → a % 10 ≡ b % 10 → a ≡ b
step a b h l = omega arith

-- one more digit
second : (u v : ℕ) → u / 100000 ≡ v / 100000 → u / 10000 % 10 ≡ v / 10000 % 10 → u / 10000 ≡ v / 10000
second u v h l = step (u / 10000) (v / 10000) (omega arith) l

third : (u v : ℕ) → u / 10000 ≡ v / 10000 → u / 1000 % 10 ≡ v / 1000 % 10 → u / 1000 ≡ v / 1000
third u v h l = step (u / 1000) (v / 1000) (omega arith) l

fourth : (u v : ℕ) → u / 1000 ≡ v / 1000 → u / 100 % 10 ≡ v / 100 % 10 → u / 100 ≡ v / 100
fourth u v h l = step (u / 100) (v / 100) (omega arith) l

fifth : (u v : ℕ) → u / 100 ≡ v / 100 → u / 10 % 10 ≡ v / 10 % 10 → u / 10 ≡ v / 10
fifth u v h l = step (u / 10) (v / 10) (omega arith) l

sixth : (u v : ℕ) → u / 10 ≡ v / 10 → u % 10 ≡ v % 10 → u / 1 ≡ v / 1
sixth u v h l = ap (λ (n : ℕ). n / 1) (step u v h l)

-- the first k + 1 digits
first_digits : (k u v : ℕ) → k < 6 → take (suc k) (six_digits u) ≡ take (suc k) (six_digits v) → u / 10 ^ (5 - k) ≡ v / 10 ^ (5 - k)
first_digits zero u v h e = cc
first_digits (suc zero) u v h e = second u v (cc) (cc)
first_digits (suc (suc zero)) u v h e = third u v (second u v (cc) (cc)) (cc)
first_digits (suc (suc (suc zero))) u v h e = fourth u v (third u v (second u v (cc) (cc)) (cc)) (cc)
first_digits (suc (suc (suc (suc zero)))) u v h e = fifth u v (fourth u v (third u v (second u v (cc) (cc)) (cc)) (cc)) (cc)
first_digits (suc (suc (suc (suc (suc zero))))) u v h e = sixth u v (fifth u v (fourth u v (third u v (second u v (cc) (cc)) (cc)) (cc)) (cc)) (cc)
first_digits (suc (suc (suc (suc (suc (suc k)))))) u v h e = absurd (omega arith)

-- ---- the digits in a text

AreDigits : List ℕ → Type 0
AreDigits [] = ⊤
AreDigits (d ∷ ds) = (d < 10) × AreDigits ds

some_digits : (k : ℕ) (ds : List ℕ) → AreDigits ds → AreDigits (take k ds)
unfolding AreDigits
some_digits zero ds h = tt
some_digits (suc k) [] h = tt
some_digits (suc k) (d ∷ ds) h = (h.0, some_digits k ds h.1)

six_are_digits : (u : ℕ) → u < 1000000 → AreDigits (six_digits u)
unfolding AreDigits
six_are_digits u h = (omega arith, (omega arith, (omega arith, (omega arith, (omega arith, (omega arith, tt))))))

same_digits : (xs ys : List ℕ) → AreDigits xs → AreDigits ys → flat_map decimal xs ≡ flat_map decimal ys → xs ≡ ys
unfolding AreDigits
same_digits [] [] a b e = refl
same_digits [] (y ∷ ys) a b e = absurd (let f : [] ≡ (48 + y) ∷ flat_map decimal ys = e ∙ ap (λ (ds : List ℕ). ds ++ flat_map decimal ys) (decimal_digit y b.0) in cc)
same_digits (x ∷ xs) [] a b e = absurd (let f : [] ≡ (48 + x) ∷ flat_map decimal xs = sym e ∙ ap (λ (ds : List ℕ). ds ++ flat_map decimal xs) (decimal_digit x a.0) in cc)
same_digits (x ∷ xs) (y ∷ ys) a b e =
    let f : (48 + x) ∷ flat_map decimal xs ≡ (48 + y) ∷ flat_map decimal ys =
    sym (ap (λ (ds : List ℕ). ds ++ flat_map decimal xs) (decimal_digit x a.0)) ∙ (e ∙ ap (λ (ds : List ℕ). ds ++ flat_map decimal ys) (decimal_digit y b.0)) in
    let glyphs : 48 + x ≡ 48 + y = cc in
    let more : flat_map decimal xs ≡ flat_map decimal ys = cc in
    let head : x ≡ y = omega arith in
    let tail : xs ≡ ys = same_digits xs ys a.1 b.1 more in
    cc

-- the text of the first k + 1 digits
pub same_fractions : (k u v : ℕ) → k < 6 → u < 1000000 → v < 1000000 → flat_map decimal (take (suc k) (six_digits u)) ≡ flat_map decimal (take (suc k) (six_digits v)) →
    u / 10 ^ (6 - suc k) ≡ v / 10 ^ (6 - suc k)
same_fractions k u v h hu hv e =
    let left : 6 - suc k ≡ 5 - k = omega arith in
    rw left (first_digits k u v h (same_digits (take (suc k) (six_digits u)) (take (suc k) (six_digits v))
    (some_digits (suc k) (six_digits u) (six_are_digits u hu)) (some_digits (suc k) (six_digits v) (six_are_digits v hv)) e))
