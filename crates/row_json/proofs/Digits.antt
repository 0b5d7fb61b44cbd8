-- The decimal digits of a number: how many they are, and the last of them.
use Rattle.std.specs.Int.Digits.{AllBelowBase}
use Rattle.std.proofs.Common.{◌≡◌, ℕ, zero, suc, get_or, ◌+◌, ◌/◌, ◌%◌, ◌^◌, ◌<◌, ◌≤◌, List, [], ◌∷◌, ◌++◌, length, sym, ap, ◌∙◌, arith}
use Rattle.std.specs.Prelude.{decimal}
use Rattle.std.proofs.lemmas.Fmt.{decimal_digit, decimal_step, length-decimal-le}
use Rattle.std.proofs.lemmas.List.{length-append}

pub digit_length : (n : ℕ) → n < 10 → length (decimal n) ≡ 1
digit_length n h = ap length (decimal_digit n h)

pub last_digit : (n : ℕ) → 10 ≤ n → n < 2 ^ 64 → decimal n ≡ decimal (n / 10) ++ decimal (n % 10)
last_digit n low high = decimal_step n low high ∙ ap (λ (d : List ℕ). decimal (n / 10) ++ d) (sym (decimal_digit (n % 10) (omega arith)))

pub more_length : (n : ℕ) → 10 ≤ n → n < 2 ^ 64 → length (decimal n) ≡ length (decimal (n / 10)) + 1
more_length n low high = ap length (decimal_step n low high) ∙ length-append (decimal (n / 10)) ((48 + n % 10) ∷ [])

-- a number of 64 bits has at most 20 digits
pub length_decimal : (n : ℕ) → n < 2 ^ 64 → length (decimal n) ≤ 20
length_decimal n h = length-decimal-le 20 n (omega arith) (omega arith) h

pub digit_below : (ds : List ℕ) (i : ℕ) → AllBelowBase 10 ds → i < length ds → get_or ds i 0 < 10
digit_below [] i below within = absurd (omega arith)
digit_below (d ∷ ds) zero below within = below.0
digit_below (d ∷ ds) (suc i) below within = digit_below ds i below.1 (omega arith)
