-- The two digits of a number.
use Rattle.std.proofs.Common.{◌≡◌, ◌+◌, ◌/◌, ◌%◌, ◌<◌, ◌∷◌, [], ℕ, true, arith, refl}
use Rattle.std.specs.Prelude.{nat_lt}
use Rattle.std.proofs.lemmas.Bool.{lt-ltb}
use Rattle.std.proofs.lemmas.Fmt.{decimal_digit}
use Rattle.row_json.specs.Times.{two_digits}

pub pair_is : (n : ℕ) → n < 100 → two_digits n ≡ (48 + n / 10) ∷ (48 + n % 10) ∷ []
pair_is n below =
    let small : nat_lt n 100 ≡ true = lt-ltb n 100 below in
    let high : n / 10 < 10 = grind arith in
    let low : n % 10 < 10 = grind arith in
    rw (small, decimal_digit (n / 10) high, decimal_digit (n % 10) low) refl
