-- Powers of 256 and of 2, and numbers of few bytes as numbers of an integer type.
use Rattle.std.proofs.Common.{◌≡◌, ℕ, zero, suc, ◌+◌, ◌*◌, ◌<◌, ◌≤◌, ◌^◌, refl, ap, arith}
use Rattle.std.proofs.lemmas.Nat.{pow-add}
use Rattle.std.proofs.Math.Nat.{pow-suc, pow-le-pow_right, one-le-pow}

pub pow_256 : (w : ℕ) → 256 ^ w ≡ 2 ^ (8 * w)
pow_256 zero = refl
pow_256 (suc w) =
    let e : 8 * suc w ≡ 8 * w + 8 = omega arith in
    let high = pow-suc 256 w in
    let low = pow-add 2 (8 * w) 8 in
    let before = pow_256 w in
    omega (arith, ap (λ (k : ℕ). 2 ^ k) e, high, low, before)

pub most_1 : (w : ℕ) → w ≤ 1 → 256 ^ w ≤ 256
most_1 w h = pow-le-pow_right {n = 256} (omega arith) h

pub most_2 : (w : ℕ) → w ≤ 2 → 256 ^ w ≤ 65536
most_2 w h = pow-le-pow_right {n = 256} (omega arith) h

pub most_4 : (w : ℕ) → w ≤ 4 → 256 ^ w ≤ 4294967296
most_4 w h = pow-le-pow_right {n = 256} (omega arith) h

pub below_8 : (w : ℕ) → w < 8 → 256 ^ w < 2 ^ 64
below_8 w h =
    let le : w ≤ 7 = omega arith in
    let most : 256 ^ w ≤ 256 ^ 7 = pow-le-pow_right {n = 256} (omega arith) le in
    omega (arith, most)

pub some_power : (w : ℕ) → 0 < 256 ^ w
some_power w = one-le-pow w 256 (omega arith)

pub least_8 : (w : ℕ) → 8 ≤ w → 2 ^ 64 ≤ 256 ^ w
least_8 w h = let least : 256 ^ 8 ≤ 256 ^ w = pow-le-pow_right {n = 256} (omega arith) h in omega (arith, least)
