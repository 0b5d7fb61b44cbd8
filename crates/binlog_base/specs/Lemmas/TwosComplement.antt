-- Two's complement in w bytes: each number that fits is read back.
use Rattle.std.proofs.Common.{◌≡◌, ℕ, zero, suc, ◌+◌, ◌-◌, ◌*◌, ◌%◌, ◌<◌, ◌≤◌, ◌^◌, refl, ap, ◌∙◌, arith, inl, inr}
use Rattle.std.specs.Prelude.{ℤ, pos, negsuc, ◌-ℤ◌}
use Rattle.std.specs.Int.{w64}
use Rattle.std.proofs.lemmas.Bool.{cases_lt, le-ltb, lt-ltb}
use Rattle.std.proofs.lemmas.Nat.{pow-add}
use Rattle.std.proofs.Math.Nat.{mul-add-mod_self_right, mod-eq_of_lt, one-le-pow, pow-suc, mod-lt}
use Rattle.byteorder.specs.Endian.{twos_complement, low_bytes}
use Rattle.binlog_base.specs.Coding.{IsSigned}

pos-sub : (a m d : ℕ) → a + suc d ≡ m → pos a -ℤ pos m ≡ negsuc d
pos-sub a zero d h = absurd (omega arith)
pos-sub a (suc k) d h =
    let below = lt-ltb a (suc k) (omega arith) in
    let left : suc k - suc a ≡ d = omega arith in
    rw below (ap negsuc left)

-- 2^(8w) is twice 2^(8w-1)
doubled : (w : ℕ) → 0 < w → 2 ^ (8 * w) ≡ 2 * 2 ^ (8 * w - 1)
doubled w h = let e : 8 * w ≡ suc (8 * w - 1) = omega arith in let p = pow-suc 2 (8 * w - 1) in omega (arith, ap (λ (k : ℕ). 2 ^ k) e, p)

mod_below : (k m r : ℕ) → 0 < k → 0 < r → r ≤ m → (k * m - r) % m ≡ m - r
mod_below zero m r hk hr hm = absurd (omega arith)
mod_below (suc k) m r hk hr hm =
    let split : suc k * m - r ≡ k * m + (m - r) = grind arith in
    ap (λ (x : ℕ). x % m) split ∙ mul-add-mod_self_right k m (m - r) ∙ mod-eq_of_lt (omega arith)

pub twos_complement-low_bytes : (w : ℕ) (z : ℤ) → 0 < w → w ≤ 8 → IsSigned w z → twos_complement w (low_bytes w64 w z) ≡ z
twos_complement-low_bytes w (pos n) some most h =
    let all = doubled w some in
    let kept : n % 2 ^ (8 * w) ≡ n = mod-eq_of_lt (omega arith) in
    rw (kept, lt-ltb n (2 ^ (8 * w - 1)) h) refl
twos_complement-low_bytes w (negsuc n) some most h =
    let all = doubled w some in
    let e : 64 ≡ (64 - 8 * w) + 8 * w = omega arith in
    let parts : 2 ^ 64 ≡ 2 ^ (64 - 8 * w) * 2 ^ (8 * w) = ap (λ (k : ℕ). 2 ^ k) e ∙ pow-add 2 (64 - 8 * w) (8 * w) in
    let one : 1 ≤ 2 ^ (64 - 8 * w) = one-le-pow (64 - 8 * w) 2 (omega arith) in
    let kept : (2 ^ 64 - suc n) % 2 ^ (8 * w) ≡ 2 ^ (8 * w) - suc n =
    ap (λ (x : ℕ). (x - suc n) % 2 ^ (8 * w)) parts ∙ mod_below (2 ^ (64 - 8 * w)) (2 ^ (8 * w)) (suc n) (omega arith) (omega arith) (omega arith) in
    let high : 2 ^ (8 * w - 1) ≤ 2 ^ (8 * w) - suc n = omega arith in
    rw (kept, le-ltb (2 ^ (8 * w) - suc n) (2 ^ (8 * w - 1)) high) (pos-sub (2 ^ (8 * w) - suc n) (2 ^ (8 * w)) n (omega arith))

-- the lowest bytes of z fit w bytes
pub low_bytes-fits : (w : ℕ) (z : ℤ) → low_bytes w64 w z < 2 ^ (8 * w)
low_bytes-fits w (pos n) = let some : 1 ≤ 2 ^ (8 * w) = one-le-pow (8 * w) 2 (omega arith) in mod-lt n (omega arith)
low_bytes-fits w (negsuc n) = let some : 1 ≤ 2 ^ (8 * w) = one-le-pow (8 * w) 2 (omega arith) in mod-lt (2 ^ 64 - suc n) (omega arith)

pub twos_complement-fits : (w n : ℕ) → 0 < w → n < 2 ^ (8 * w) → IsSigned w (twos_complement w n)
twos_complement-fits w n some h =
    let all = doubled w some in
    elim (cases_lt n (2 ^ (8 * w - 1))) [
      | inl low ↦ rw (lt-ltb n (2 ^ (8 * w - 1)) low) low
      | inr high ↦
          let d = 2 ^ (8 * w) - suc n in
          rw (le-ltb n (2 ^ (8 * w - 1)) high, pos-sub n (2 ^ (8 * w)) d (omega arith)) (omega arith)
    ]
