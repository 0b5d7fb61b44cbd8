-- How large the fractions of packed times are, and what is computed from them.
use Rattle.std.specs.Int.{w32}
use Rattle.std.proofs.lemmas.Bool.{lt-ltb}
use Rattle.std.proofs.lemmas.Int.{ints}
use Rattle.std.proofs.Common.{SFits, ◌≡◌, ℕ, zero, suc, ◌+◌, ◌*◌, ◌<◌, ◌≤◌, ◌^◌, refl, arith}
use Rattle.std.specs.Prelude.{ℤ, pos, negsuc, ◌-ℤ◌, unsigned_abs}
use Rattle.binlog_base.specs.Coding.{IsSigned}
use Rattle.binlog_base.specs.PackedTimes.{packed_time, fraction_unit, time2_sum}

-- ---- how large a fraction is

pub full_small : (w : ℕ) → w ≤ 2 → 256 ^ w * fraction_unit w ≤ 6553600
full_small zero h = omega arith
full_small (suc zero) h = omega arith
full_small (suc (suc zero)) h = omega arith
full_small (suc (suc (suc w))) h = absurd (omega arith)

pub part_small : (w part : ℕ) → w ≤ 2 → part < 256 ^ w → part * fraction_unit w < 6553600
part_small zero part h low = omega arith
part_small (suc zero) part h low = omega arith
part_small (suc (suc zero)) part h low = omega arith
part_small (suc (suc (suc w))) part h low = absurd (omega arith)

pub signed_small : (w : ℕ) (z : ℤ) → w ≤ 3 → IsSigned w z → unsigned_abs z * fraction_unit w < 2 ^ 24
signed_small zero (pos n) h low = omega arith
signed_small zero (negsuc n) h low = omega arith
signed_small (suc zero) (pos n) h low = omega arith
signed_small (suc zero) (negsuc n) h low = omega arith
signed_small (suc (suc zero)) (pos n) h low = omega arith
signed_small (suc (suc zero)) (negsuc n) h low = omega arith
signed_small (suc (suc (suc zero))) (pos n) h low = omega arith
signed_small (suc (suc (suc zero))) (negsuc n) h low = omega arith
signed_small (suc (suc (suc (suc w)))) z h low = absurd (omega arith)

-- ---- what the functions compute

-- a negative time with a fraction
pub time2_sum_below : (w whole part : ℕ) → whole < 2 ^ 23 → 0 < part → time2_sum w whole part ≡ packed_time (pos (whole + 1) -ℤ pos (2 ^ 23)) (pos (part * fraction_unit w) -ℤ pos (256 ^ w * fraction_unit w))
time2_sum_below w whole part low some = rw (lt-ltb whole (2 ^ 23) low, lt-ltb 0 part some) refl

-- a signed number of four bytes fits 32 bits
pub signed_four_fits : (z : ℤ) → IsSigned 4 z → SFits w32 z
signed_four_fits (pos n) h = omega (arith, ints, h)
signed_four_fits (negsuc n) h = omega (arith, ints, h)
