-- The lowest bytes of a number hold it, where it fits.
use Rattle.std.proofs.Common.{◌≡◌, ℕ, ◌<◌, ◌≤◌, ◌^◌, ◌%◌, sym, ap, ◌∙◌, arith}
use Rattle.std.proofs.Math.Nat.{mod-eq_of_lt, mod-lt, one-le-pow}
use Rattle.std.specs.Prelude.{ℤ}
use Rattle.std.specs.Int.{w64, cast_unsigned}
use Rattle.byteorder.specs.Endian.{twos_complement}
use Rattle.binlog_base.specs.Coding.{IsSigned, lowest_bytes, signed_lowest_bytes}
use Rattle.binlog_base.specs.Lemmas.TwosComplement.{twos_complement-low_bytes}
use Rattle.binlog_base.specs.Lemmas.Powers.{pow_256, least_8}

pub lowest_fits : (w n : ℕ) → lowest_bytes w n < 256 ^ w
lowest_fits w n = let some : 1 ≤ 256 ^ w = one-le-pow w 256 (omega arith) in mod-lt n (omega arith)

pub lowest_told : (w n : ℕ) → n < 256 ^ w → lowest_bytes w n ≡ n
lowest_told w n fits = mod-eq_of_lt fits

-- eight or more bytes hold every number of 64 bits
pub all_told : (w n : ℕ) → 8 ≤ w → n < 2 ^ 64 → n ≡ lowest_bytes w n
all_told w n h fits = sym (lowest_told w n (omega (arith, least_8 w h)))

pub signed_lowest_fits : (w : ℕ) (z : ℤ) → signed_lowest_bytes w z < 256 ^ w
signed_lowest_fits w z = lowest_fits w (cast_unsigned w64 z)

pub signed_told : (size : ℕ) → size ≤ 8 → (w : ℕ) (z : ℤ) → 1 ≤ w → w ≤ size → IsSigned w z → twos_complement w (signed_lowest_bytes w z) ≡ z
signed_told size few w z some most fits =
    ap (λ (p : ℕ). twos_complement w (cast_unsigned w64 z % p)) (pow_256 w) ∙ twos_complement-low_bytes w z (omega arith) (omega arith) fits
