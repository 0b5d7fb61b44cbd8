-- Which number the bits of w bytes give: unsigned numbers, and signed ones in two's complement.
use Rattle.std.proofs.Common.{◌≡◌, ℕ, ◌-◌, ◌*◌, ◌%◌, ◌<◌, ◌≤◌, ◌^◌}
use Rattle.std.specs.Prelude.{ℤ, pos, negsuc}
use Rattle.std.specs.Int.{w64, cast_unsigned}
use Rattle.std.proofs.Common.{◌≡◌, ℕ, ◌<◌, ◌≤◌, ◌^◌, ◌%◌}

-- w bytes in two's complement can hold z: it is from -2^(8w-1) to 2^(8w-1) - 1
abbrev pub IsSigned : ℕ → ℤ → Type 0
IsSigned w (pos n) = n < 2 ^ (8 * w - 1)
IsSigned w (negsuc n) = n < 2 ^ (8 * w - 1)

-- How numbers of w bytes, at most `size`, are coded as bits.
-- value: the number that has these bits. bits: the bits of a number's lowest w bytes.
-- Fits: which numbers w bytes can hold; such a number is the value of its bits.
pub record Coding (A : Type 0) (size : ℕ) : Type 1 where
  pub value : ℕ → ℕ → A
  pub bits : ℕ → A → ℕ
  pub Fits : ℕ → A → Type 0
  pub few : size ≤ 8
  pub bits_fit : (w : ℕ) (a : A) → bits w a < 256 ^ w
  pub told : (w : ℕ) (a : A) → 1 ≤ w → w ≤ size → Fits w a → value w (bits w a) ≡ a

-- a type of `size` bytes can hold numbers of w bytes
pub record HasRoom (size w : ℕ) : Type 0 where
  pub some : 1 ≤ w
  pub most : w ≤ size

-- an unsigned number: the number that the bits of its w bytes give
abbrev pub plain_number : ℕ → ℕ → ℕ
plain_number w n = n

-- the number in the lowest w bytes of an unsigned number
abbrev pub lowest_bytes : ℕ → ℕ → ℕ
lowest_bytes w n = n % 256 ^ w

-- the bits of the lowest w bytes of a signed number of 64 bits
abbrev pub signed_lowest_bytes : ℕ → ℤ → ℕ
signed_lowest_bytes w z = lowest_bytes w (cast_unsigned w64 z)
