-- The sign encoding of packed decimals can be undone.
use Rattle.std.proofs.Common.{◌≡◌, ℕ, ◌+◌, ◌-◌, ◌%◌, ◌<◌, Bool, true, false, List, [], ◌∷◌, length, refl, ap, arith}
use Rattle.std.specs.Prelude.{slice_index}
use Rattle.std.specs.Int.Digits.{AllBelowBase}
use Rattle.std.proofs.lemmas.Bool.{lt-ltb, le-ltb}
use Rattle.std.proofs.lemmas.List.{length-map}
use Rattle.binlog_decimal.specs.Decimals.{inverted_bytes, flipped_bytes}
use Rattle.binlog_decimal.specs.DecimalMasks.{is_minus, unmasked_bytes}

pub length-inverted_bytes : (negative : Bool) (xs : List ℕ) → length (inverted_bytes negative xs) ≡ length xs
length-inverted_bytes true xs = length-map xs (λ (byte : ℕ). 255 - byte)
length-inverted_bytes false xs = refl

pub length-flipped_bytes : (xs : List ℕ) → length (flipped_bytes xs) ≡ length xs
length-flipped_bytes [] = refl
length-flipped_bytes (x ∷ xs) = refl

pub inverted_bytes-inverted_bytes : (negative : Bool) (xs : List ℕ) → AllBelowBase 256 xs → inverted_bytes negative (inverted_bytes negative xs) ≡ xs
inverted_bytes-inverted_bytes true [] h = refl
inverted_bytes-inverted_bytes true (x ∷ xs) h =
    let first : 255 - (255 - x) ≡ x = omega (arith, h.0) in
    let rest = inverted_bytes-inverted_bytes true xs h.1 in
    cc (first, rest)
inverted_bytes-inverted_bytes false xs h = refl

pub flipped_bytes-flipped_bytes : (xs : List ℕ) → AllBelowBase 256 xs → flipped_bytes (flipped_bytes xs) ≡ xs
flipped_bytes-flipped_bytes [] h = refl
flipped_bytes-flipped_bytes (x ∷ xs) h = ap (λ (y : ℕ). y ∷ xs) (omega (arith, h.0))

pub below-inverted_bytes : (negative : Bool) (xs : List ℕ) → AllBelowBase 256 xs → AllBelowBase 256 (inverted_bytes negative xs)
below-inverted_bytes true [] h = tt
below-inverted_bytes true (x ∷ xs) h = (omega arith, below-inverted_bytes true xs h.1)
below-inverted_bytes false xs h = h

pub below-flipped_bytes : (xs : List ℕ) → AllBelowBase 256 xs → AllBelowBase 256 (flipped_bytes xs)
below-flipped_bytes [] h = tt
below-flipped_bytes (x ∷ xs) h = (omega arith, h.1)

-- if the first bit is 0 before the sign encoding, the sign and the bytes can be read back
pub sign_back : (negative : Bool) (xs : List ℕ) → 0 < length xs → slice_index xs 0 < 128 → is_minus (flipped_bytes (inverted_bytes negative xs)) ≡ negative
sign_back negative [] some low = absurd (omega arith)
sign_back true (x ∷ xs) some low = lt-ltb ((255 - x + 128) % 256) 128 (omega arith)
sign_back false (x ∷ xs) some low = le-ltb ((x + 128) % 256) 128 (omega arith)

pub unmasked_bytes-masked_bytes : (negative : Bool) (xs : List ℕ) → AllBelowBase 256 xs → 0 < length xs → slice_index xs 0 < 128 → unmasked_bytes (flipped_bytes (inverted_bytes negative xs)) ≡ xs
unmasked_bytes-masked_bytes negative xs below some low =
    rw (sign_back negative xs some low, flipped_bytes-flipped_bytes (inverted_bytes negative xs) (below-inverted_bytes negative xs below), inverted_bytes-inverted_bytes negative xs below) refl

pub masked_bytes-unmasked_bytes : (xs : List ℕ) → AllBelowBase 256 xs → flipped_bytes (inverted_bytes (is_minus xs) (unmasked_bytes xs)) ≡ xs
masked_bytes-unmasked_bytes xs below =
    rw (inverted_bytes-inverted_bytes (is_minus xs) (flipped_bytes xs) (below-flipped_bytes xs below), flipped_bytes-flipped_bytes xs below) refl
