-- The sign encoding of the packed DECIMAL format, and how it is undone.
use Rattle.std.proofs.Common.{ℕ, Bool, List}
use Rattle.std.specs.Prelude.{slice_index, nat_lt, if◌then◌else◌}
use Rattle.binlog_decimal.specs.Decimals.{inverted_bytes, flipped_bytes}

-- bytes with the sign encoding: all bits inverted for a negative decimal, and the first bit flipped
-- if the bytes are at the start of the packed form
abbrev pub masked_bytes : Bool → Bool → List ℕ → List ℕ
masked_bytes negative first bytes = if first then flipped_bytes (inverted_bytes negative bytes) else inverted_bytes negative bytes

-- packed bytes are those of a negative decimal: their first bit is 0
abbrev pub is_minus : List ℕ → Bool
is_minus bytes = nat_lt (slice_index bytes 0) 128

-- packed bytes without the sign encoding
abbrev pub unmasked_bytes : List ℕ → List ℕ
unmasked_bytes bytes = inverted_bytes (is_minus bytes) (flipped_bytes bytes)
