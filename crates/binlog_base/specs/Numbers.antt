-- Numbers of a fixed width in either order of bytes, signed ones in two's complement;
-- length-encoded numbers; VarLen.
use Rattle.std.specs.Prelude.{ℕ, zero, suc, ℤ, ◌+◌, ◌-◌, ◌*◌, ◌/◌, ◌^◌, ◌%◌, ◌==◌, nat_lt, if◌then◌else◌, List, [], ◌∷◌, slice_index}
use Rattle.byteorder.specs.Endian.{little_number, big_number, little_bytes}
pub use Rattle.byteorder.specs.Endian.{twos_complement}
use Rattle.binlog_base.specs.declared.fault.Fault.TheVariants.{BadLenEnc, BadVarLen}
use Rattle.binlog_base.specs.Coding.{plain_number}
use Rattle.binlog_base.specs.Fixed.{fixed}
use Rattle.binlog_base.specs.Format.{Format, no_bytes, refusal, sequence, map_value, choice}
use Rattle.std.proofs.Common.{ℕ, zero, suc, ◌+◌, ◌-◌, ◌*◌, ◌/◌, ◌%◌, ◌<◌, ◌^◌, List, [], ◌∷◌}

-- an unsigned number of w bytes, the lowest first
abbrev pub little_endian : ℕ → Format ℕ
little_endian w = fixed little_number plain_number w

-- an unsigned number of w bytes, the highest first
abbrev pub big_endian : ℕ → Format ℕ
big_endian w = fixed big_number plain_number w

-- a signed number of w bytes in two's complement, the lowest first
abbrev pub signed_little_endian : ℕ → Format ℤ
signed_little_endian w = fixed little_number twos_complement w

-- a signed number of w bytes in two's complement, the highest first
abbrev pub signed_big_endian : ℕ → Format ℤ
signed_big_endian w = fixed big_number twos_complement w

-- A length-encoded number, after its first byte: up to FA, that byte is the number; FC, FD and FE
-- come before the number in 2, 3 and 8 bytes; FB and FF begin no number.
unfoldable pub lenenc_after : ℕ → Format ℕ
lenenc_after first =
    choice (nat_lt first 251) (no_bytes first)
    (choice (first == 252) (little_endian 2)
    (choice (first == 253) (little_endian 3)
    (choice (first == 254) (little_endian 8) (refusal BadLenEnc))))

-- a length-encoded number
unfoldable pub lenenc : Format ℕ
lenenc = sequence (little_endian 1) lenenc_after

-- the shortest spelling of a length-encoded number
unfoldable pub lenenc_bytes : ℕ → List ℕ
lenenc_bytes n =
    if nat_lt n 251 then n ∷ []
    else if nat_lt n (256 ^ 2) then 252 ∷ little_bytes 2 n
    else if nat_lt n (256 ^ 3) then 253 ∷ little_bytes 3 n
    else 254 ∷ little_bytes 8 n

-- A number in at most k groups of seven bits, the lowest group first: a byte of 128 or more holds
-- its low seven bits, and another byte follows.
unfoldable pub groups : ℕ → Format ℕ
groups zero = refusal BadVarLen
groups (suc k) = sequence (little_endian 1) (λ byte. choice (nat_lt byte 128) (no_bytes byte) (map_value (groups k) (λ high. (byte - 128) + 128 * high)))

-- a VarLen number: at most five groups, and at most 32 bits
unfoldable pub varlen : Format ℕ
varlen = sequence (groups 5) (λ n. choice (nat_lt n (2 ^ 32)) (no_bytes n) (refusal BadVarLen))

-- the shortest spelling of a number in groups of seven bits, at most its first k bytes
unfoldable pub groups_bytes : ℕ → ℕ → List ℕ
groups_bytes zero n = []
groups_bytes (suc k) n = if nat_lt n 128 then n ∷ [] else (n % 128 + 128) ∷ groups_bytes k (n / 128)

-- the shortest spelling of a VarLen number
unfoldable pub varlen_bytes : ℕ → List ℕ
varlen_bytes n = groups_bytes 5 n

-- each number is below 256
abbrev pub AreBytes : List ℕ → Type 0
AreBytes x = (i : ℕ) → slice_index x i < 256
