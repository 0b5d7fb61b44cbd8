-- Lists of bits in bytes, in either order.
use Rattle.std.specs.Prelude.{ℕ, zero, suc, ◌+◌, ◌-◌, ◌/◌, ◌%◌, ◌^◌, ◌==◌, Bool, List, [], ◌∷◌, slice_index, count_by}
use Rattle.binlog_base.specs.declared.bits.BitOrder.{BitOrder}
use Rattle.binlog_base.specs.declared.bits.BitOrder.TheVariants.{LeastSignificantFirst, MostSignificantFirst}
use Rattle.binlog_base.specs.Format.{Format, take_bytes, map_value}

-- how far bit i is shifted up within its byte
abbrev pub shift_of : BitOrder → ℕ → ℕ
shift_of LeastSignificantFirst i = i % 8
shift_of MostSignificantFirst i = 7 - i % 8

-- bit i of a bitmap, given its byte
abbrev pub bit_in : BitOrder → ℕ → ℕ → Bool
bit_in order byte i = byte / 2 ^ shift_of order i % 2 == 1

-- bit i of a bitmap, which is in byte i / 8
unfoldable pub bit_at : BitOrder → List ℕ → ℕ → Bool
bit_at order bytes i = bit_in order (slice_index bytes (i / 8)) i

-- the n bits from bit i on
abbrev pub bits_from : BitOrder → List ℕ → ℕ → ℕ → List Bool
bits_from order bytes i zero = []
bits_from order bytes i (suc n) = bit_at order bytes i ∷ bits_from order bytes (suc i) n

-- the first n bits
abbrev pub bits_of : BitOrder → ℕ → List ℕ → List Bool
bits_of order n bytes = bits_from order bytes 0 n

-- how many bits are set
abbrev pub count_set : List Bool → ℕ
count_set bits = count_by (λ bit. bit) bits

-- how many bytes n bits take
abbrev pub bitmap_len : ℕ → ℕ
bitmap_len n = (n + 7) / 8

-- a bitmap of n bits, in as many bytes as they take; the bits of the last byte after them are
-- ignored
unfoldable pub bit_list : BitOrder → ℕ → Format (List Bool)
bit_list order n = map_value (take_bytes (bitmap_len n)) (bits_of order n)
