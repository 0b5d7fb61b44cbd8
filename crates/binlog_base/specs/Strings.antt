-- Byte strings with their length before them, and bytes that are ignored.
use Rattle.std.specs.Prelude.{ℕ, List, ◌∷◌, ◌++◌, length}
use Rattle.binlog_base.specs.Format.{Format, take_bytes, sequence, map_value}
use Rattle.binlog_base.specs.Numbers.{little_endian, lenenc, lenenc_bytes, varlen, varlen_bytes}

-- the length in one byte, and that many bytes
unfoldable pub u8_string : Format (List ℕ)
u8_string = sequence (little_endian 1) take_bytes

-- a length-encoded length, and that many bytes
unfoldable pub lenenc_string : Format (List ℕ)
lenenc_string = sequence lenenc take_bytes

-- the length as a VarLen number, and that many bytes
unfoldable pub varlen_string : Format (List ℕ)
varlen_string = sequence varlen take_bytes

-- any n bytes, which are ignored
unfoldable pub skip_bytes : ℕ → Format (Unit {0})
skip_bytes n = map_value (take_bytes n) (λ _. tt)

-- the bytes that are written for a string of at most 255 bytes, after its length in one byte
unfoldable pub u8_string_bytes : List ℕ → List ℕ
u8_string_bytes text = length text ∷ text

-- the bytes that are written for a string, after its length-encoded length
unfoldable pub lenenc_string_bytes : List ℕ → List ℕ
lenenc_string_bytes text = lenenc_bytes (length text) ++ text

-- the bytes that are written for a string of at most 2^32 - 1 bytes, after its VarLen length
unfoldable pub varlen_string_bytes : List ℕ → List ℕ
varlen_string_bytes text = varlen_bytes (length text) ++ text
