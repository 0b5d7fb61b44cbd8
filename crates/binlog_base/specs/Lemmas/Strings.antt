-- The formats of strings are exact, and what is written of a string is a spelling of it.
use Rattle.std.proofs.Common.{◌≡◌, ℕ, ◌≤◌, ◌<◌, ◌-◌, ◌^◌, List, [], ◌∷◌, length, refl, arith}
use Rattle.binlog_base.specs.Format.{IsExact, take_bytes}
use Rattle.binlog_base.specs.Lemmas.Format.{exact_take_bytes, exact_sequence, exact_map_value, bytes_width}
use Rattle.binlog_base.specs.Numbers.{little_endian, lenenc, varlen, lenenc_bytes, varlen_bytes}
use Rattle.binlog_base.specs.Lemmas.Numbers.{exact_little_endian, exact_lenenc, exact_varlen}
use Rattle.binlog_base.specs.Lemmas.NumbersWritten.{byte_written, lenenc_written, varlen_written}
use Rattle.binlog_base.specs.Strings.{u8_string, lenenc_string, varlen_string, skip_bytes, u8_string_bytes, lenenc_string_bytes, varlen_string_bytes}

pub exact_u8_string : IsExact u8_string
unfolding u8_string
exact_u8_string = exact_sequence (little_endian 1) take_bytes (exact_little_endian 1) exact_take_bytes

pub exact_lenenc_string : IsExact lenenc_string
unfolding lenenc_string
exact_lenenc_string = exact_sequence lenenc take_bytes exact_lenenc exact_take_bytes

pub exact_varlen_string : IsExact varlen_string
unfolding varlen_string
exact_varlen_string = exact_sequence varlen take_bytes exact_varlen exact_take_bytes

pub exact_skip_bytes : (n : ℕ) → IsExact (skip_bytes n)
unfolding skip_bytes
exact_skip_bytes n = exact_map_value (take_bytes n) _ (exact_take_bytes n)

pub u8_string_written : (text : List ℕ) → length text < 256 → u8_string.spells (u8_string_bytes text) text
unfolding u8_string u8_string_bytes
u8_string_written text fits = (length text, length text ∷ [], text, refl, byte_written (length text) fits, (refl, refl))

pub lenenc_string_written : (text : List ℕ) → length text < 256 ^ 8 → lenenc_string.spells (lenenc_string_bytes text) text
unfolding lenenc_string lenenc_string_bytes
lenenc_string_written text fits = (length text, lenenc_bytes (length text), text, refl, lenenc_written (length text) fits, (refl, refl))

pub varlen_string_written : (text : List ℕ) → length text < 2 ^ 32 → varlen_string.spells (varlen_string_bytes text) text
unfolding varlen_string varlen_string_bytes
varlen_string_written text fits = (length text, varlen_bytes (length text), text, refl, varlen_written (length text) fits, (refl, refl))

pub skipped_width : (n : ℕ) (x : List ℕ) (u : Unit {0}) → (skip_bytes n).spells x u → length x ≡ n
unfolding skip_bytes
skipped_width n = bytes_width n (λ _. tt)

-- what is written of a string that its kind can hold is a spelling of it; no context is needed
pub u8_string_spelled : (text : List ℕ) → length text ≤ 255 → (ctx : Unit {0}) × u8_string.spells (u8_string_bytes text) text
u8_string_spelled text fits = (tt, u8_string_written text (omega arith))

pub lenenc_string_spelled : (text : List ℕ) → length text ≤ 2 ^ 64 - 1 → (ctx : Unit {0}) × lenenc_string.spells (lenenc_string_bytes text) text
lenenc_string_spelled text fits = (tt, lenenc_string_written text (omega arith))

pub varlen_string_spelled : (text : List ℕ) → length text ≤ 2 ^ 32 - 1 → (ctx : Unit {0}) × varlen_string.spells (varlen_string_bytes text) text
varlen_string_spelled text fits = (tt, varlen_string_written text (omega arith))
