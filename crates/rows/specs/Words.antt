-- What the arguments of the program mean.
use Rattle.std.specs.Prelude.{◌≡◌, ℕ, ◌<◌, ◌≤◌, List, [], ◌∷◌, length, Ok}
use Rattle.std.specs.Str.Parse.{IsNumeral, digits_value}
use Rattle.hex.specs.Hex.{decode_of, decode_sized}
use Rattle.binlog_base.specs.Tables.{from_table}
use Rattle.binlog_consts.specs.EventTypes.{event_types}
use Rattle.binlog_consts.specs.declared.consts.event_type.EventType.{EventType}
use Rattle.mysql_binlog_rows.specs.Decodes.{Input, input}
use Rattle.rows.specs.declared.words.Words.{Words}

-- the word is a number from 0 to 255, in one to three decimal digits
abbrev pub IsByteNumber : List ℕ → ℕ → Type 0
IsByteNumber word n = (length word ≤ 3) × IsNumeral 10 word × (digits_value 10 word ≡ n) × (n < 256)

-- the word is these bytes, in two hexadecimal digits each
abbrev pub IsHex : List ℕ → List ℕ → Type 0
IsHex word bytes = decode_of word ≡ Ok bytes

-- the word is this number from 0 to 255, in two hexadecimal digits
abbrev pub IsHexByte : List ℕ → ℕ → Type 0
IsHexByte word n = decode_sized word 1 ≡ Ok (n ∷ [])

abbrev pub IsEventType : List ℕ → EventType → Type 0
IsEventType word type = (n : ℕ) × IsHexByte word n × (from_table event_types (λ k. k) n ≡ Ok type)

-- the input that the arguments mean, once they are read
abbrev pub input_of : Words → Input
input_of w = input w.table.items w.table_post_header_len w.rows.items w.ctx

-- these six arguments are the bodies of both events, and what is needed to read them
pub record AreSixArguments (mlen type plen wlen maphex rowshex : List ℕ) (i : Input) : Type 0 where
  pub table_post_header_len : IsByteNumber mlen i.table_post_header_len
  pub event_type : IsEventType type i.ctx.event_type
  pub post_header_len : IsByteNumber plen i.ctx.post_header_len
  pub write_rows_post_header_len : IsByteNumber wlen i.ctx.write_rows_post_header_len
  pub table : IsHex maphex i.table
  pub rows : IsHex rowshex i.rows

-- these are the six arguments MLEN TYPE PLEN WLEN MAPHEX ROWSHEX, and they mean this input; any
-- other number of arguments means none
abbrev pub AreArguments : List (List ℕ) → Input → Type 0
AreArguments (mlen ∷ type ∷ plen ∷ wlen ∷ maphex ∷ rowshex ∷ []) i = AreSixArguments mlen type plen wlen maphex rowshex i
AreArguments _ i = ⊥
