-- MySQL's packed DECIMAL format.
use Rattle.std.specs.Prelude.{◌≡◌, ℕ, ◌-◌, ◌<◌, ◌≤◌, ◌==◌, ◌⊎◌, Bool, nat_eq, nat_lt, if◌then◌else◌, List, ◌++◌, length, take, drop, Result, Ok, Err}
use Rattle.std.specs.Cmp.Lexicographic.{pointwise}
use Rattle.binlog_base.specs.declared.fault.Fault.{Fault}
use Rattle.binlog_base.specs.declared.fault.Fault.TheVariants.{UnexpectedEof, DecimalScale, DecimalGroup}
use Rattle.binlog_base.specs.Format.{Format, ◌>>=◌, no_bytes, refusal, sequence, map_value, choice}
use Rattle.binlog_base.specs.Numbers.{big_endian}
use Rattle.binlog_decimal.specs.Decimals.{DecimalView, IsPacked, packed_bytes, packed_size, zero_decimal, kept_decimal, integer_groups, fraction_groups}
use Rattle.binlog_decimal.specs.DecimalGroups.{ungrouped_digits}
use Rattle.binlog_decimal.specs.DecimalMasks.{is_minus, unmasked_bytes}

-- the only decimal with that many digits before and after the point that the bytes can hold
unfoldable pub candidate_decimal : ℕ → ℕ → List ℕ → DecimalView
candidate_decimal integer fraction bytes = record {
  negative = is_minus bytes;
  integer = take integer (ungrouped_digits (integer_groups integer ++ fraction_groups fraction) (unmasked_bytes bytes));
  fraction = drop integer (ungrouped_digits (integer_groups integer ++ fraction_groups fraction) (unmasked_bytes bytes));
}

-- the decimal whose packed form the bytes are; DecimalGroup where they are that of none
unfoldable pub decimal_in_bytes : ℕ → ℕ → List ℕ → Result DecimalView Fault
decimal_in_bytes integer fraction bytes =
    if pointwise nat_eq (packed_bytes (candidate_decimal integer fraction bytes)) bytes then Ok (candidate_decimal integer fraction bytes) else Err DecimalGroup

-- A packed decimal with that many digits before and after the point. UnexpectedEof if there are too
-- few bytes, DecimalGroup if they are not the packed form of a decimal.
unfoldable pub packed_digits : ℕ → ℕ → Format DecimalView
packed_digits integer fraction = record {
  spells = λ x d. IsPacked integer fraction x d;
  refuses = λ x e. ((length x < packed_size integer fraction) × (e ≡ UnexpectedEof))
      ⊎ ((packed_size integer fraction ≤ length x) × ((d : DecimalView) → IsPacked integer fraction (take (packed_size integer fraction) x) d → ⊥) × (e ≡ DecimalGroup));
  parse = λ x. if nat_lt (length x) (packed_size integer fraction) then Err UnexpectedEof
      else decimal_in_bytes integer fraction (take (packed_size integer fraction) x) >>= λ d. Ok (d, drop (packed_size integer fraction) x);
}

-- A packed decimal by its precision and scale, kept as it was packed or trimmed. DecimalScale,
-- before any byte is read, if the scale is above the precision. A precision of 0 takes no bytes and
-- gives zero.
unfoldable pub packed_decimal : ℕ → ℕ → Bool → Format DecimalView
packed_decimal precision scale keep =
    choice (nat_lt precision scale) (refusal DecimalScale)
    (choice (precision == 0) (no_bytes zero_decimal) (map_value (packed_digits (precision - scale) scale) (kept_decimal keep)))

-- one byte of precision, one byte of scale, and a packed decimal by them
unfoldable pub counted_decimal : Bool → Format DecimalView
counted_decimal keep = sequence (big_endian 1) (λ precision. sequence (big_endian 1) (λ scale. packed_decimal precision scale keep))
