-- The text of a decimal of no digits.
use Rattle.std.proofs.Common.{◌≡◌, ℕ, ◌≤◌, false, List, [], ◌∷◌, ◌++◌, Ok, ap, arith}
use Rattle.std.specs.Fmt.{decimal}
use Rattle.std.specs.List.{flat_map}
use Rattle.std.proofs.lemmas.Bool.{le-ltb}
use Rattle.binlog_base.specs.Format.{map_value}
use Rattle.binlog_decimal.specs.Decimals.{zero_decimal}
use Rattle.binlog_decimal.specs.PackedDecimals.{packed_decimal}
use Rattle.binlog_decimal.specs.DecimalText.{decimal_text}
use Rattle.binlog_decimal.proofs.DigitCharacters.{glyphs}

pub zero_digit : flat_map decimal (0 ∷ []) ≡ 48 ∷ []
zero_digit = glyphs (0 ∷ []) (omega arith, tt)

pub zero_text : decimal_text zero_decimal ≡ 48 ∷ []
unfolding decimal_text
zero_text = ap (λ (l : List ℕ). l ++ []) zero_digit

-- a precision of 0 takes no bytes, and its text is 0
pub zero_read : (precision scale : ℕ) (x : List ℕ) → scale ≤ precision → precision ≡ 0 → (map_value (packed_decimal precision scale false) decimal_text).parse x ≡ Ok (48 ∷ [], x)
unfolding packed_decimal
zero_read precision scale x within none =
    let below = le-ltb precision scale within in
    rw (below, none) (ap (λ (t : List ℕ). Ok (t, x)) zero_text)
