-- Packed decimals that lend their bytes.
use Rattle.std.specs.Prelude.{◌≡◌, ℕ, false, List, [], Result, Ok, Err}
use Rattle.binlog_base.specs.declared.fault.Fault.{Fault}
use Rattle.binlog_decimal.specs.Decimals.{DecimalView, zero_decimal}
use Rattle.binlog_decimal.specs.PackedDecimals.{packed_digits, packed_decimal}

-- the decimal that was read; zero where none was
abbrev pub read_or_zero : Result (DecimalView × List ℕ) Fault → DecimalView
read_or_zero (Ok r) = r.0
read_or_zero (Err e) = zero_decimal

-- the decimal that is packed at the start of the bytes, with so many digits before and after the
-- point
abbrev pub digits_of : ℕ → ℕ → List ℕ → DecimalView
digits_of integer fraction bytes = read_or_zero ((packed_digits integer fraction).parse bytes)

-- the same by its precision and scale, without the groups at its start that are all zeros
abbrev pub decimal_of : ℕ → ℕ → List ℕ → DecimalView
decimal_of precision scale bytes = read_or_zero ((packed_decimal precision scale false).parse bytes)

-- all of the bytes are those of a decimal of this precision and scale
abbrev pub IsAllOf : ℕ → ℕ → List ℕ → Type 0
IsAllOf precision scale bytes = (packed_decimal precision scale false).parse bytes ≡ Ok (decimal_of precision scale bytes, [])
