-- The order of decimals as numbers.
use Rattle.std.specs.Prelude.{◌≡◌, ℕ, ℤ, pos, neg_ℤ, ◌*◌, ◌^◌, Bool, if◌then◌else◌, ◌++◌, length}
use Rattle.std.specs.Ordering.{int_cmp}
use Rattle.std.specs.declared.cmp.Ordering.{Ordering}
use Rattle.std.specs.Int.Digits.{AllBelowBase, number_from_digits}
use Rattle.binlog_decimal.specs.declared.decimal.number.Row.{Row}
use Rattle.binlog_decimal.specs.Decimals.{DecimalView}
use Rattle.binlog_decimal.specs.DecimalLaws.{value_of}

-- a whole number by its size, and whether there is a minus; that of a zero means nothing
abbrev pub signed : Bool → ℕ → ℤ
signed minus n = if minus then neg_ℤ (pos n) else pos n

-- all digits of a decimal as a whole number with its sign, times ten to the power of `more`
abbrev pub scaled : DecimalView → ℕ → ℤ
scaled d more = signed d.negative (value_of d * 10 ^ more)

-- the order of two decimals as numbers, where both are brought to the same count of digits after the
-- point
abbrev pub number_order : DecimalView → DecimalView → Ordering
number_order a b = int_cmp (scaled a (length b.fraction)) (scaled b (length a.fraction))

-- ---- rows of digits

-- the digits of a row as a number
abbrev pub row_size : Row → ℕ
row_size row = number_from_digits 10 (row.before ++ row.after)

-- the same with its sign
abbrev pub row_number : Row → ℤ
row_number row = signed row.negative (row_size row)

-- the digits are from 0 to 9, with 255 on both sides of the point
pub record HasDigits (row : Row) : Type 0 where
  pub before : AllBelowBase 10 row.before
  pub after : AllBelowBase 10 row.after
  pub before_long : length row.before ≡ 255
  pub after_long : length row.after ≡ 255
