-- The sign of a TIME of the format before fractional seconds.
use Rattle.std.specs.Prelude.{ℕ, zero, ℤ, ◌≡◌, ◌<◌, ◌+◌, ◌*◌, ◌^◌, false, if◌then◌else◌, Option, Some, None, unsigned_abs}
use Rattle.std.specs.Option.{option_map, unwrap_or}
use Rattle.std.specs.Int.{is_negative}
use Rattle.binlog_base.specs.declared.below.columns.column_type.ColumnType.{ColumnType}
use Rattle.binlog_base.specs.declared.below.columns.column_type.ColumnType.TheVariants as column
use Rattle.binlog_base.specs.Numbers.{twos_complement}
use Rattle.binlog_base.specs.Values.{PlainValue, Time}
use Rattle.binlog_cells.specs.Cells.{Cell, PlainCell, time_of_digits}

-- the number that the decimal digits HHMMSS of a time form
abbrev pub digits_of_time : ℕ → ℕ → ℕ → ℕ → ℕ
digits_of_time days hours minutes seconds = (days * 24 + hours) * 10000 + minutes * 100 + seconds

-- the time whose decimal digits HHMMSS form a number with a sign
abbrev pub signed_time : ℤ → PlainValue
signed_time z = time_of_digits (is_negative z) (unsigned_abs z)

-- The negative time that a value means, if it was read without a sign from a TIME whose three bytes
-- are a negative number in two's complement; none for any other value.
abbrev pub signed_old_time : ColumnType → PlainValue → Option PlainValue
signed_old_time column.MYSQL_TYPE_TIME (Time false d h i s zero) = let z = twos_complement 3 (digits_of_time d h i s) in if is_negative z then Some (signed_time z) else None
signed_old_time _ _ = None

-- the same for a cell
abbrev pub signed_old_cell : ColumnType → Cell → Option Cell
signed_old_cell column_type (PlainCell v) = option_map PlainCell (signed_old_time column_type v)
signed_old_cell column_type _ = None

-- A time that is read from three bytes without a sign, and is then given its sign, is the time of
-- the same bytes in two's complement.
abbrev pub OldTimesHaveSigns : Type 0
OldTimesHaveSigns = (n : ℕ) → n < 256 ^ 3 → unwrap_or (signed_old_time column.MYSQL_TYPE_TIME (time_of_digits false n)) (time_of_digits false n) ≡ signed_time (twos_complement 3 n)
