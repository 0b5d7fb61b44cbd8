-- MySQL's packed times: whole numbers whose fields are quotients and remainders of the absolute
-- value; and the bytes of TIME2, DATETIME2 and TIMESTAMP2 values, by the column's decimals.
use Rattle.std.specs.Prelude.{ℕ, ℤ, pos, negsuc, ◌+ℤ◌, ◌-ℤ◌, ◌*ℤ◌, unsigned_abs, int_lt, ◌+◌, ◌-◌, ◌*◌, ◌/◌, ◌^◌, ◌%◌, ◌==◌, ◌&&◌, nat_lt, if◌then◌else◌, Result, Ok, Err}
use Rattle.std.specs.Int.{w64, int_wrap}
use Rattle.binlog_base.specs.declared.fault.Fault.{Fault}
use Rattle.binlog_base.specs.declared.fault.Fault.TheVariants.{TimeRange}
use Rattle.binlog_base.specs.declared.misc.fields.TimeFields.{TimeFields}
use Rattle.binlog_base.specs.declared.misc.fields.DateTimeFields.{DateTimeFields}
use Rattle.binlog_base.specs.Format.{Format, sequence, map_value, check, choice}
use Rattle.binlog_base.specs.Numbers.{big_endian, signed_big_endian}
use Rattle.binlog_base.specs.Values.{PlainValue, Date, Time}

-- ---- a packed time

-- the packed time of `whole` (the seconds and the larger units) and of `fraction` (the
-- microseconds, in the low 24 bits)
abbrev pub packed_time : ℤ → ℤ → ℤ
packed_time whole fraction = whole *ℤ pos (2 ^ 24) +ℤ fraction

-- the packed time of `whole` and no microseconds, which wraps around at 64 bits
abbrev pub packed_whole : ℤ → ℤ
packed_whole whole = int_wrap w64 (whole *ℤ pos (2 ^ 24))

-- ---- the fields of a packed time, by its absolute value n

-- the microseconds take the low 24 bits
abbrev pub microsecond_of : ℕ → ℕ
microsecond_of n = n % 2 ^ 24

-- the second takes the 6 bits above them
abbrev pub second_of : ℕ → ℕ
second_of n = n / 2 ^ 24 % 2 ^ 6

-- the minute takes the next 6 bits
abbrev pub minute_of : ℕ → ℕ
minute_of n = n / 2 ^ 30 % 2 ^ 6

-- the hour of a TIME takes the next 10 bits
abbrev pub time_hour_of : ℕ → ℕ
time_hour_of n = n / 2 ^ 36 % 2 ^ 10

-- the hour of a DATETIME takes the next 5 bits
abbrev pub hour_of : ℕ → ℕ
hour_of n = n / 2 ^ 36 % 2 ^ 5

-- the day takes the next 5 bits
abbrev pub day_of : ℕ → ℕ
day_of n = n / 2 ^ 41 % 2 ^ 5

-- the number above the day is 13 times the year, plus the month
abbrev pub month_of : ℕ → ℕ
month_of n = n / 2 ^ 46 % 13

-- the year
abbrev pub year_of : ℕ → ℕ
year_of n = n / 2 ^ 46 / 13

-- the fields of a packed TIME
abbrev pub time_fields : ℤ → TimeFields
time_fields z = let n = unsigned_abs z in record {
  is_negative = int_lt z (pos 0);
  hour = time_hour_of n;
  minute = minute_of n;
  second = second_of n;
  microsecond = microsecond_of n;
}

-- the fields of a packed DATETIME
abbrev pub datetime_fields : ℤ → DateTimeFields
datetime_fields z = let n = unsigned_abs z in record {
  is_negative = int_lt z (pos 0);
  year = year_of n;
  month = month_of n;
  day = day_of n;
  hour = hour_of n;
  minute = minute_of n;
  second = second_of n;
  microsecond = microsecond_of n;
}

-- the value of a packed TIME, whose hours become days and hours
abbrev pub time_value : ℤ → PlainValue
time_value z = let t = time_fields z in Time t.is_negative (t.hour / 24) (t.hour % 24) t.minute t.second t.microsecond

-- the value of a packed DATETIME, without its sign
abbrev pub datetime_value : ℤ → PlainValue
datetime_value z = let d = datetime_fields z in Date d.year d.month d.day d.hour d.minute d.second d.microsecond

-- ---- the bytes of packed times

-- How many bytes a fraction takes: 1 for 1 or 2 decimals, 2 for 3 or 4, 3 for 5 or 6, and 0 for
-- others.
abbrev pub fraction_width : ℕ → ℕ
fraction_width decimals = if nat_lt 6 decimals then 0 else (decimals + 1) / 2

-- how many microseconds the number 1 in a fraction of w bytes means: 10000 in one byte, 100 in two,
-- 1 in three
abbrev pub fraction_unit : ℕ → ℕ
fraction_unit w = 100 ^ (3 - w)

-- a signed fraction of w bytes, as microseconds
unfoldable pub fraction : ℕ → Format ℤ
fraction w = map_value (signed_big_endian w) (λ f. f *ℤ pos (fraction_unit w))

-- the fraction of w bytes after these seconds
abbrev pub with_microseconds : ℕ → ℤ → Format (ℤ × ℤ)
with_microseconds w seconds = map_value (fraction w) (λ microseconds. (seconds, microseconds))

-- TIMESTAMP2: the signed seconds since 1970 in four bytes, and the fraction
unfoldable pub timestamp2 : ℕ → Format (ℤ × ℤ)
timestamp2 decimals = sequence (signed_big_endian 4) (with_microseconds (fraction_width decimals))

-- A packed time that is below -2^63 gives the fault TimeRange. No sum of a DATETIME2 is above 2^63
-- - 1.
abbrev pub in_range : ℤ → Result ℤ Fault
in_range (pos n) = Ok (pos n)
in_range (negsuc n) = if nat_lt n (2 ^ 63) then Ok (negsuc n) else Err TimeRange

-- the packed DATETIME of the number in the first five bytes, of which 2^39 is subtracted, and of
-- these microseconds
abbrev pub datetime2_sum : ℕ → ℤ → Result ℤ Fault
datetime2_sum whole microseconds = in_range (packed_time (pos whole -ℤ pos (2 ^ 39)) microseconds)

-- the fraction of w bytes after these five bytes, and both together
abbrev pub datetime2_after : ℕ → ℕ → Format ℤ
datetime2_after w whole = sequence (fraction w) (λ microseconds. check (datetime2_sum whole microseconds))

-- DATETIME2: a number in five bytes, and the fraction
unfoldable pub datetime2 : ℕ → Format ℤ
datetime2 decimals = sequence (big_endian 5) (datetime2_after (fraction_width decimals))

-- TIME2 with an unsigned fraction of w bytes, up to two: 2^23 is subtracted from the number in the
-- first three bytes. A fraction that isn't 0 in a negative time counts down from the next whole
-- number: 256^w is subtracted from it.
abbrev pub time2_sum : ℕ → ℕ → ℕ → ℤ
time2_sum w whole part =
    if nat_lt whole (2 ^ 23) && nat_lt 0 part
    then packed_time (pos (whole + 1) -ℤ pos (2 ^ 23)) (pos (part * fraction_unit w) -ℤ pos (256 ^ w * fraction_unit w))
    else packed_time (pos whole -ℤ pos (2 ^ 23)) (pos (part * fraction_unit w))

-- TIME2 with 5 or 6 decimals: 2^47 is subtracted from one number in six bytes.
abbrev pub time2_of_six : Format ℤ
time2_of_six = map_value (big_endian 6) (λ n. pos n -ℤ pos (2 ^ 47))

-- the fraction of w bytes after these three bytes, and both together
abbrev pub time2_after : ℕ → ℕ → Format ℤ
time2_after w whole = map_value (big_endian w) (time2_sum w whole)

-- TIME2: six bytes for 5 or 6 decimals, else three bytes and the fraction
unfoldable pub time2 : ℕ → Format ℤ
time2 decimals = choice (fraction_width decimals == 3) time2_of_six (sequence (big_endian 3) (time2_after (fraction_width decimals)))
