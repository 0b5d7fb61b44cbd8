-- The characters that a date or time is made of, of which its text is a part.
use Rattle.std.specs.Prelude.{ℕ, ⊤, ◌≤◌, ◌+◌, ◌%◌, ◌==◌, if◌then◌else◌, min, List, ◌∷◌, ◌++◌, map}
use Rattle.binlog_decimal.specs.declared.time.MysqlTime.{MysqlTime}
use Rattle.binlog_decimal.specs.declared.time.MysqlTimestampType.{MysqlTimestampType}
use Rattle.binlog_decimal.specs.declared.time.MysqlTimestampType.TheVariants as kind
use Rattle.binlog_decimal.specs.TimeText.{two_digits, date_text, minutes_text, six_digits}

-- what stands before the hour: a minus in a time without a date, else a blank
abbrev pub before_hour : MysqlTimestampType → ℕ
before_hour kind.MYSQL_TIMESTAMP_TIME = 45
before_hour _ = 32

-- the date, the time of day, and all six digits of the fraction
unfoldable pub characters_of : MysqlTime → List ℕ
characters_of t = date_text t.year t.month t.day ++ (before_hour t.time_type ∷ (two_digits t.hour ++ (minutes_text t.minute t.second ++ (46 ∷ map (λ digit. 48 + digit) (six_digits (t.second_part % 1000000))))))

-- how many characters the point and the digits of a fraction take
abbrev pub fraction_len : ℕ → ℕ
fraction_len decimals = if decimals == 0 then 0 else 1 + min decimals 6

-- a text of this kind, with this hour, has other characters: a zone, or hours of more than two digits
abbrev pub IsLong : MysqlTimestampType → ℕ → Type 0
IsLong kind.MYSQL_TIMESTAMP_DATETIME_TZ hour = ⊤
IsLong kind.MYSQL_TIMESTAMP_TIME hour = 100 ≤ hour
IsLong _ hour = ⊥
