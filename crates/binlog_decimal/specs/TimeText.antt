-- The text of dates and times, as bytes.
use Rattle.std.specs.Prelude.{ℕ, ℤ, pos, negsuc, unsigned_abs, int_div, suc, ◌/◌, ◌%◌, nat_lt, if◌then◌else◌, min, List, [], ◌∷◌, ◌++◌, take}
use Rattle.std.specs.Fmt.{decimal, sign_text}
use Rattle.binlog_decimal.specs.DecimalText.{fraction_digits_text}
use Rattle.binlog_decimal.specs.declared.time.MysqlTime.{MysqlTime}
use Rattle.binlog_decimal.specs.declared.time.MysqlTimestampType.{MysqlTimestampType}
use Rattle.binlog_decimal.specs.declared.time.MysqlTimestampType.TheVariants as kind

-- a number as two digits; 00 if it is 100 or more
abbrev pub two_digits : ℕ → List ℕ
two_digits n = if nat_lt n 100 then decimal (n / 10) ++ decimal (n % 10) else 48 ∷ 48 ∷ []

-- a number as at least two digits
abbrev pub hours_text : ℕ → List ℕ
hours_text n = if nat_lt n 10 then 48 ∷ decimal n else decimal n

-- a signed number as at least two characters, including the minus
abbrev pub signed_hours_text : ℤ → List ℕ
signed_hours_text (pos n) = hours_text n
signed_hours_text (negsuc n) = 45 ∷ decimal (suc n)

-- a date as YYYY-MM-DD, with the year in two parts of two digits
abbrev pub date_text : ℕ → ℕ → ℕ → List ℕ
date_text year month day = two_digits (year / 100) ++ (two_digits (year % 100) ++ (45 ∷ (two_digits month ++ (45 ∷ two_digits day))))

-- the minutes and seconds as :MM:SS
abbrev pub minutes_text : ℕ → ℕ → List ℕ
minutes_text minute second = 58 ∷ (two_digits minute ++ (58 ∷ two_digits second))

-- the six digits of microseconds
abbrev pub six_digits : ℕ → List ℕ
six_digits u = (u / 100000) ∷ (u / 10000 % 10) ∷ (u / 1000 % 10) ∷ (u / 100 % 10) ∷ (u / 10 % 10) ∷ (u % 10) ∷ []

-- a point and the first `decimals` digits of the microseconds, at most six; nothing if `decimals`
-- is 0
abbrev pub fraction_text : ℕ → ℕ → List ℕ
fraction_text decimals u = fraction_digits_text (take (min decimals 6) (six_digits (u % 1000000)))

-- a plus, the hours of the displacement rounded toward zero, a colon, and its whole minutes; the
-- plus is written even before a minus
abbrev pub zone_text : ℤ → List ℕ
zone_text z = 43 ∷ (signed_hours_text (int_div z (pos 3600)) ++ (58 ∷ two_digits (unsigned_abs z / 60 % 60)))

-- a date and a time of day, with a blank between them
abbrev pub datetime_text : ℕ → MysqlTime → List ℕ
datetime_text decimals t = date_text t.year t.month t.day ++ (32 ∷ (two_digits t.hour ++ (minutes_text t.minute t.second ++ fraction_text decimals t.second_part)))

-- a time with its sign, and with all of its hours
abbrev pub time_text : ℕ → MysqlTime → List ℕ
time_text decimals t = sign_text t.neg ++ (hours_text t.hour ++ (minutes_text t.minute t.second ++ fraction_text decimals t.second_part))

-- the text of a date or time of a kind
abbrev pub text_by : MysqlTimestampType → ℕ → MysqlTime → List ℕ
text_by kind.MYSQL_TIMESTAMP_NONE decimals t = []
text_by kind.MYSQL_TIMESTAMP_ERROR decimals t = []
text_by kind.MYSQL_TIMESTAMP_DATE decimals t = date_text t.year t.month t.day
text_by kind.MYSQL_TIMESTAMP_DATETIME decimals t = datetime_text decimals t
text_by kind.MYSQL_TIMESTAMP_TIME decimals t = time_text decimals t
text_by kind.MYSQL_TIMESTAMP_DATETIME_TZ decimals t = datetime_text decimals t ++ zone_text t.time_zone_displacement

-- the text of a date or time, with `decimals` digits of the fraction
abbrev pub text_of : ℕ → MysqlTime → List ℕ
text_of decimals t = text_by t.time_type decimals t
