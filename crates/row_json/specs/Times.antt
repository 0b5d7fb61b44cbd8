-- The texts of dates and times.
use Rattle.std.specs.Prelude.{◌≡◌, ℕ, ◌+◌, ◌-◌, ◌*◌, ◌/◌, ◌%◌, ◌^◌, ◌==◌, ◌&&◌, Bool, nat_lt, nat_le, if◌then◌else◌, pos, List, [], ◌∷◌, ◌++◌, length, take, drop, codes, decimal, fold, position, Option, Some, None}
use Rattle.std.specs.Option.{option_map}
use Rattle.std.specs.List.{list_all}
use Rattle.std.specs.Bool.{MatchBool}
use Rattle.std.specs.Fmt.{sign_text}
use Rattle.binlog_decimal.specs.TimeText.{fraction_text}
use Rattle.jiff_core.specs.Calendar.{IsCivilDate, days_from_civil}

-- ---- numbers

-- at least two digits
abbrev pub two_digits : ℕ → List ℕ
two_digits n = if nat_lt n 100 then decimal (n / 10) ++ decimal (n % 10) else decimal n

-- at least four
abbrev pub four_digits : ℕ → List ℕ
four_digits n = two_digits (n / 100) ++ two_digits (n % 100)

-- ---- texts

-- YYYY-MM-DD
abbrev pub date_text : ℕ → ℕ → ℕ → List ℕ
date_text y m d = four_digits y ++ (codes "-" ++ (two_digits m ++ (codes "-" ++ two_digits d)))

-- HH:MM:SS, then a point and so many of the six digits of the fraction
abbrev pub clock_text : ℕ → ℕ → ℕ → ℕ → ℕ → List ℕ
clock_text decimals h i s u = two_digits h ++ (codes ":" ++ (two_digits i ++ (codes ":" ++ (two_digits s ++ fraction_text decimals u))))

-- both, with a character between them: a blank, or T
abbrev pub datetime_text : ℕ → ℕ → ℕ → ℕ → ℕ → ℕ → ℕ → ℕ → ℕ → List ℕ
datetime_text decimals y m d mark h i s u = date_text y m d ++ (mark ∷ clock_text decimals h i s u)

-- [-]HH:MM:SS and the fraction
abbrev pub time_text : ℕ → Bool → ℕ → ℕ → ℕ → ℕ → List ℕ
time_text decimals is_negative h i s u = sign_text is_negative ++ clock_text decimals h i s u

-- ---- seconds since 1970

-- A time so many seconds after 1970 began, in UTC: YYYY-MM-DDTHH:MM:SS, the fraction, Z.
pub record IsInstantText (decimals seconds u : ℕ) (text : List ℕ) : Type 0 where
  pub year : ℕ
  pub month : ℕ
  pub day : ℕ
  pub civil : IsCivilDate (pos year) month day
  pub days : days_from_civil (pos year) month day ≡ pos (seconds / 86400)
  pub is : text ≡ datetime_text decimals year month day 84 (seconds / 3600 % 24) (seconds / 60 % 60) (seconds % 60) u ++ codes "Z"

-- 0 seconds without a fraction is no time
abbrev pub IsTimestampText : ℕ → ℕ → ℕ → List ℕ → Type 0
IsTimestampText decimals seconds u text =
    MatchBool ((seconds == 0) && (u == 0)) (text ≡ datetime_text decimals 0 0 0 32 0 0 0 0) (IsInstantText decimals seconds u text)

-- ---- what is read of a TIMESTAMP2: the seconds, and after a point the microseconds

abbrev pub is_digit : ℕ → Bool
is_digit c = nat_le 48 c && nat_le c 57

abbrev pub digits_value : List ℕ → ℕ
digits_value ds = fold (λ n c. n * 10 + (c - 48)) 0 ds

-- the number of at least one decimal digit, and at most so many
abbrev pub number_in : ℕ → List ℕ → Option ℕ
number_in most ds = if nat_lt 0 (length ds) && nat_le (length ds) most && list_all is_digit ds then Some (digits_value ds) else None

-- seconds before 1970 stand for a number of 32 bits without a sign
abbrev pub wrapped : ℕ → ℕ
wrapped n = (2 ^ 32 - n % 2 ^ 32) % 2 ^ 32

abbrev pub seconds_in : List ℕ → Option ℕ
seconds_in [] = None
seconds_in (c ∷ cs) = if c == 45 then option_map wrapped (number_in 10 cs) else option_map (λ n. n % 2 ^ 32) (number_in 10 (c ∷ cs))

abbrev pub both : Option ℕ → Option ℕ → Option (ℕ × ℕ)
both None u = None
both (Some s) None = None
both (Some s) (Some u) = Some (s, u)

abbrev pub timestamp_by : Option ℕ → List ℕ → Option (ℕ × ℕ)
timestamp_by None text = option_map (λ s. (s, 0)) (seconds_in text)
timestamp_by (Some point) text = both (seconds_in (take point text)) (number_in 9 (drop (point + 1) text))

abbrev pub timestamp_in : List ℕ → Option (ℕ × ℕ)
timestamp_in text = timestamp_by (position (λ c. c == 46) text) text
