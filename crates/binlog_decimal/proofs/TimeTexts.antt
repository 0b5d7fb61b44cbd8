-- The texts of dates and times, as parts of their characters.
use Rattle.std.proofs.Common.{◌≡◌, ℕ, zero, suc, ◌+◌, ◌-◌, ◌/◌, ◌%◌, ◌<◌, ◌≤◌, min, Bool, true, false, List, [], ◌∷◌, ◌++◌, length, take, drop, refl, ap, sym, ◌∙◌, lit<, arith, get_or, append_assoc, append-nil}
use Rattle.std.specs.Prelude.{not, nat_lt, slice_range}
use Rattle.std.specs.Int.{from_bool}
use Rattle.std.specs.Fmt.{decimal, sign_text}
use Rattle.std.specs.Str.{IsAscii, IsUtf8}
use Rattle.std.specs.Int.Digits.{AllBelowBase}
use Rattle.std.proofs.Math.Seq.{take-append-add, drop-append_seam}
use Rattle.std.proofs.lemmas.List.{take-map, length-append}
use Rattle.std.proofs.lemmas.Bool.{ltb-true, ltb-false, lt-ltb, le-ltb, ne_eqb}
use Rattle.std.proofs.lemmas.Fmt.{decimal_digit, decimal_step}
use Rattle.std.proofs.lemmas.Str.{IsAscii-append, IsAscii-drop, IsAscii-take, IsUtf8-from_ascii}
use Rattle.binlog_decimal.specs.declared.time.MysqlTime.{MysqlTime}
use Rattle.binlog_decimal.specs.declared.time.MysqlTimestampType.{MysqlTimestampType}
use Rattle.binlog_decimal.specs.declared.time.MysqlTimestampType.TheVariants as kind
use Rattle.binlog_decimal.specs.DecimalText.{fraction_digits_text}
use Rattle.binlog_decimal.specs.TimeText.{two_digits, hours_text, date_text, minutes_text, six_digits, fraction_text, zone_text, datetime_text, time_text, text_by, text_of}
use Rattle.binlog_decimal.specs.TimeCharacters.{before_hour, characters_of, fraction_len, IsLong}
use Rattle.binlog_decimal.proofs.DecimalSteps.{below-take}
use Rattle.binlog_decimal.proofs.DigitCharacters.{chars, glyphs, IsAscii-chars}

-- two characters that are ASCII
pub record IsPair (l : List ℕ) : Type 0 where
  pub first : ℕ
  pub second : ℕ
  pub is : l ≡ first ∷ second ∷ []
  pub low : first < 128
  pub high : second < 128

pub short_pair : (n : ℕ) → n < 100 → two_digits n ≡ (48 + n / 10) ∷ (48 + n % 10) ∷ []
short_pair n lt = rw (lt-ltb n 100 lt, decimal_digit (n / 10) (omega arith), decimal_digit (n % 10) (omega arith)) refl

pub pair : (n : ℕ) → IsPair (two_digits n)
pair n = cases (nat_lt n 100) refl
  where
    cases : (v : Bool) → nat_lt n 100 ≡ v → IsPair (two_digits n)
    cases true e =
        let lt : n < 100 = ltb-true n 100 e in
        record { first = 48 + n / 10; second = 48 + n % 10; is = short_pair n lt; low = omega arith; high = omega arith }
    cases false e = record { first = 48; second = 48; is = rw e refl; low = lit< tt; high = lit< tt }

pub length-pair : (n : ℕ) → length (two_digits n) ≡ 2
length-pair n = ap length (pair n).is

-- hours of at most two digits
pub short_hours : (n : ℕ) → n < 100 → hours_text n ≡ two_digits n
short_hours n lt = cases (nat_lt n 10) refl ∙ sym (short_pair n lt)
  where
    cases : (v : Bool) → nat_lt n 10 ≡ v → hours_text n ≡ (48 + n / 10) ∷ (48 + n % 10) ∷ []
    cases true e =
        let small : n < 10 = ltb-true n 10 e in
        let none : n / 10 ≡ 0 = omega arith in
        let same : n % 10 ≡ n = omega arith in
        rw (e, none, same, decimal_digit n small) refl
    cases false e =
        let large : 10 ≤ n = ltb-false n 10 e in
        rw (e, decimal_step n large (omega arith), decimal_digit (n / 10) (omega arith)) refl

-- ---- the fraction

pub below-six : (u : ℕ) → u < 1000000 → AllBelowBase 10 (six_digits u)
below-six u lt = (omega arith, (omega arith, (omega arith, (omega arith, (omega arith, (omega arith, tt))))))

-- the point and the digits
abbrev pub tail : ℕ → List ℕ
tail u = 46 ∷ chars (six_digits (u % 1000000))

pub point_and : (k : ℕ) (ds : List ℕ) → 0 < k → 0 < length ds → AllBelowBase 10 ds → take (suc k) (46 ∷ chars ds) ≡ fraction_digits_text (take k ds)
point_and k [] some long below = absurd (omega arith)
point_and zero (d ∷ ds) some long below = absurd (omega arith)
point_and (suc k) (d ∷ ds) some long below =
    ap (λ (l : List ℕ). 46 ∷ l) (take-map (λ (d : ℕ). 48 + d) (suc k) (d ∷ ds) ∙ sym (glyphs (take (suc k) (d ∷ ds)) (below-take 10 (suc k) (d ∷ ds) below)))

pub cut_fraction : (decimals u : ℕ) → take (fraction_len decimals) (46 ∷ chars (six_digits (u % 1000000))) ≡ fraction_text decimals u
cut_fraction zero u = refl
cut_fraction (suc d) u =
    let some : 0 < min (suc d) 6 = omega arith in
    let next : 1 + min (suc d) 6 ≡ suc (min (suc d) 6) = omega arith in
    rw (ne_eqb (suc d) 0 (omega arith), next) (point_and (min (suc d) 6) (six_digits (u % 1000000)) some (lit< tt) (below-six (u % 1000000) (omega arith)))

-- ---- the parts

-- the characters, put together
pub joined : (t : MysqlTime) (century year month day : ℕ × ℕ) (before : ℕ) (hour minute second : ℕ × ℕ) (f : List ℕ)
    → century.0 ∷ century.1 ∷ [] ≡ two_digits (t.year / 100) → year.0 ∷ year.1 ∷ [] ≡ two_digits (t.year % 100) → month.0 ∷ month.1 ∷ [] ≡ two_digits t.month → day.0 ∷ day.1 ∷ [] ≡ two_digits t.day
    → before ≡ before_hour t.time_type → hour.0 ∷ hour.1 ∷ [] ≡ two_digits t.hour → minute.0 ∷ minute.1 ∷ [] ≡ two_digits t.minute → second.0 ∷ second.1 ∷ [] ≡ two_digits t.second → f ≡ chars (six_digits (t.second_part % 1000000))
    → century.0 ∷ century.1 ∷ year.0 ∷ year.1 ∷ 45 ∷ month.0 ∷ month.1 ∷ 45 ∷ day.0 ∷ day.1 ∷ before ∷ hour.0 ∷ hour.1 ∷ 58 ∷ minute.0 ∷ minute.1 ∷ 58 ∷ second.0 ∷ second.1 ∷ 46
    ∷ get_or f 0 0 ∷ get_or f 1 0 ∷ get_or f 2 0 ∷ get_or f 3 0 ∷ get_or f 4 0 ∷ get_or f 5 0 ∷ [] ≡ characters_of t
unfolding characters_of
joined t century year month day before hour minute second f c y mo d b h mi s digits = rw (digits, b, ← c, ← y, ← mo, ← d, ← h, ← mi, ← s) refl

pub cut : (xs ys zs all : List ℕ) (i j k : ℕ) → all ≡ xs ++ (ys ++ zs) → i ≡ length xs → j ≡ i + length ys + k → slice_range all i j ≡ ys ++ take k zs
cut xs ys zs all i j k parts start end =
    let many : j - i ≡ length ys + k = omega arith in
    rw (many, parts, start, drop-append_seam xs (ys ++ zs)) (take-append-add ys zs k)

pub length-date : (y m d : ℕ) → length (date_text y m d) ≡ 10
length-date y m d = rw ((pair (y / 100)).is, (pair (y % 100)).is, (pair m).is, (pair d).is) refl

pub length-minutes : (m s : ℕ) → length (minutes_text m s) ≡ 6
length-minutes m s = rw ((pair m).is, (pair s).is) refl

-- the date by itself
pub date_part : (t : MysqlTime) → slice_range (characters_of t) 0 10 ≡ date_text t.year t.month t.day
unfolding characters_of
date_part t =
    let rest = before_hour t.time_type ∷ (two_digits t.hour ++ (minutes_text t.minute t.second ++ tail t.second_part)) in
    cut [] (date_text t.year t.month t.day) rest (characters_of t) 0 10 0 refl refl (omega (arith, length-date t.year t.month t.day)) ∙ append-nil (date_text t.year t.month t.day)

-- what follows the minutes and seconds that end at a place
pub with_fraction : (front : List ℕ) (decimals : ℕ) (t : MysqlTime) → front ++ take (fraction_len decimals) (tail t.second_part) ≡ front ++ fraction_text decimals t.second_part
with_fraction front decimals t = ap (λ (l : List ℕ). front ++ l) (cut_fraction decimals t.second_part)

-- the minutes, the seconds and the fraction
pub minutes_part : (decimals : ℕ) (t : MysqlTime) → slice_range (characters_of t) 13 (19 + fraction_len decimals) ≡ minutes_text t.minute t.second ++ fraction_text decimals t.second_part
unfolding characters_of
minutes_part decimals t =
    let date = date_text t.year t.month t.day in
    let front = date ++ (before_hour t.time_type ∷ two_digits t.hour) in
    let minutes = minutes_text t.minute t.second in
    let parts : characters_of t ≡ front ++ (minutes ++ tail t.second_part) = sym (append_assoc date (before_hour t.time_type ∷ two_digits t.hour) (minutes ++ tail t.second_part)) in
    let long : 13 ≡ length front = omega (arith, length-append date (before_hour t.time_type ∷ two_digits t.hour), length-date t.year t.month t.day, length-pair t.hour) in
    cut front minutes (tail t.second_part) (characters_of t) 13 (19 + fraction_len decimals) (fraction_len decimals) parts long (omega (arith, length-minutes t.minute t.second)) ∙ with_fraction minutes decimals t

-- the time of day after what comes before the hour
pub hour_part : (decimals : ℕ) (t : MysqlTime) → slice_range (characters_of t) 11 (19 + fraction_len decimals) ≡ two_digits t.hour ++ (minutes_text t.minute t.second ++ fraction_text decimals t.second_part)
unfolding characters_of
hour_part decimals t =
    let date = date_text t.year t.month t.day in
    let front = date ++ (before_hour t.time_type ∷ []) in
    let minutes = minutes_text t.minute t.second in
    let hour = two_digits t.hour in
    let parts : characters_of t ≡ front ++ ((hour ++ minutes) ++ tail t.second_part) = simp append_assoc refl in
    let long : 11 ≡ length front = omega (arith, length-append date (before_hour t.time_type ∷ []), length-date t.year t.month t.day) in
    let all : 19 + fraction_len decimals ≡ 11 + length (hour ++ minutes) + fraction_len decimals = omega (arith, length-append hour minutes, length-pair t.hour, length-minutes t.minute t.second) in
    cut front (hour ++ minutes) (tail t.second_part) (characters_of t) 11 (19 + fraction_len decimals) (fraction_len decimals) parts long all ∙ with_fraction (hour ++ minutes) decimals t ∙ append_assoc hour minutes (fraction_text decimals t.second_part)

-- the same with what comes before the hour
pub signed_part : (decimals : ℕ) (t : MysqlTime) → slice_range (characters_of t) 10 (19 + fraction_len decimals) ≡ before_hour t.time_type ∷ (two_digits t.hour ++ (minutes_text t.minute t.second ++ fraction_text decimals t.second_part))
unfolding characters_of
signed_part decimals t =
    let date = date_text t.year t.month t.day in
    let minutes = minutes_text t.minute t.second in
    let hour = before_hour t.time_type ∷ two_digits t.hour in
    let parts : characters_of t ≡ date ++ ((hour ++ minutes) ++ tail t.second_part) = simp append_assoc refl in
    let all : 19 + fraction_len decimals ≡ 10 + length (hour ++ minutes) + fraction_len decimals = omega (arith, length-append hour minutes, length-pair t.hour, length-minutes t.minute t.second) in
    cut date (hour ++ minutes) (tail t.second_part) (characters_of t) 10 (19 + fraction_len decimals) (fraction_len decimals) parts (sym (length-date t.year t.month t.day)) all ∙ with_fraction (hour ++ minutes) decimals t ∙ append_assoc hour minutes (fraction_text decimals t.second_part)

-- all but the digits of the fraction that are left out
pub datetime_part : (decimals : ℕ) (t : MysqlTime) → before_hour t.time_type ≡ 32 → slice_range (characters_of t) 0 (19 + fraction_len decimals) ≡ datetime_text decimals t
unfolding characters_of
datetime_part decimals t blank =
    let date = date_text t.year t.month t.day in
    let minutes = minutes_text t.minute t.second in
    let hour = before_hour t.time_type ∷ two_digits t.hour in
    let front = date ++ (hour ++ minutes) in
    let parts : characters_of t ≡ front ++ tail t.second_part = simp append_assoc refl in
    let all : 19 + fraction_len decimals ≡ 0 + length front + fraction_len decimals = omega (arith, length-append date (hour ++ minutes), length-append hour minutes, length-date t.year t.month t.day, length-pair t.hour, length-minutes t.minute t.second) in
    cut [] front (tail t.second_part) (characters_of t) 0 (19 + fraction_len decimals) (fraction_len decimals) parts refl all ∙ with_fraction front decimals t
    ∙ append_assoc date (hour ++ minutes) (fraction_text decimals t.second_part)
    ∙ ap (λ (l : List ℕ). date ++ l) (append_assoc hour minutes (fraction_text decimals t.second_part))
    ∙ ap (λ (b : ℕ). date ++ (b ∷ (two_digits t.hour ++ (minutes ++ fraction_text decimals t.second_part)))) blank

-- ---- the characters are ASCII

pub IsAscii-cons : (b : ℕ) (l : List ℕ) → b < 128 → IsAscii l → IsAscii (b ∷ l)
IsAscii-cons b l low h zero = low
IsAscii-cons b l low h (suc k) = h k

pub IsAscii-pair : (n : ℕ) → IsAscii (two_digits n)
IsAscii-pair n =
    let p = pair n in
    rw p.is (IsAscii-cons p.first (p.second ∷ []) p.low (IsAscii-cons p.second [] p.high (λ k. lit< tt)))

pub low-before_hour : (k : MysqlTimestampType) → before_hour k < 128
low-before_hour kind.MYSQL_TIMESTAMP_NONE = lit< tt
low-before_hour kind.MYSQL_TIMESTAMP_ERROR = lit< tt
low-before_hour kind.MYSQL_TIMESTAMP_DATE = lit< tt
low-before_hour kind.MYSQL_TIMESTAMP_DATETIME = lit< tt
low-before_hour kind.MYSQL_TIMESTAMP_DATETIME_TZ = lit< tt
low-before_hour kind.MYSQL_TIMESTAMP_TIME = lit< tt

pub IsAscii-characters : (t : MysqlTime) → IsAscii (characters_of t)
unfolding characters_of
IsAscii-characters t =
    let fraction = IsAscii-cons 46 (chars (six_digits (t.second_part % 1000000))) (lit< tt) (IsAscii-chars (six_digits (t.second_part % 1000000)) (below-six (t.second_part % 1000000) (omega arith))) in
    let second = IsAscii-append (two_digits t.minute) (58 ∷ two_digits t.second) (IsAscii-pair t.minute) (IsAscii-cons 58 (two_digits t.second) (lit< tt) (IsAscii-pair t.second)) in
    let minutes = IsAscii-append (minutes_text t.minute t.second) (tail t.second_part) (IsAscii-cons 58 (two_digits t.minute ++ (58 ∷ two_digits t.second)) (lit< tt) second) fraction in
    let hour = IsAscii-append (two_digits t.hour) (minutes_text t.minute t.second ++ tail t.second_part) (IsAscii-pair t.hour) minutes in
    let before = IsAscii-cons (before_hour t.time_type) (two_digits t.hour ++ (minutes_text t.minute t.second ++ tail t.second_part)) (low-before_hour t.time_type) hour in
    IsAscii-append (date_text t.year t.month t.day) (before_hour t.time_type ∷ (two_digits t.hour ++ (minutes_text t.minute t.second ++ tail t.second_part))) (IsAscii-date t.year t.month t.day) before
  where
    IsAscii-date : (y m d : ℕ) → IsAscii (date_text y m d)
    IsAscii-date y m d =
        let day = IsAscii-cons 45 (two_digits d) (lit< tt) (IsAscii-pair d) in
        let month = IsAscii-cons 45 (two_digits m ++ (45 ∷ two_digits d)) (lit< tt) (IsAscii-append (two_digits m) (45 ∷ two_digits d) (IsAscii-pair m) day) in
        let year = IsAscii-append (two_digits (y % 100)) (45 ∷ (two_digits m ++ (45 ∷ two_digits d))) (IsAscii-pair (y % 100)) month in
        IsAscii-append (two_digits (y / 100)) (two_digits (y % 100) ++ (45 ∷ (two_digits m ++ (45 ∷ two_digits d)))) (IsAscii-pair (y / 100)) year

-- a time without a date, with hours of at most two digits
pub time_part : (decimals : ℕ) (t : MysqlTime) (n : ℕ) → t.time_type ≡ kind.MYSQL_TIMESTAMP_TIME → t.hour < 100 → n ≡ from_bool (not t.neg) → slice_range (characters_of t) (10 + n) (19 + fraction_len decimals) ≡ time_text decimals t
unfolding characters_of
time_part decimals t n is few plus = cases t.neg refl
  where
    cases : (v : Bool) → t.neg ≡ v → slice_range (characters_of t) (10 + n) (19 + fraction_len decimals) ≡ time_text decimals t
    cases true e =
        let at : 10 + n ≡ 10 = ap (λ (m : ℕ). 10 + m) (plus ∙ ap (λ (b : Bool). from_bool (not b)) e) in
        rw (at, e, short_hours t.hour few) (signed_part decimals t ∙ ap (λ (b : ℕ). b ∷ (two_digits t.hour ++ (minutes_text t.minute t.second ++ fraction_text decimals t.second_part))) (ap before_hour is))
    cases false e =
        let at : 10 + n ≡ 11 = ap (λ (m : ℕ). 10 + m) (plus ∙ ap (λ (b : Bool). from_bool (not b)) e) in
        rw (at, e, short_hours t.hour few) (hour_part decimals t)

pub IsUtf8-part : (all : List ℕ) (start end : ℕ) → IsAscii all → IsUtf8 (slice_range all start end)
IsUtf8-part all start end h = IsUtf8-from_ascii (slice_range all start end) (IsAscii-take (drop start all) (end - start) (IsAscii-drop all start h))

-- ---- the texts, by their kinds

pub is_of_kind : (decimals : ℕ) (t : MysqlTime) (k : MysqlTimestampType) (text : List ℕ) → t.time_type ≡ k → text ≡ text_by k decimals t → text ≡ text_of decimals t
is_of_kind decimals t k text is e = e ∙ ap (λ (k : MysqlTimestampType). text_by k decimals t) (sym is)

pub is_date : (decimals : ℕ) (t : MysqlTime) → t.time_type ≡ kind.MYSQL_TIMESTAMP_DATE → slice_range (characters_of t) 0 10 ≡ text_of decimals t
is_date decimals t is = is_of_kind decimals t kind.MYSQL_TIMESTAMP_DATE (slice_range (characters_of t) 0 10) is (date_part t)

pub is_datetime : (decimals : ℕ) (t : MysqlTime) (n : ℕ) → t.time_type ≡ kind.MYSQL_TIMESTAMP_DATETIME → n ≡ fraction_len decimals → slice_range (characters_of t) 0 (19 + n) ≡ text_of decimals t
is_datetime decimals t n is end = is_of_kind decimals t kind.MYSQL_TIMESTAMP_DATETIME (slice_range (characters_of t) 0 (19 + n)) is (rw end (datetime_part decimals t (ap before_hour is)))

pub is_time : (decimals : ℕ) (t : MysqlTime) (m n : ℕ) → t.time_type ≡ kind.MYSQL_TIMESTAMP_TIME → t.hour < 100 → m ≡ from_bool (not t.neg) → n ≡ fraction_len decimals → slice_range (characters_of t) (10 + m) (19 + n) ≡ text_of decimals t
is_time decimals t m n is few plus end = is_of_kind decimals t kind.MYSQL_TIMESTAMP_TIME (slice_range (characters_of t) (10 + m) (19 + n)) is (rw end (time_part decimals t m is few plus))

pub is_zoned : (decimals : ℕ) (t : MysqlTime) (n : ℕ) (all text : List ℕ) → t.time_type ≡ kind.MYSQL_TIMESTAMP_DATETIME_TZ → n ≡ fraction_len decimals → all ≡ characters_of t → text ≡ slice_range all 0 (19 + n) → text ++ zone_text t.time_zone_displacement ≡ text_of decimals t
is_zoned decimals t n all text is end of e =
    is_of_kind decimals t kind.MYSQL_TIMESTAMP_DATETIME_TZ (text ++ zone_text t.time_zone_displacement) is (ap (λ (l : List ℕ). l ++ zone_text t.time_zone_displacement) (e ∙ rw (of, end) (datetime_part decimals t (ap before_hour is))))

pub is_long : (decimals : ℕ) (t : MysqlTime) (n : ℕ) (all text : List ℕ) → t.time_type ≡ kind.MYSQL_TIMESTAMP_TIME → 100 ≤ t.hour → n ≡ fraction_len decimals → all ≡ characters_of t → text ≡ slice_range all 13 (19 + n) → sign_text t.neg ++ (decimal t.hour ++ text) ≡ text_of decimals t
is_long decimals t n all text is many end of e =
    let hours : decimal t.hour ≡ hours_text t.hour = rw (le-ltb t.hour 10 (omega arith)) refl in
    is_of_kind decimals t kind.MYSQL_TIMESTAMP_TIME (sign_text t.neg ++ (decimal t.hour ++ text)) is
    (ap (λ (l : List ℕ). sign_text t.neg ++ (l ++ text)) hours ∙ ap (λ (l : List ℕ). sign_text t.neg ++ (hours_text t.hour ++ l)) (e ∙ rw (of, end) (minutes_part decimals t)))

-- ---- the empty text

some_byte : (front rest : List ℕ) (b : ℕ) → front ++ (b ∷ rest) ≡ [] → ⊥
some_byte [] rest b h = cc
some_byte (x ∷ front) rest b h = cc

-- a text with other characters isn't empty
pub long_is_some : (decimals : ℕ) (t : MysqlTime) (k : MysqlTimestampType) → t.time_type ≡ k → IsLong k t.hour → text_of decimals t ≡ [] → ⊥
long_is_some decimals t kind.MYSQL_TIMESTAMP_NONE is long empty = long
long_is_some decimals t kind.MYSQL_TIMESTAMP_ERROR is long empty = long
long_is_some decimals t kind.MYSQL_TIMESTAMP_DATE is long empty = long
long_is_some decimals t kind.MYSQL_TIMESTAMP_DATETIME is long empty = long
long_is_some decimals t kind.MYSQL_TIMESTAMP_DATETIME_TZ is long empty =
    let text : datetime_text decimals t ++ zone_text t.time_zone_displacement ≡ [] = ap (λ (k : MysqlTimestampType). text_by k decimals t) (sym is) ∙ empty in
    some_byte (datetime_text decimals t) _ 43 text
long_is_some decimals t kind.MYSQL_TIMESTAMP_TIME is long empty =
    let text : time_text decimals t ≡ [] = ap (λ (k : MysqlTimestampType). text_by k decimals t) (sym is) ∙ empty in
    some_byte (sign_text t.neg ++ hours_text t.hour) _ 58 (append_assoc (sign_text t.neg) (hours_text t.hour) (minutes_text t.minute t.second ++ fraction_text decimals t.second_part) ∙ text)
