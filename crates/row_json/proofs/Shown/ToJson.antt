-- Values of one column that show the same have the same JSON.
use Rattle.std.proofs.Common.{◌≡◌, ℕ, zero, suc, ◌+◌, ◌-◌, ◌*◌, ◌/◌, ◌%◌, ◌^◌, ◌≤◌, ◌==◌, ◌&&◌, min, Bool, true, false, ℤ, pos, List, [], ◌∷◌, ◌++◌, take, length, refl, sym, ap, ◌∙◌, subst, arith}
use Rattle.std.specs.Prelude.{Option, Some, None, codes, decimal, if◌then◌else◌, nat_lt, unsigned_abs, from_bits}
use Rattle.std.specs.Fmt.{signed_decimal, sign_text}
use Rattle.std.specs.Str.{bytes_eq, is_utf8}
use Rattle.std.proofs.lemmas.Fmt.{decimal_digit}
use Rattle.std.proofs.lemmas.Str.{is_utf8-from_IsUtf8, encode_ascii}
use Rattle.std.specs.Bool.{MatchBool}
use Rattle.std.specs.Float.{Float as FloatValue, nan, inf, fin, Format, binary32, binary64, float_is_finite}
use lib.Ieee.{is_nan}
use Rattle.byteorder.specs.Endian.{little_number, big_number}
use Rattle.binlog_base.specs.Values.{PlainValue, Null, Bytes, Int, UInt, Float, Double, Date, Time}
use Rattle.binlog_decimal.specs.DecimalText.{fraction_digits_text}
use Rattle.binlog_decimal.specs.TimeText.{six_digits, fraction_text}
use Rattle.jiff_core.specs.Calendar.{days_from_civil}
use Rattle.json.specs.Json.{Json, number, string}
use Rattle.json.specs.Word.{after_number}
use Rattle.row_json.specs.declared.kind.Kind.{Kind}
use Rattle.row_json.specs.declared.kind.Kind.TheVariants as kind
use Rattle.row_json.specs.declared.charset.Charset.TheVariants.{Utf8mb4}
use Rattle.row_json.specs.Charsets.{text_in}
use Rattle.row_json.specs.Columns.{Column}
use Rattle.row_json.specs.Floats.{IsFloatJson, IsNumberOf, special_text}
use Rattle.row_json.specs.Times.{timestamp_in, IsInstantText, two_digits, date_text, clock_text, datetime_text, time_text}
use Rattle.row_json.specs.Values.{base64_json, padded, text_json, number_or_bytes, number_json, string_or_number, set_of_bits, set_json, name_of, IsTimestampJson, IsTimestampOrText, IsBytesJson, IsIntJson, IsPlainJson, date_by, time_by}
use Rattle.row_json.specs.Shown.{Shown, shown_fraction, shown_instant, shown_timestamp, shown_bytes, shown_number, name_or_number, shown_set, shown_int, shown_float, shown_date, shown_time, shown_plain, shown, AreAlike}
use Rattle.row_json.specs.Shown as show

-- ---- fractions

first : (u v : ℕ) → u / 10000 ≡ v / 10000 → u / 100000 ≡ v / 100000
first u v h = omega arith

second : (u v : ℕ) → u / 1000 ≡ v / 1000 → u / 10000 ≡ v / 10000
second u v h = omega arith

third : (u v : ℕ) → u / 100 ≡ v / 100 → u / 1000 ≡ v / 1000
third u v h = omega arith

fourth : (u v : ℕ) → u / 10 ≡ v / 10 → u / 100 ≡ v / 100
fourth u v h = omega arith

fifth : (u v : ℕ) → u / 1 ≡ v / 1 → u / 10 ≡ v / 10
fifth u v h = omega arith

last : (u v : ℕ) → u / 1 ≡ v / 1 → u ≡ v
last u v h = omega arith

digits : (k u v : ℕ) → k ≤ 6 → u / 10 ^ (6 - k) ≡ v / 10 ^ (6 - k) → take k (six_digits u) ≡ take k (six_digits v)
digits zero u v h e = refl
digits (suc zero) u v h e = cc
digits (suc (suc zero)) u v h e = cc (first u v e)
digits (suc (suc (suc zero))) u v h e = cc (second u v e, first u v (second u v e))
digits (suc (suc (suc (suc zero)))) u v h e = cc (third u v e, second u v (third u v e), first u v (second u v (third u v e)))
digits (suc (suc (suc (suc (suc zero))))) u v h e = cc (fourth u v e, third u v (fourth u v e), second u v (third u v (fourth u v e)), first u v (second u v (third u v (fourth u v e))))
digits (suc (suc (suc (suc (suc (suc zero)))))) u v h e = ap six_digits (last u v e)
digits (suc (suc (suc (suc (suc (suc (suc k))))))) u v h e = absurd (omega arith)

fractions : (n u v : ℕ) → shown_fraction n u ≡ shown_fraction n v → fraction_text n u ≡ fraction_text n v
fractions n u v e = ap fraction_digits_text (digits (min n 6) (u % 1000000) (v % 1000000) (omega arith) e)

clocks : (n h i s u v : ℕ) → shown_fraction n u ≡ shown_fraction n v → clock_text n h i s u ≡ clock_text n h i s v
clocks n h i s u v e = ap (λ (f : List ℕ). two_digits h ++ (58 ∷ (two_digits i ++ (58 ∷ (two_digits s ++ f))))) (fractions n u v e)

datetimes : (n y m d mark h i s u v : ℕ) → shown_fraction n u ≡ shown_fraction n v → datetime_text n y m d mark h i s u ≡ datetime_text n y m d mark h i s v
datetimes n y m d mark h i s u v e = ap (λ (c : List ℕ). date_text y m d ++ (mark ∷ c)) (clocks n h i s u v e)

none : (u : ℕ) → shown_fraction 0 u ≡ 0
none u = omega arith

-- ---- bytes

zero_is_utf8 : is_utf8 (codes "0") ≡ true
zero_is_utf8 = is_utf8-from_IsUtf8 (codes "0") (48 ∷ [], (refl, ap (λ (l : List ℕ). l ++ []) (encode_ascii 48 (omega arith))))

zero_year : number (decimal 0) ≡ number_or_bytes (codes "0") (text_in Utf8mb4 (codes "0"))
unfolding after_number
zero_year = ap number (decimal_digit 0 (omega arith)) ∙ sym (ap (λ (p : Bool). number_or_bytes (codes "0") (if p then Some (codes "0") else None)) zero_is_utf8)

years : (x y : List ℕ) (p q : Bool) → (if p then show.bytes (codes "0") else show.bytes x) ≡ (if q then show.bytes (codes "0") else show.bytes y) →
    (if p then number (decimal 0) else number_or_bytes x (text_in Utf8mb4 x)) ≡ (if q then number (decimal 0) else number_or_bytes y (text_in Utf8mb4 y))
years x y true true e = refl
years x y true false e = let zero_text : codes "0" ≡ y = cc in subst (λ (z : List ℕ). number (decimal 0) ≡ number_or_bytes z (text_in Utf8mb4 z)) zero_text zero_year
years x y false true e = let zero_text : x ≡ codes "0" = cc in subst (λ (z : List ℕ). number_or_bytes z (text_in Utf8mb4 z) ≡ number (decimal 0)) (sym zero_text) (sym zero_year)
years x y false false e = let same : x ≡ y = cc in ap (λ (z : List ℕ). number_or_bytes z (text_in Utf8mb4 z)) same

-- by lengths, as numbers or in base64
by_length : (j : List ℕ → Json) (of : List ℕ → Shown) (x y : List ℕ) (p q : Bool) → ((z b : List ℕ) → of z ≡ show.bytes b → ⊥) → (of x ≡ of y → j x ≡ j y) →
    (if p then show.bytes x else of x) ≡ (if q then show.bytes y else of y) → (if p then base64_json x else j x) ≡ (if q then base64_json y else j y)
by_length j of x y true true apart same e = let bytes : x ≡ y = cc in ap base64_json bytes
by_length j of x y true false apart same e = absurd (apart y x (sym e))
by_length j of x y false true apart same e = absurd (apart x y e)
by_length j of x y false false apart same e = same e

bits : (x y : List ℕ) → shown_number (λ b. show.number (pos (big_number (length b) b))) x ≡ shown_number (λ b. show.number (pos (big_number (length b) b))) y →
    number_json (λ b. big_number (length b) b) x ≡ number_json (λ b. big_number (length b) b) y
bits x y e = by_length (λ b. number (decimal (big_number (length b) b))) (λ b. show.number (pos (big_number (length b) b))) x y (nat_lt 8 (length x)) (nat_lt 8 (length y)) (λ z b f. cc)
    (λ f. let same : big_number (length x) x ≡ big_number (length y) y = cc in ap (λ (n : ℕ). number (decimal n)) same) e

names : (m n : ℕ) (s t : Option (List ℕ)) → name_or_number m s ≡ name_or_number n t → string_or_number m s ≡ string_or_number n t
names m n None None e = let same : m ≡ n = cc in ap (λ (k : ℕ). number (decimal k)) same
names m n None (Some t) e = absurd (cc)
names m n (Some s) None e = absurd (cc)
names m n (Some s) (Some t) e = cc

name_not_bytes : (n : ℕ) (s : Option (List ℕ)) (b : List ℕ) → name_or_number n s ≡ show.bytes b → ⊥
name_not_bytes n None b e = cc
name_not_bytes n (Some s) b e = cc

sets : (ns : List (Option (List ℕ))) (x y : List ℕ) → shown_number (λ b. shown_set ns (little_number (length b) b)) x ≡ shown_number (λ b. shown_set ns (little_number (length b) b)) y →
    set_json ns x ≡ set_json ns y
sets ns x y e = by_length (λ b. set_of_bits ns (little_number (length b) b)) (λ b. shown_set ns (little_number (length b) b)) x y (nat_lt 8 (length x)) (nat_lt 8 (length y))
    (λ z b. name_not_bytes (little_number (length z) z) _ b) (names (little_number (length x) x) (little_number (length y) y) _ _) e

enums : (m n : ℕ) (s t : Option (List ℕ)) (p q : Bool) → (if p then show.name [] else name_or_number m s) ≡ (if q then show.name [] else name_or_number n t) →
    (if p then string [] else string_or_number m s) ≡ (if q then string [] else string_or_number n t)
enums m n s t true true e = refl
enums m n s None true false e = absurd (cc)
enums m n s (Some t) true false e = cc
enums m n None t false true e = absurd (cc)
enums m n (Some s) t false true e = cc
enums m n s t false false e = names m n s t e

enum_number : (m n : ℕ) (s : Option (List ℕ)) (p : Bool) → (if p then show.name [] else name_or_number m s) ≡ show.number (pos n) → (if p then string [] else string_or_number m s) ≡ number (decimal n)
enum_number m n s true e = absurd (cc)
enum_number m n None false e = let same : m ≡ n = cc in ap (λ (k : ℕ). number (decimal k)) same
enum_number m n (Some s) false e = absurd (cc)

-- ---- timestamps

instants : (n s u t v : ℕ) (text : List ℕ) → s ≡ t → shown_fraction n u ≡ shown_fraction n v → IsInstantText n s u text → IsInstantText n t v text
instants n s u t v text same fraction a =
    record {
      year = a.year;
      month = a.month;
      day = a.day;
      civil = a.civil;
      days = subst (λ (r : ℕ). days_from_civil (pos a.year) a.month a.day ≡ pos (r / 86400)) same a.days;
      is = subst (λ (r : ℕ). text ≡ datetime_text n a.year a.month a.day 84 (r / 3600 % 24) (r / 60 % 60) (r % 60) v ++ codes "Z") same
          (a.is ∙ ap (λ (l : List ℕ). l ++ codes "Z") (datetimes n a.year a.month a.day 84 (s / 3600 % 24) (s / 60 % 60) (s % 60) u v fraction));
    }

timestamps_by : (n s u t v : ℕ) (p q : Bool) (text : List ℕ) → (if p then show.no_instant else show.instant s (shown_fraction n u)) ≡ (if q then show.no_instant else show.instant t (shown_fraction n v)) →
    MatchBool p (text ≡ datetime_text n 0 0 0 32 0 0 0 0) (IsInstantText n s u text) → MatchBool q (text ≡ datetime_text n 0 0 0 32 0 0 0 0) (IsInstantText n t v text)
timestamps_by n s u t v true true text e a = a
timestamps_by n s u t v true false text e a = absurd (cc (e))
timestamps_by n s u t v false true text e a = absurd (cc (e))
timestamps_by n s u t v false false text e a = instants n s u t v text (cc (e)) (cc (e)) a

timestamp_json : (n s u t v : ℕ) (j : Json) → shown_instant n s u ≡ shown_instant n t v → IsTimestampJson n s u j → IsTimestampJson n t v j
timestamp_json n s u t v j e a = (a.0, timestamps_by n s u t v ((s == 0) && (u == 0)) ((t == 0) && (v == 0)) a.0 e a.1, a.2)

not_bytes : (n s u : ℕ) (b : List ℕ) → show.bytes b ≡ shown_instant n s u → ⊥
not_bytes n s u b e = by ((s == 0) && (u == 0)) e
  where
    by : (p : Bool) → show.bytes b ≡ (if p then show.no_instant else show.instant s (shown_fraction n u)) → ⊥
    by true f = cc
    by false f = cc

timestamps : (n : ℕ) (x y : List ℕ) (s t : Option (ℕ × ℕ)) (j : Json) → shown_timestamp n x s ≡ shown_timestamp n y t → IsTimestampOrText n x s j → IsTimestampOrText n y t j
timestamps n x y None None j e a = let same : x ≡ y = cc (e) in a ∙ ap (text_json Utf8mb4) same
timestamps n x y None (Some t) j e a = absurd (not_bytes n t.0 t.1 x e)
timestamps n x y (Some s) None j e a = absurd (not_bytes n s.0 s.1 y (sym e))
timestamps n x y (Some s) (Some t) j e a = timestamp_json n s.0 s.1 t.0 t.1 j e a

-- ---- values

bytes_json : (c : Column) (k : Kind) (x y : List ℕ) (j : Json) → shown_bytes c k x ≡ shown_bytes c k y → IsBytesJson c k x j → IsBytesJson c k y j
bytes_json c (kind.Text charset) x y j e a = let same : x ≡ y = cc in a ∙ ap (text_json charset) same
bytes_json c kind.Year x y j e a = a ∙ years x y (bytes_eq x (codes "1900")) (bytes_eq y (codes "1900")) e
bytes_json c kind.Bits x y j e a = a ∙ bits x y e
bytes_json c kind.Set x y j e a = a ∙ sets c.names x y e
bytes_json c (kind.Timestamp n) x y j e a = timestamps n x y (timestamp_in x) (timestamp_in y) j e a
bytes_json c (kind.Binary n) x y j e a = let same : padded n x ≡ padded n y = cc in a ∙ ap base64_json same
bytes_json c _ x y j e a = let same : x ≡ y = cc in a ∙ ap base64_json same

ints_json : (c : Column) (k : Kind) (y z : ℤ) (j : Json) → shown_int c k y ≡ shown_int c k z → IsIntJson c k y j → IsIntJson c k z j
ints_json c (kind.Timestamp n) y z j e a = timestamp_json n (unsigned_abs y % 2 ^ 32) 0 (unsigned_abs z % 2 ^ 32) 0 j e a
ints_json c kind.Enum y z j e a = a ∙ enums (unsigned_abs y) (unsigned_abs z) (name_of c.names (unsigned_abs y)) (name_of c.names (unsigned_abs z)) (unsigned_abs y == 0) (unsigned_abs z == 0) e
ints_json c _ y z j e a = let same : y ≡ z = cc in a ∙ ap (λ (x : ℤ). number (signed_decimal x)) same

not_number : (p : Bool) (s f n : ℕ) → (if p then show.no_instant else show.instant s f) ≡ show.number (pos n) → ⊥
not_number true s f n e = cc
not_number false s f n e = cc

int_json : (c : Column) (k : Kind) (z : ℤ) (n : ℕ) (j : Json) → shown_int c k z ≡ show.number (pos n) → IsIntJson c k z j → j ≡ number (decimal n)
int_json c (kind.Timestamp d) z n j e a = absurd (not_number ((unsigned_abs z % 2 ^ 32 == 0) && (0 == 0)) (unsigned_abs z % 2 ^ 32) (shown_fraction d 0) n e)
int_json c kind.Enum z n j e a = a ∙ enum_number (unsigned_abs z) n (name_of c.names (unsigned_abs z)) (unsigned_abs z == 0) e
int_json c _ z n j e a = let same : z ≡ pos n = cc in a ∙ ap (λ (x : ℤ). number (signed_decimal x)) same

uint_json : (c : Column) (k : Kind) (z : ℤ) (n : ℕ) (j : Json) → shown_int c k z ≡ show.number (pos n) → j ≡ number (decimal n) → IsIntJson c k z j
uint_json c (kind.Timestamp d) z n j e a = absurd (not_number ((unsigned_abs z % 2 ^ 32 == 0) && (0 == 0)) (unsigned_abs z % 2 ^ 32) (shown_fraction d 0) n e)
uint_json c kind.Enum z n j e a = a ∙ sym (enum_number (unsigned_abs z) n (name_of c.names (unsigned_abs z)) (unsigned_abs z == 0) e)
uint_json c _ z n j e a = let same : z ≡ pos n = cc in a ∙ sym (ap (λ (x : ℤ). number (signed_decimal x)) same)

only_nan : (x : FloatValue) → is_nan x ≡ true → x ≡ nan
unfolding is_nan
only_nan nan e = refl
only_nan (inf s) e = absurd (cc)
only_nan (fin s m p) e = absurd (cc)

float_bits : (f : Format) (x y : ℕ) (p q : Bool) → is_nan (from_bits f x) ≡ p → is_nan (from_bits f y) ≡ q → (if p then show.not_a_number else show.float x) ≡ (if q then show.not_a_number else show.float y) →
    from_bits f x ≡ from_bits f y
float_bits f x y true true hp hq e = only_nan (from_bits f x) hp ∙ sym (only_nan (from_bits f y) hq)
float_bits f x y true false hp hq e = absurd (cc (e))
float_bits f x y false true hp hq e = absurd (cc (e))
float_bits f x y false false hp hq e = let same : x ≡ y = cc (e) in ap (from_bits f) same

IsFloatValueJson : Format → Json → FloatValue → Type 0
IsFloatValueJson f j x = MatchBool (float_is_finite x) (IsNumberOf f x j) (j ≡ string (special_text x))

float_json : (f : Format) (x y : ℕ) (j : Json) → shown_float f x ≡ shown_float f y → IsFloatJson f x j → IsFloatJson f y j
unfolding IsFloatValueJson
float_json f x y j e a = subst (IsFloatValueJson f j) (float_bits f x y (is_nan (from_bits f x)) (is_nan (from_bits f y)) refl refl e) a

-- the text of what is shown, with this text of the fraction
clock_with : List ℕ → ℕ → ℕ → ℕ → List ℕ
clock_with f h i s = two_digits h ++ (58 ∷ (two_digits i ++ (58 ∷ (two_digits s ++ f))))

text_with : List ℕ → Shown → List ℕ
unfolding clock_with
text_with f (show.date y m d) = date_text y m d
text_with f (show.datetime y m d h i s u) = date_text y m d ++ (32 ∷ clock_with f h i s)
text_with f (show.time p h i s u) = sign_text p ++ clock_with f h i s
text_with f _ = []

dates_by_fields : (n y m d h i s u y₂ m₂ d₂ h₂ i₂ s₂ u₂ : ℕ) (j : Json) → show.datetime y m d h i s (shown_fraction n u) ≡ show.datetime y₂ m₂ d₂ h₂ i₂ s₂ (shown_fraction n u₂) →
    j ≡ string (datetime_text n y m d 32 h i s u) → j ≡ string (datetime_text n y₂ m₂ d₂ 32 h₂ i₂ s₂ u₂)
unfolding text_with clock_with
dates_by_fields n y m d h i s u y₂ m₂ d₂ h₂ i₂ s₂ u₂ j e a =
    a ∙ ap string (datetimes n y m d 32 h i s u u₂ (cc (e)) ∙ ap (text_with (fraction_text n u₂)) e)

times_by_fields : (n : ℕ) (p q : Bool) (h i s u h₂ i₂ s₂ u₂ : ℕ) (j : Json) → show.time p h i s (shown_fraction n u) ≡ show.time q h₂ i₂ s₂ (shown_fraction n u₂) →
    j ≡ string (time_text n p h i s u) → j ≡ string (time_text n q h₂ i₂ s₂ u₂)
unfolding text_with clock_with
times_by_fields n p q h i s u h₂ i₂ s₂ u₂ j e a =
    a ∙ ap string (ap (λ (c : List ℕ). sign_text p ++ c) (clocks n h i s u u₂ (cc (e))) ∙ ap (text_with (fraction_text n u₂)) e)

dates_json : (k : Kind) (y m d h i s u y₂ m₂ d₂ h₂ i₂ s₂ u₂ : ℕ) (j : Json) → shown_date k y m d h i s u ≡ shown_date k y₂ m₂ d₂ h₂ i₂ s₂ u₂ →
    j ≡ string (date_by k y m d h i s u) → j ≡ string (date_by k y₂ m₂ d₂ h₂ i₂ s₂ u₂)
unfolding text_with
dates_json kind.Date y m d h i s u y₂ m₂ d₂ h₂ i₂ s₂ u₂ j e a = a ∙ ap (λ (t : Shown). string (text_with [] t)) e
dates_json (kind.Datetime n) y m d h i s u y₂ m₂ d₂ h₂ i₂ s₂ u₂ j e a = dates_by_fields n y m d h i s u y₂ m₂ d₂ h₂ i₂ s₂ u₂ j e a
dates_json _ y m d h i s u y₂ m₂ d₂ h₂ i₂ s₂ u₂ j e a = dates_by_fields 0 y m d h i s u y₂ m₂ d₂ h₂ i₂ s₂ u₂ j
    (ap (show.datetime y m d h i s) (none u) ∙ (e ∙ ap (show.datetime y₂ m₂ d₂ h₂ i₂ s₂) (sym (none u₂)))) a

times_json : (k : Kind) (p q : Bool) (h i s u h₂ i₂ s₂ u₂ : ℕ) (j : Json) → shown_time k p h i s u ≡ shown_time k q h₂ i₂ s₂ u₂ → j ≡ string (time_by k p h i s u) → j ≡ string (time_by k q h₂ i₂ s₂ u₂)
times_json (kind.Time n) p q h i s u h₂ i₂ s₂ u₂ j e a = times_by_fields n p q h i s u h₂ i₂ s₂ u₂ j e a
times_json _ p q h i s u h₂ i₂ s₂ u₂ j e a = times_by_fields 0 p q h i s u h₂ i₂ s₂ u₂ j
    (ap (show.time p h i s) (none u) ∙ (e ∙ ap (show.time q h₂ i₂ s₂) (sym (none u₂)))) a

-- ---- NULL

bytes_shown : (p : Bool) (x y : List ℕ) → show.null ≡ (if p then show.bytes x else show.bytes y) → ⊥
bytes_shown true x y e = cc
bytes_shown false x y e = cc

name_shown : (n : ℕ) (s : Option (List ℕ)) → show.null ≡ name_or_number n s → ⊥
name_shown n None e = cc
name_shown n (Some s) e = cc

either_shown : (p : Bool) (x y : Shown) → (show.null ≡ x → ⊥) → (show.null ≡ y → ⊥) → show.null ≡ (if p then x else y) → ⊥
either_shown true x y hx hy e = hx e
either_shown false x y hx hy e = hy e

instant_shown : (n s u : ℕ) → show.null ≡ shown_instant n s u → ⊥
instant_shown n s u e = either_shown ((s == 0) && (u == 0)) show.no_instant (show.instant s (shown_fraction n u)) (λ f. cc) (λ f. cc) e

timestamp_shown : (n : ℕ) (x : List ℕ) (s : Option (ℕ × ℕ)) → show.null ≡ shown_timestamp n x s → ⊥
timestamp_shown n x None e = cc
timestamp_shown n x (Some s) e = instant_shown n s.0 s.1 e

not_null : (c : Column) (k : Kind) (x : List ℕ) → show.null ≡ shown_bytes c k x → ⊥
not_null c kind.Year x e = bytes_shown (bytes_eq x (codes "1900")) (codes "0") x e
not_null c kind.Bits x e = either_shown (nat_lt 8 (length x)) (show.bytes x) (show.number (pos (big_number (length x) x))) (λ f. cc) (λ f. cc) e
not_null c kind.Set x e = either_shown (nat_lt 8 (length x)) (show.bytes x) (shown_set c.names (little_number (length x) x)) (λ f. cc) (name_shown (little_number (length x) x) _) e
not_null c (kind.Timestamp n) x e = timestamp_shown n x (timestamp_in x) e
not_null c _ x e = cc

int_not_null : (c : Column) (k : Kind) (z : ℤ) → show.null ≡ shown_int c k z → ⊥
int_not_null c (kind.Timestamp n) z e = instant_shown n (unsigned_abs z % 2 ^ 32) 0 e
int_not_null c kind.Enum z e = either_shown (unsigned_abs z == 0) (show.name []) (name_or_number (unsigned_abs z) (name_of c.names (unsigned_abs z))) (λ f. cc) (name_shown (unsigned_abs z) _) e
int_not_null c _ z e = cc

float_not_null : (f : Format) (x : ℕ) → show.null ≡ shown_float f x → ⊥
float_not_null f x e = either_shown (is_nan (from_bits f x)) show.not_a_number (show.float x) (λ g. cc) (λ g. cc) e

date_not_null : (k : Kind) (y m d h i s u : ℕ) → show.null ≡ shown_date k y m d h i s u → ⊥
date_not_null kind.Date y m d h i s u e = cc
date_not_null (kind.Datetime n) y m d h i s u e = cc
date_not_null _ y m d h i s u e = cc

time_not_null : (k : Kind) (p : Bool) (h i s u : ℕ) → show.null ≡ shown_time k p h i s u → ⊥
time_not_null (kind.Time n) p h i s u e = cc
time_not_null _ p h i s u e = cc

only_null : (c : Column) (v : PlainValue) → show.null ≡ shown_plain c v → v ≡ Null
only_null c Null e = refl
only_null c (Bytes x) e = absurd (not_null c c.kind x e)
only_null c (Int z) e = absurd (int_not_null c c.kind z e)
only_null c (UInt n) e = absurd (cc)
only_null c (Float x) e = absurd (float_not_null binary32 x e)
only_null c (Double x) e = absurd (float_not_null binary64 x e)
only_null c (Date y m d h i s u) e = absurd (date_not_null c.kind y m d h i s u e)
only_null c (Time p d h i s u) e = absurd (time_not_null c.kind p (d * 24 + h) i s u e)

-- ---- all values

pub plain_json : (c : Column) (v w : PlainValue) (j : Json) → AreAlike v w → shown_plain c v ≡ shown_plain c w → IsPlainJson c v j → IsPlainJson c w j
plain_json c Null w j alike e a = subst (λ v. IsPlainJson c v j) (sym (only_null c w e)) a
plain_json c v Null j alike e a = subst (λ v. IsPlainJson c v j) (only_null c v (sym e)) a
plain_json c (Bytes x) (Bytes y) j alike e a = bytes_json c c.kind x y j e a
plain_json c (Int y) (Int z) j alike e a = ints_json c c.kind y z j e a
plain_json c (Int z) (UInt n) j alike e a = int_json c c.kind z n j e a
plain_json c (UInt n) (Int z) j alike e a = uint_json c c.kind z n j (sym e) a
plain_json c (UInt m) (UInt n) j alike e a = let same : m ≡ n = cc (e) in a ∙ ap (λ (k : ℕ). number (decimal k)) same
plain_json c (Float x) (Float y) j alike e a = float_json binary32 x y j e a
plain_json c (Double x) (Double y) j alike e a = float_json binary64 x y j e a
plain_json c (Date y m d h i s u) (Date y₂ m₂ d₂ h₂ i₂ s₂ u₂) j alike e a = dates_json c.kind y m d h i s u y₂ m₂ d₂ h₂ i₂ s₂ u₂ j e a
plain_json c (Time p d h i s u) (Time q d₂ h₂ i₂ s₂ u₂) j alike e a = times_json c.kind p q (d * 24 + h) i s u (d₂ * 24 + h₂) i₂ s₂ u₂ j e a
plain_json c _ _ j alike e a = absurd alike
