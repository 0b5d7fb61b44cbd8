-- Values of one column with the same JSON show the same.
use Rattle.std.proofs.Common.{◌≡◌, ℕ, ◌+◌, ◌*◌, ◌/◌, ◌%◌, ◌^◌, ◌<◌, ◌≤◌, ◌==◌, ◌&&◌, Bool, true, false, ℤ, pos, List, [], ◌∷◌, ◌++◌, length, refl, sym, ap, ◌∙◌, subst, append_assoc, arith}
use Rattle.std.specs.Prelude.{All, Option, Some, None, codes, decimal, if◌then◌else◌, nat_lt, unsigned_abs, from_bits, is_nan}
use Rattle.std.specs.Str.{bytes_eq}
use Rattle.std.specs.Bool.{MatchBool}
use Rattle.std.proofs.lemmas.List.{append-nil}
use Rattle.std.proofs.lemmas.List.Elements.{All-head, All-tail}
use Rattle.std.specs.Float.{Float as FloatValue, Format, binary32, binary64, float_is_finite}
use Rattle.byteorder.specs.Endian.{little_number, big_number}
use Rattle.binlog_base.specs.Numbers.{AreBytes}
use Rattle.binlog_base.specs.Values.{PlainValue, Null, Bytes, Int, UInt, Float, Double, Date, Time}
use Rattle.json.specs.Json.{Json, null, number, string}
use Rattle.json.specs.Word.{after_number}
use Rattle.row_json.specs.declared.kind.Kind.{Kind}
use Rattle.row_json.specs.declared.kind.Kind.TheVariants as kind
use Rattle.row_json.specs.declared.charset.Charset.TheVariants.{Utf8mb4}
use Rattle.row_json.specs.Charsets.{text_in}
use Rattle.row_json.specs.Columns.{Column}
use Rattle.row_json.specs.Floats.{IsFloatJson, IsNumberOf, special_text}
use Rattle.row_json.specs.Times.{timestamp_in, IsInstantText, IsTimestampText, two_digits, date_text, clock_text, datetime_text, time_text}
use Rattle.row_json.specs.Values.{text_json, base64_json, padded, string_or, is_whole, number_or_bytes, string_or_number, set_of_bits, name_of, IsTimestampJson, IsTimestampOrText, IsBytesJson, IsIntJson, IsPlainJson, date_by, time_by}
use Rattle.row_json.specs.Shown.{shown_instant, shown_timestamp, shown_bytes, shown_int, shown_float, shown_date, shown_time, shown_plain, IsInRange, HasDigits, AreAlike}
use Rattle.row_json.specs.Shown as show
use Rattle.row_json.proofs.Shown.Clocks.{AreShort, same_dates, same_datetimes, same_times}
use Rattle.row_json.proofs.Shown.Floats.{same_floats, bits_back}
use Rattle.row_json.proofs.Shown.Instants.{same_timestamps}
use Rattle.row_json.proofs.Shown.Bytes.{padded_bytes, str_is, same_base64, same_text_json, same_year_json}
use Rattle.row_json.proofs.Shown.Numbers.{same_decimals, signed_size, same_signed, same_bits_json, same_enum_json, same_enum_number, same_set_json}
use Rattle.binlog_decimal.specs.TimeText.{fraction_text}

-- ---- bytes

same_timestamp_json : (n s u t v : ℕ) (j : Json) → IsTimestampJson n s u j → IsTimestampJson n t v j → shown_instant n s u ≡ shown_instant n t v
same_timestamp_json n s u t v j a b = let texts : a.0 ≡ b.0 = cc (a.2, b.2) in same_timestamps n s u t v b.0 (subst (IsTimestampText n s u) texts a.1) b.1

-- no text of an instant is made of digits, minuses and points alone
low_after : (xs ys : List ℕ) → All (λ byte. byte < 58) (xs ++ ys) → All (λ byte. byte < 58) ys
low_after [] ys h = h
low_after (x ∷ xs) ys h = low_after xs ys (All-tail (λ byte. byte < 58) x (xs ++ ys) h)

not_low : (xs ys : List ℕ) (byte : ℕ) → 58 ≤ byte → All (λ byte. byte < 58) (xs ++ byte ∷ ys) → ⊥
not_low xs ys byte high h = let low = All-head (λ byte. byte < 58) byte ys (low_after xs (byte ∷ ys) h) in absurd (omega arith)

datetime_not_low : (n y m d mark h i s u : ℕ) (z : List ℕ) → All (λ byte. byte < 58) (datetime_text n y m d mark h i s u ++ z) → ⊥
datetime_not_low n y m d mark h i s u z all =
    not_low (two_digits h) ((two_digits i ++ (58 ∷ (two_digits s ++ fraction_text n u))) ++ z) 58 (omega arith) (subst (All (λ byte. byte < 58)) (append_assoc (two_digits h) (58 ∷ (two_digits i ++ (58 ∷ (two_digits s ++ fraction_text n u)))) z)
    (All-tail (λ byte. byte < 58) mark (clock_text n h i s u ++ z) (low_after (date_text y m d) (mark ∷ (clock_text n h i s u ++ z)) (subst (All (λ byte. byte < 58)) (append_assoc (date_text y m d) (mark ∷ clock_text n h i s u) z) all))))

instant_not_low : (n s u : ℕ) (p : Bool) (text : List ℕ) → All (λ byte. byte < 58) text → MatchBool p (text ≡ datetime_text n 0 0 0 32 0 0 0 0) (IsInstantText n s u text) → ⊥
instant_not_low n s u true text all a = datetime_not_low n 0 0 0 32 0 0 0 0 [] (subst (All (λ byte. byte < 58)) (a ∙ sym (append-nil _)) all)
instant_not_low n s u false text all a = datetime_not_low n a.year a.month a.day 84 (s / 3600 % 24) (s / 60 % 60) (s % 60) u (codes "Z") (subst (All (λ byte. byte < 58)) a.is all)

string_is : (x text : List ℕ) (o : Option (List ℕ)) → ((z : List ℕ) → o ≡ Some z → x ≡ z) → string_or x o ≡ string text → x ≡ text
string_is x text None same e = absurd (cc)
string_is x text (Some z) same e = let texts : z ≡ text = cc in same z refl ∙ texts

not_instant : (n : ℕ) (x : List ℕ) (s u : ℕ) (j : Json) → All (λ byte. byte < 58) x → j ≡ text_json Utf8mb4 x → IsTimestampJson n s u j → ⊥
not_instant n x s u j low a b =
    let same : x ≡ b.0 = string_is x b.0 (text_in Utf8mb4 x) (str_is Utf8mb4 x) (sym a ∙ b.2) in
    instant_not_low n s u ((s == 0) && (u == 0)) b.0 (subst (All (λ byte. byte < 58)) same low) b.1

timestamps : (n : ℕ) (x y : List ℕ) (s t : Option (ℕ × ℕ)) (j : Json) → AreBytes x → AreBytes y → All (λ byte. byte < 58) x → All (λ byte. byte < 58) y → IsTimestampOrText n x s j → IsTimestampOrText n y t j →
    shown_timestamp n x s ≡ shown_timestamp n y t
timestamps n x y None None j hx hy lx ly a b = ap show.bytes (same_text_json Utf8mb4 x y hx hy (sym a ∙ b))
timestamps n x y None (Some t) j hx hy lx ly a b = absurd (not_instant n x t.0 t.1 j lx a b)
timestamps n x y (Some s) None j hx hy lx ly a b = absurd (not_instant n y s.0 s.1 j ly b a)
timestamps n x y (Some s) (Some t) j hx hy lx ly a b = same_timestamp_json n s.0 s.1 t.0 t.1 j a b

bytes_told : (c : Column) (k : Kind) (x y : List ℕ) (j : Json) → AreBytes x → AreBytes y → HasDigits k (Bytes x) → HasDigits k (Bytes y) → IsBytesJson c k x j → IsBytesJson c k y j →
    shown_bytes c k x ≡ shown_bytes c k y
bytes_told c (kind.Text charset) x y j hx hy rx ry a b = ap show.bytes (same_text_json charset x y hx hy (sym a ∙ b))
bytes_told c kind.Year x y j hx hy rx ry a b = same_year_json x y hx hy (sym a ∙ b)
bytes_told c kind.Bits x y j hx hy rx ry a b = same_bits_json x y hx hy (sym a ∙ b)
bytes_told c kind.Set x y j hx hy rx ry a b = same_set_json c.names x y hx hy (sym a ∙ b)
bytes_told c (kind.Timestamp n) x y j hx hy rx ry a b = timestamps n x y (timestamp_in x) (timestamp_in y) j hx hy rx ry a b
bytes_told c (kind.Binary n) x y j hx hy rx ry a b = ap show.bytes (same_base64 (padded n x) (padded n y) (padded_bytes n x hx) (padded_bytes n y hy) (sym a ∙ b))
bytes_told c _ x y j hx hy rx ry a b = ap show.bytes (same_base64 x y hx hy (sym a ∙ b))

-- ---- whole numbers

ints_told : (c : Column) (k : Kind) (y z : ℤ) (j : Json) → unsigned_abs y < 2 ^ 64 → unsigned_abs z < 2 ^ 64 → IsIntJson c k y j → IsIntJson c k z j → shown_int c k y ≡ shown_int c k z
ints_told c (kind.Timestamp n) y z j hy hz a b = same_timestamp_json n (unsigned_abs y % 2 ^ 32) 0 (unsigned_abs z % 2 ^ 32) 0 j a b
ints_told c kind.Enum y z j hy hz a b = same_enum_json c.names (unsigned_abs y) (unsigned_abs z) (omega arith) (omega arith) (sym a ∙ b)
ints_told c _ y z j hy hz a b = ap show.number (same_signed y z hy hz (cc))

int_told : (c : Column) (k : Kind) (z : ℤ) (n : ℕ) (j : Json) → unsigned_abs z < 2 ^ 64 → n < 2 ^ 64 → IsIntJson c k z j → j ≡ number (decimal n) → shown_int c k z ≡ show.number (pos n)
int_told c (kind.Timestamp d) z n j hz hn a b = absurd (cc (a.2, b))
int_told c kind.Enum z n j hz hn a b = same_enum_number c.names (unsigned_abs z) n (omega arith) (omega arith) (sym a ∙ b)
int_told c _ z n j hz hn a b = ap show.number (same_signed z (pos n) hz hn (cc))

-- ---- floats

by_nan : (f : Format) (x y : ℕ) (p q : Bool) → is_nan (from_bits f x) ≡ p → is_nan (from_bits f y) ≡ q → from_bits f x ≡ from_bits f y → (p ≡ false → x ≡ y) →
    (if p then show.not_a_number else show.float x) ≡ (if q then show.not_a_number else show.float y)
by_nan f x y true true ep eq e same = refl
by_nan f x y true false ep eq e same = absurd (cc (ap is_nan e))
by_nan f x y false true ep eq e same = absurd (cc (ap is_nan e))
by_nan f x y false false ep eq e same = ap show.float (same refl)

float32_told : (x y : ℕ) (j : Json) → x < 2 ^ 32 → y < 2 ^ 32 → IsFloatJson binary32 x j → IsFloatJson binary32 y j → shown_float binary32 x ≡ shown_float binary32 y
float32_told x y j hx hy a b = let e = same_floats binary32 (from_bits binary32 x) (from_bits binary32 y) j a b in
    by_nan binary32 x y (is_nan (from_bits binary32 x)) (is_nan (from_bits binary32 y)) refl refl e (bits_back binary32 x y hx hy e)

float64_told : (x y : ℕ) (j : Json) → x < 2 ^ 64 → y < 2 ^ 64 → IsFloatJson binary64 x j → IsFloatJson binary64 y j → shown_float binary64 x ≡ shown_float binary64 y
float64_told x y j hx hy a b = let e = same_floats binary64 (from_bits binary64 x) (from_bits binary64 y) j a b in
    by_nan binary64 x y (is_nan (from_bits binary64 x)) (is_nan (from_bits binary64 y)) refl refl e (bits_back binary64 x y hx hy e)

-- ---- dates and times

datetimes : (n y m d h i s u y₂ m₂ d₂ h₂ i₂ s₂ u₂ : ℕ) (j : Json) → AreShort y m d → AreShort y₂ m₂ d₂ → AreShort h i s → AreShort h₂ i₂ s₂ →
    j ≡ string (datetime_text n y m d 32 h i s u) → j ≡ string (datetime_text n y₂ m₂ d₂ 32 h₂ i₂ s₂ u₂) →
    show.datetime y m d h i s (show.shown_fraction n u) ≡ show.datetime y₂ m₂ d₂ h₂ i₂ s₂ (show.shown_fraction n u₂)
datetimes n y m d h i s u y₂ m₂ d₂ h₂ i₂ s₂ u₂ j da db ta tb a b =
    let same = same_datetimes n y m d h i s u y₂ m₂ d₂ h₂ i₂ s₂ u₂ 32 (omega arith) da db ta tb (cc) in
    cc (same.date.year, same.date.month, same.date.day, same.clock.hour, same.clock.minute, same.clock.second, same.clock.fraction)

dates_told : (k : Kind) (y m d h i s u y₂ m₂ d₂ h₂ i₂ s₂ u₂ : ℕ) (j : Json) → AreShort y m d → AreShort y₂ m₂ d₂ → AreShort h i s → AreShort h₂ i₂ s₂ →
    j ≡ string (date_by k y m d h i s u) → j ≡ string (date_by k y₂ m₂ d₂ h₂ i₂ s₂ u₂) → shown_date k y m d h i s u ≡ shown_date k y₂ m₂ d₂ h₂ i₂ s₂ u₂
dates_told kind.Date y m d h i s u y₂ m₂ d₂ h₂ i₂ s₂ u₂ j da db ta tb a b =
    let same = same_dates y m d y₂ m₂ d₂ da db (cc) in cc (same.year, same.month, same.day)
dates_told (kind.Datetime n) y m d h i s u y₂ m₂ d₂ h₂ i₂ s₂ u₂ j da db ta tb a b = datetimes n y m d h i s u y₂ m₂ d₂ h₂ i₂ s₂ u₂ j da db ta tb a b
dates_told _ y m d h i s u y₂ m₂ d₂ h₂ i₂ s₂ u₂ j da db ta tb a b =
    let same = datetimes 0 y m d h i s u y₂ m₂ d₂ h₂ i₂ s₂ u₂ j da db ta tb a b in
    cc

times : (n : ℕ) (p q : Bool) (h i s u h₂ i₂ s₂ u₂ : ℕ) (j : Json) → AreShort h i s → AreShort h₂ i₂ s₂ → j ≡ string (time_text n p h i s u) → j ≡ string (time_text n q h₂ i₂ s₂ u₂) →
    show.time p h i s (show.shown_fraction n u) ≡ show.time q h₂ i₂ s₂ (show.shown_fraction n u₂)
times n p q h i s u h₂ i₂ s₂ u₂ j ta tb a b =
    let same = same_times n p q h i s u h₂ i₂ s₂ u₂ ta tb (cc) in
    cc (same.sign, same.clock.hour, same.clock.minute, same.clock.second, same.clock.fraction)

times_told : (k : Kind) (p q : Bool) (h i s u h₂ i₂ s₂ u₂ : ℕ) (j : Json) → AreShort h i s → AreShort h₂ i₂ s₂ → j ≡ string (time_by k p h i s u) → j ≡ string (time_by k q h₂ i₂ s₂ u₂) →
    shown_time k p h i s u ≡ shown_time k q h₂ i₂ s₂ u₂
times_told (kind.Time n) p q h i s u h₂ i₂ s₂ u₂ j ta tb a b = times n p q h i s u h₂ i₂ s₂ u₂ j ta tb a b
times_told _ p q h i s u h₂ i₂ s₂ u₂ j ta tb a b = let same = times 0 p q h i s u h₂ i₂ s₂ u₂ j ta tb a b in cc

-- ---- NULL

-- nothing else is written as null
base64_not_null : (x : List ℕ) → base64_json x ≡ null → ⊥
base64_not_null x e = cc

text_not_null : (x : List ℕ) (s : Option (List ℕ)) → string_or x s ≡ null → ⊥
text_not_null x None e = cc
text_not_null x (Some s) e = cc

number_not_null : (p : Bool) (t : List ℕ) → (if p then number t else string t) ≡ null → ⊥
number_not_null true t e = cc
number_not_null false t e = cc

digits_not_null : (x : List ℕ) (s : Option (List ℕ)) → number_or_bytes x s ≡ null → ⊥
digits_not_null x None e = cc
digits_not_null x (Some s) e = number_not_null (is_whole (after_number s)) s e

either_not_null : (p : Bool) (i k : Json) → (i ≡ null → ⊥) → (k ≡ null → ⊥) → (if p then i else k) ≡ null → ⊥
either_not_null true i k hi hk e = hi e
either_not_null false i k hi hk e = hk e

named_not_null : (n : ℕ) (s : Option (List ℕ)) → string_or_number n s ≡ null → ⊥
named_not_null n None e = cc
named_not_null n (Some s) e = cc

timestamp_not_null : (n : ℕ) (x : List ℕ) (s : Option (ℕ × ℕ)) → IsTimestampOrText n x s null → ⊥
timestamp_not_null n x None a = text_not_null x (text_in Utf8mb4 x) (sym a)
timestamp_not_null n x (Some s) a = cc (a.2)

bytes_not_null : (c : Column) (k : Kind) (x : List ℕ) → IsBytesJson c k x null → ⊥
bytes_not_null c (kind.Text charset) x a = text_not_null x (text_in charset x) (sym a)
bytes_not_null c kind.Year x a = either_not_null (bytes_eq x (codes "1900")) (number (decimal 0)) (number_or_bytes x (text_in Utf8mb4 x)) (λ e. cc) (digits_not_null x (text_in Utf8mb4 x)) (sym a)
bytes_not_null c kind.Bits x a = either_not_null (nat_lt 8 (length x)) (base64_json x) (number (decimal (big_number (length x) x))) (λ e. cc) (λ e. cc) (sym a)
bytes_not_null c kind.Set x a = either_not_null (nat_lt 8 (length x)) (base64_json x) (set_of_bits c.names (little_number (length x) x)) (λ e. cc) (named_not_null (little_number (length x) x) _) (sym a)
bytes_not_null c (kind.Timestamp n) x a = timestamp_not_null n x (timestamp_in x) a
bytes_not_null c (kind.Binary n) x a = base64_not_null (padded n x) (sym a)
bytes_not_null c _ x a = base64_not_null x (sym a)

int_not_null : (c : Column) (k : Kind) (z : ℤ) → IsIntJson c k z null → ⊥
int_not_null c (kind.Timestamp n) z a = cc (a.2)
int_not_null c kind.Enum z a = either_not_null (unsigned_abs z == 0) (string []) (string_or_number (unsigned_abs z) (name_of c.names (unsigned_abs z))) (λ e. cc) (named_not_null (unsigned_abs z) _) (sym a)
int_not_null c _ z a = cc (a)

float_not_null : (f : Format) (x : FloatValue) (p : Bool) → MatchBool p (IsNumberOf f x null) (null ≡ string (special_text x)) → ⊥
float_not_null f x true a = cc (a.1)
float_not_null f x false a = cc (a)

null_told : (c : Column) (v : PlainValue) → IsPlainJson c v null → show.null ≡ shown_plain c v
null_told c Null a = refl
null_told c (Bytes x) a = absurd (bytes_not_null c c.kind x a)
null_told c (Int z) a = absurd (int_not_null c c.kind z a)
null_told c (UInt n) a = absurd (cc (a))
null_told c (Float x) a = absurd (float_not_null binary32 (from_bits binary32 x) (float_is_finite (from_bits binary32 x)) a)
null_told c (Double x) a = absurd (float_not_null binary64 (from_bits binary64 x) (float_is_finite (from_bits binary64 x)) a)
null_told c (Date y m d h i s u) a = absurd (cc (a))
null_told c (Time p d h i s u) a = absurd (cc (a))

-- ---- all values

-- a value whose text has all digits of its fields
unfoldable pub HasText : PlainValue → Type 0
HasText (Time p d h i s u) = AreShort (d * 24 + h) i s
HasText v = IsInRange v

pub plain_told : (c : Column) (v w : PlainValue) (j : Json) → AreAlike v w → HasText v → HasText w → HasDigits c.kind v → HasDigits c.kind w → IsPlainJson c v j → IsPlainJson c w j →
    shown_plain c v ≡ shown_plain c w
unfolding HasText
plain_told c Null w j alike hv hw vr wr a b = null_told c w (subst (IsPlainJson c w) a b)
plain_told c v Null j alike hv hw vr wr a b = sym (null_told c v (subst (IsPlainJson c v) b a))
plain_told c (Bytes x) (Bytes y) j alike hv hw vr wr a b = bytes_told c c.kind x y j hv hw vr wr a b
plain_told c (Int y) (Int z) j alike hv hw vr wr a b = ints_told c c.kind y z j (signed_size y hv) (signed_size z hw) a b
plain_told c (Int z) (UInt n) j alike hv hw vr wr a b = int_told c c.kind z n j (signed_size z hv) hw a b
plain_told c (UInt n) (Int z) j alike hv hw vr wr a b = sym (int_told c c.kind z n j (signed_size z hw) hv b a)
plain_told c (UInt m) (UInt n) j alike hv hw vr wr a b = ap (λ (k : ℕ). show.number (pos k)) (same_decimals m n (omega arith) (omega arith) (cc))
plain_told c (Float x) (Float y) j alike hv hw vr wr a b = float32_told x y j hv hw a b
plain_told c (Double x) (Double y) j alike hv hw vr wr a b = float64_told x y j hv hw a b
plain_told c (Date y m d h i s u) (Date y₂ m₂ d₂ h₂ i₂ s₂ u₂) j alike hv hw vr wr a b = dates_told c.kind y m d h i s u y₂ m₂ d₂ h₂ i₂ s₂ u₂ j
    (record { first = omega (arith, hv.0); middle = omega (arith, hv.1); last = omega (arith, hv.2) }) (record { first = omega (arith, hw.0); middle = omega (arith, hw.1); last = omega (arith, hw.2) })
    (record { first = omega (arith, hv.3); middle = omega (arith, hv.4); last = omega (arith, hv.5) }) (record { first = omega (arith, hw.3); middle = omega (arith, hw.4); last = omega (arith, hw.5) }) a b
plain_told c (Time p d h i s u) (Time q d₂ h₂ i₂ s₂ u₂) j alike hv hw vr wr a b = times_told c.kind p q (d * 24 + h) i s u (d₂ * 24 + h₂) i₂ s₂ u₂ j hv hw a b
plain_told c _ _ j alike hv hw vr wr a b = absurd alike
