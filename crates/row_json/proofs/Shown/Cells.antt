-- Cells of one column are alike, and their numbers are in range.
use Rattle.std.proofs.Common.{◌≡◌, ℕ, zero, suc, ◌+◌, ◌*◌, ◌/◌, ◌%◌, ◌^◌, ◌<◌, ◌≤◌, ◌==◌, Bool, true, false, ℤ, pos, negsuc, List, [], ◌∷◌, ◌++◌, replicate, refl, sym, ap, ◌∙◌, subst, inl, inr, arith}
use Rattle.std.specs.Prelude.{◌⊎◌, Result, Ok, Err, decimal, if◌then◌else◌, nat_lt, unsigned_abs, unwrap_or, ◌-ℤ◌, ◌*ℤ◌, ◌+ℤ◌, ⊤, All}
use Rattle.std.specs.Fmt.{digit_glyph, digits, digits_onto, signed_decimal, sign_text}
use Rattle.std.specs.List.{flat_map}
use Rattle.std.specs.Int.{is_negative}
use Rattle.std.specs.Bool.{MatchBool}
use Rattle.std.specs.Ordering.{int_eq}
use Rattle.std.proofs.lemmas.Int.{ints, unsigned_abs-mul}
use Rattle.std.proofs.lemmas.List.Elements.{All-nil, All-cons}
use Rattle.std.proofs.lemmas.Bool.{ltb-true, ltb-false, lt-ltb, cond-true, cond_both}
use Rattle.byteorder.specs.Endian.{little_number, big_number}
use Rattle.binlog_base.specs.declared.fault.Fault.{Fault}
use Rattle.binlog_base.specs.declared.fault.Fault.TheVariants.{TimeRange}
use Rattle.binlog_base.specs.declared.below.columns.column_type.ColumnType.{ColumnType}
use Rattle.binlog_base.specs.declared.below.columns.column_type.ColumnType.TheVariants as column
use Rattle.binlog_base.specs.ColumnTypes.{column_type_of}
use Rattle.binlog_base.specs.Fixed.{fixed}
use Rattle.binlog_base.specs.Format.{Format, map_value, take_bytes, choice, inside}
use Rattle.binlog_base.specs.Items.{repeated}
use Rattle.binlog_base.specs.Numbers.{AreBytes, little_endian, big_endian, signed_little_endian, signed_big_endian, twos_complement}
use Rattle.binlog_base.specs.Coding.{IsSigned}
use Rattle.binlog_base.specs.Lemmas.NumbersWritten.{little_endian-lt}
use Rattle.binlog_base.specs.Lemmas.TwosComplement.{twos_complement-fits}
use Rattle.binlog_base.specs.Values.{PlainValue, Null, Bytes, Int, UInt, Float, Double, Date, Time}
use Rattle.binlog_decimal.specs.DecimalText.{integer_text, fraction_digits_text, shown_digits, decimal_text}
use Rattle.binlog_decimal.specs.Decimals.{DecimalView}
use Rattle.binlog_values.specs.PackedDecimals.{packed_decimal}
use Rattle.binlog_values.specs.JsonbValues.{json}
use Rattle.binlog_values.specs.JsonDiffs.{diff}
use Rattle.binlog_base.specs.PackedTimes.{timestamp2, datetime2, time2, time_value, datetime_value, in_range, packed_time, datetime2_sum, fraction, fraction_width, fraction_unit}
use Rattle.binlog_cells.specs.declared.value.form.PlainForm.{PlainForm}
use Rattle.binlog_cells.specs.declared.value.form.PlainForm.TheVariants as form
use Rattle.binlog_cells.specs.declared.value.form.Form.{Form}
use Rattle.binlog_cells.specs.declared.value.form.Form.TheVariants as way
use Rattle.binlog_cells.specs.declared.value.form.Width.{Width}
use Rattle.binlog_cells.specs.declared.value.form.Width.TheVariants as width
use Rattle.std.specs.Prelude.{◌&&◌, slice_index_or, Some}
use Rattle.binlog_values.specs.JsonbValues.{JsonbValue}
use Rattle.binlog_values.specs.JsonDiffs.{Diff}
use Rattle.row_json.specs.ShownRows.{IsWholeCellOf, AreCellsOfOneColumn}
use Rattle.binlog_cells.specs.Cells.{Cell, PlainCell, JsonCell, DiffsCell, cell, json_cell, integer, long_integer, float_bits, double_bits, timestamp_cell, time_cell, datetime_cell, year_cell, date_cell, timestamp2_cell, datetime2_cell, time2_cell, decimal_cell, fixed_bytes, text, text_cell, variant_cell, timestamp_text, places_text, int_value, time_of_digits, date_of_bits, year_text, date_of_digits}
use Rattle.binlog_cells.specs.Forms.{cell_by, cell_by_form, form_of, element_form, typed_form, plain_form, plain_by, bytes_in}
use Rattle.binlog_cells.specs.Lemmas.Forms.{spelled_by_form}
use Rattle.binlog_table.specs.TableColumns as table
use Rattle.mysql_binlog_rows.specs.Images.{nullable_cell, is_partial, is_json}
use Rattle.row_json.specs.declared.kind.Kind.{Kind}
use Rattle.row_json.specs.declared.kind.Kind.TheVariants as kind
use Rattle.row_json.specs.Columns.{Names, column_of}
use Rattle.row_json.specs.declared.charset.Charset.{Charset}
use Rattle.row_json.specs.declared.charset.Charset.TheVariants.{Binary}
use Rattle.row_json.specs.Charsets.{charset_of}
use Rattle.row_json.specs.Kinds.{kind_of, element_kind, string_kind, inner_kind}
use Rattle.row_json.proofs.Shown.Numbers.{little_below, big_below}
use Rattle.row_json.specs.Shown.{IsInRange, HasDigits, AreAlike, IsOfColumn, AreOfOneColumn, IsCellOf}

-- ---- bytes

before : (y z : List ℕ) → AreBytes (y ++ z) → AreBytes y
before [] z all = λ i. omega arith
before (b ∷ y) z all = elim [ zero ↦ all 0 | suc i ↦ before y z (λ k. all (suc k)) i ]

after : (y z : List ℕ) → AreBytes (y ++ z) → AreBytes z
after [] z all = all
after (b ∷ y) z all = after y z (λ i. all (suc i))

-- what was mapped
record Mapped {A : Type 0} (f : Format A) (P : A → Type 0) : Type 0 where
  of : A
  bytes : List ℕ
  are : AreBytes bytes
  spelled : f.spells bytes of
  is : P of

mapped : {A B : Type 0} (f : Format A) (g : A → B) (x : List ℕ) (b : B) → AreBytes x → (map_value f g).spells x b → Mapped f (λ a. b ≡ g a)
mapped f g x b all s = record { of = s.0; bytes = s.1; are = before s.1 s.2 (subst AreBytes s.3 all); spelled = s.4; is = s.5.1 }

-- ---- texts without letters

Low : List ℕ → Type 0
Low [] = ⊤
Low (b ∷ bs) = (b < 58) × Low bs

low_append : (xs ys : List ℕ) → Low xs → Low ys → Low (xs ++ ys)
unfolding Low
low_append [] ys a b = b
low_append (x ∷ xs) ys a b = (a.0, low_append xs ys a.1 b)

low_bytes : (xs : List ℕ) → Low xs → AreBytes xs
unfolding Low
low_bytes [] h = λ i. omega arith
low_bytes (x ∷ xs) h = elim [ zero ↦ omega (arith, h.0) | suc i ↦ low_bytes xs h.1 i ]

low_all : (xs : List ℕ) → Low xs → All (λ byte. byte < 58) xs
unfolding Low
low_all [] h = All-nil (λ byte. byte < 58)
low_all (x ∷ xs) h = All-cons (λ byte. byte < 58) x xs h.0 (low_all xs h.1)

glyph_low : (n : ℕ) → n < 10 → digit_glyph false n < 58
glyph_low n h = let is = cond-true (nat_lt n 10) (48 + n) (87 + n) (lt-ltb n 10 h) in omega arith

onto_low : (k n : ℕ) (acc : List ℕ) → Low acc → Low (digits_onto k 10 false n acc)
unfolding Low
onto_low zero n acc h = h
onto_low (suc k) n acc h =
    let glyph = glyph_low (n % 10) (omega arith) in
    cond_both (n / 10 == 0) _ _ Low (λ e. (glyph, h)) (λ e. onto_low k (n / 10) (digit_glyph false (n % 10) ∷ acc) (glyph, h))

decimal_low : (n : ℕ) → Low (decimal n)
unfolding digits Low
decimal_low n = onto_low 64 n [] tt

signed_low : (z : ℤ) → Low (signed_decimal z)
unfolding Low
signed_low (pos n) = decimal_low n
signed_low (negsuc n) = (omega arith, decimal_low (suc n))

sign_low : (negative : Bool) → Low (sign_text negative)
unfolding Low
sign_low true = (omega arith, tt)
sign_low false = tt

zeros_low : (n : ℕ) → Low (replicate n 48)
unfolding Low
zeros_low zero = tt
zeros_low (suc n) = (omega arith, zeros_low n)

places_low : (places : ℕ) (z : ℤ) → Low (places_text places z)
places_low places z =
    low_append (sign_text (is_negative z)) _ (sign_low (is_negative z)) (low_append (replicate _ 48) (decimal (unsigned_abs z)) (zeros_low _) (decimal_low (unsigned_abs z)))

timestamp_low : (t : ℤ × ℤ) → Low (timestamp_text t)
unfolding Low
timestamp_low t = cond_both (int_eq t.1 (pos 0)) _ _ Low (λ e. signed_low t.0) (λ e. low_append (signed_decimal t.0) _ (signed_low t.0) (omega arith, places_low 6 t.1))

digits_low : (ds : List ℕ) → Low (flat_map decimal ds)
unfolding Low
digits_low [] = tt
digits_low (d ∷ ds) = low_append (decimal d) (flat_map decimal ds) (decimal_low d) (digits_low ds)

integer_low : (ds : List ℕ) → Low (integer_text ds)
unfolding Low
integer_low [] = (omega arith, tt)
integer_low (d ∷ ds) = digits_low (shown_digits (d ∷ ds))

fraction_low : (ds : List ℕ) → Low (fraction_digits_text ds)
unfolding Low
fraction_low [] = tt
fraction_low (d ∷ ds) = (omega arith, digits_low (d ∷ ds))

decimal_text_low : (d : DecimalView) → Low (decimal_text d)
unfolding decimal_text
decimal_text_low d = low_append (sign_text d.negative) _ (sign_low d.negative) (low_append (integer_text d.integer) (fraction_digits_text d.fraction) (integer_low d.integer) (fraction_low d.fraction))

-- ---- numbers

record Signed (w : ℕ) (z : ℤ) : Type 0 where
  of : ℕ
  below : of < 256 ^ w
  is : z ≡ twos_complement w of

signed_of : (w : ℕ) (x : List ℕ) (z : ℤ) → AreBytes x → (signed_little_endian w).spells x z → Signed w z
unfolding fixed
signed_of w x z all s = let m = mapped (take_bytes w) (λ b. twos_complement w (little_number w b)) x z all s in
    record { of = little_number w m.of; below = little_below 0 w m.of (subst AreBytes (sym m.spelled.0) m.are); is = m.is }

near : (n half whole : ℕ) → unsigned_abs (if nat_lt n half then pos n else pos n -ℤ pos whole) ≤ n + whole
near n half whole = by (nat_lt n half)
  where
    by : (p : Bool) → unsigned_abs (if p then pos n else pos n -ℤ pos whole) ≤ n + whole
    by true = omega arith
    by false = omega (arith, ints)

fits_eight : (z : ℤ) → unsigned_abs z < 2 ^ 63 → IsSigned 8 z
fits_eight (pos n) h = h
fits_eight (negsuc n) h = omega arith

-- ---- shapes

data Shape : Type 0 where
  nothing bytes int uint single double date time : Shape

shape : PlainValue → Shape
shape Null = nothing
shape (Bytes x) = bytes
shape (Int z) = int
shape (UInt n) = uint
shape (Float b) = single
shape (Double b) = double
shape (Date y m d h i s u) = date
shape (Time p d h i s u) = time

-- how a form's values look
shape_of : PlainForm → Shape
shape_of (form.Integer w unsigned) = int
shape_of (form.LongInteger true) = uint
shape_of (form.LongInteger false) = int
shape_of form.Float = single
shape_of form.Double = double
shape_of form.Timestamp = int
shape_of form.Time = time
shape_of form.Datetime = date
shape_of form.Year = bytes
shape_of form.Date = date
shape_of (form.Timestamp2 decimals) = bytes
shape_of (form.Datetime2 decimals) = date
shape_of (form.Time2 decimals) = time
shape_of (form.Decimal precision scale) = bytes
shape_of (form.Fixed n) = bytes
shape_of (form.Text w) = bytes
shape_of (form.Variant w) = int

same_shape : (v w : PlainValue) → shape v ≡ shape w → AreAlike v w
unfolding shape
same_shape Null w e = tt
same_shape v Null e = tt
same_shape (Bytes x) (Bytes y) e = tt
same_shape (Int y) (Int z) e = tt
same_shape (UInt m) (UInt n) e = tt
same_shape (Float x) (Float y) e = tt
same_shape (Double x) (Double y) e = tt
same_shape (Date y m d h i s u) (Date y₂ m₂ d₂ h₂ i₂ s₂ u₂) e = tt
same_shape (Time p d h i s u) (Time q d₂ h₂ i₂ s₂ u₂) e = tt
same_shape _ _ e = absurd (cc)

-- a value of this shape whose numbers are in range
record Fits (s : Shape) (v : PlainValue) : Type 0 where
  shaped : shape v ≡ s
  in_range : IsInRange v

int_fits : (v : PlainValue) (z : ℤ) → v ≡ Int z → IsSigned 8 z → Fits int v
unfolding shape
int_fits v z is h = subst (Fits int) (sym is) (record { shaped = refl; in_range = h })

bytes_fit : (v : PlainValue) (x : List ℕ) → v ≡ Bytes x → AreBytes x → Fits bytes v
unfolding shape
bytes_fit v x is h = subst (Fits bytes) (sym is) (record { shaped = refl; in_range = h })

few : (w : Width) → 256 ^ bytes_in w ≤ 2 ^ 32
few width.One = omega arith
few width.Two = omega arith
few width.Three = omega arith
few width.Four = omega arith

signed_small : (w : Width) (n : ℕ) → n < 256 ^ bytes_in w → IsSigned 8 (twos_complement (bytes_in w) n)
signed_small width.One n h = let b = near n (2 ^ 7) (2 ^ 8) in fits_eight (twos_complement 1 n) (omega arith)
signed_small width.Two n h = let b = near n (2 ^ 15) (2 ^ 16) in fits_eight (twos_complement 2 n) (omega arith)
signed_small width.Three n h = let b = near n (2 ^ 23) (2 ^ 24) in fits_eight (twos_complement 3 n) (omega arith)
signed_small width.Four n h = let b = near n (2 ^ 31) (2 ^ 32) in fits_eight (twos_complement 4 n) (omega arith)

integer_fits : (w : Width) (unsigned : Bool) (x : List ℕ) (v : PlainValue) → AreBytes x → (integer (bytes_in w) unsigned).spells x v → Fits int v
unfolding integer
integer_fits w true x v all s =
    let m = mapped (little_endian (bytes_in w)) int_value x v all s in
    int_fits v (pos m.of) m.is (omega (arith, little_endian-lt (bytes_in w) m.bytes m.of m.are m.spelled, few w))
integer_fits w false x v all s =
    let m = mapped (signed_little_endian (bytes_in w)) Int x v all s in
    let z = signed_of (bytes_in w) m.bytes m.of m.are m.spelled in
    int_fits v m.of m.is (subst (IsSigned 8) (sym z.is) (signed_small w z.of z.below))

long_fits : (unsigned : Bool) (x : List ℕ) (v : PlainValue) → AreBytes x → (long_integer unsigned).spells x v → Fits (shape_of (form.LongInteger unsigned)) v
unfolding long_integer shape shape_of
long_fits true x v all s =
    let m = mapped (little_endian 8) UInt x v all s in
    subst (Fits uint) (sym m.is) (record { shaped = refl; in_range = little_endian-lt 8 m.bytes m.of m.are m.spelled })
long_fits false x v all s =
    let m = mapped (signed_little_endian 8) Int x v all s in
    let z = signed_of 8 m.bytes m.of m.are m.spelled in
    int_fits v m.of m.is (subst (IsSigned 8) (sym z.is) (twos_complement-fits 8 z.of (omega arith) z.below))

float_fits : (x : List ℕ) (v : PlainValue) → AreBytes x → float_bits.spells x v → Fits single v
unfolding float_bits shape
float_fits x v all s = let m = mapped (little_endian 4) Float x v all s in subst (Fits single) (sym m.is) (record { shaped = refl; in_range = little_endian-lt 4 m.bytes m.of m.are m.spelled })

double_fits : (x : List ℕ) (v : PlainValue) → AreBytes x → double_bits.spells x v → Fits double v
unfolding double_bits shape
double_fits x v all s = let m = mapped (little_endian 8) Double x v all s in subst (Fits double) (sym m.is) (record { shaped = refl; in_range = little_endian-lt 8 m.bytes m.of m.are m.spelled })

timestamp_fits : (x : List ℕ) (v : PlainValue) → AreBytes x → timestamp_cell.spells x v → Fits int v
unfolding timestamp_cell
timestamp_fits x v all s = let m = mapped (little_endian 4) int_value x v all s in int_fits v (pos m.of) m.is (omega (arith, little_endian-lt 4 m.bytes m.of m.are m.spelled))

variant_fits : (w : Width) (x : List ℕ) (v : PlainValue) → AreBytes x → (variant_cell (bytes_in w)).spells x v → Fits int v
unfolding variant_cell
variant_fits w x v all s =
    let m = mapped (little_endian (bytes_in w)) int_value x v all s in
    int_fits v (pos m.of) m.is (omega (arith, little_endian-lt (bytes_in w) m.bytes m.of m.are m.spelled, few w))

time_fits : (x : List ℕ) (v : PlainValue) → AreBytes x → time_cell.spells x v → Fits time v
unfolding time_cell shape
time_fits x v all s =
    let m = mapped (little_endian 3) (time_of_digits false) x v all s in
    let small = little_endian-lt 3 m.bytes m.of m.are m.spelled in
    subst (Fits time) (sym m.is) (record { shaped = refl; in_range = (omega arith, omega arith, omega arith, omega arith) })

date_fits : (x : List ℕ) (v : PlainValue) → AreBytes x → date_cell.spells x v → Fits date v
unfolding date_cell shape
date_fits x v all s =
    let m = mapped (little_endian 3) date_of_bits x v all s in
    let small = little_endian-lt 3 m.bytes m.of m.are m.spelled in
    subst (Fits date) (sym m.is) (record { shaped = refl; in_range = (omega arith, omega arith, omega arith, omega arith, omega arith, omega arith) })

year_fits : (x : List ℕ) (v : PlainValue) → AreBytes x → year_cell.spells x v → Fits bytes v
unfolding year_cell
year_fits x v all s = let m = mapped (little_endian 1) year_text x v all s in bytes_fit v (decimal (1900 + m.of)) m.is (low_bytes (decimal (1900 + m.of)) (decimal_low (1900 + m.of)))

timestamp2_fits : (decimals : ℕ) (x : List ℕ) (v : PlainValue) → AreBytes x → (timestamp2_cell decimals).spells x v → Fits bytes v
unfolding timestamp2_cell
timestamp2_fits decimals x v all s =
    let m = mapped (timestamp2 decimals) (λ t. Bytes (timestamp_text t)) x v all s in
    bytes_fit v (timestamp_text m.of) m.is (low_bytes (timestamp_text m.of) (timestamp_low m.of))

decimal_fits : (precision scale : ℕ) (x : List ℕ) (v : PlainValue) → AreBytes x → (decimal_cell precision scale).spells x v → Fits bytes v
unfolding decimal_cell
decimal_fits precision scale x v all s =
    let m = mapped (packed_decimal precision scale false) (λ d. Bytes (decimal_text d)) x v all s in
    bytes_fit v (decimal_text m.of) m.is (low_bytes (decimal_text m.of) (decimal_text_low m.of))

fixed_fits : (n : ℕ) (x : List ℕ) (v : PlainValue) → AreBytes x → (fixed_bytes n).spells x v → Fits bytes v
unfolding fixed_bytes
fixed_fits n x v all s = let m = mapped (take_bytes n) Bytes x v all s in bytes_fit v m.of m.is (subst AreBytes (sym m.spelled.0) m.are)

text_fits : (w : ℕ) (x : List ℕ) (v : PlainValue) → AreBytes x → (text_cell w).spells x v → Fits bytes v
unfolding text_cell text
text_fits w x v all s =
    let m = mapped (text w) Bytes x v all s in
    bytes_fit v m.of m.is (subst AreBytes (sym m.spelled.5.0) (after m.spelled.1 m.spelled.2 (subst AreBytes m.spelled.3 m.are)))

time2_fits : (decimals : ℕ) (x : List ℕ) (v : PlainValue) → AreBytes x → (time2_cell decimals).spells x v → Fits time v
unfolding time2_cell shape
time2_fits decimals x v all s =
    let m = mapped (time2 decimals) time_value x v all s in
    subst (Fits time) (sym m.is) (record { shaped = refl; in_range = (omega arith, omega arith, omega arith, omega arith) })

datetime_fits : (x : List ℕ) (v : PlainValue) → AreBytes x → datetime_cell.spells x v → Fits date v
unfolding datetime_cell shape
datetime_fits x v all s = by s.0 s.2 (nat_lt (s.0 / 10000000000) 65536) refl s.5
  where
    by : (n : ℕ) (z : List ℕ) (p : Bool) → nat_lt (n / 10000000000) 65536 ≡ p →
        MatchBool p ((z ≡ []) × (v ≡ date_of_digits (n / 10000000000) n)) ⊥ → Fits date v
    by n z true e f =
        let year = ltb-true (n / 10000000000) 65536 e in
        subst (Fits date) (sym f.1) (record { shaped = refl; in_range = (year, omega arith, omega arith, omega arith, omega arith, omega arith) })
    by n z false e f = absurd f

-- ---- DATETIME2

in_range_same : (m z : ℤ) → in_range z ≡ Ok m → m ≡ z
in_range_same m (pos n) e = cc
in_range_same m (negsuc n) e = by (nat_lt n (2 ^ 63)) e
  where
    by : (p : Bool) → (if p then Ok (negsuc n) else Err TimeRange) ≡ Ok m → m ≡ negsuc n
    by true f = cc
    by false f = absurd (cc)

signed_big : (w : ℕ) (x : List ℕ) (z : ℤ) → AreBytes x → (signed_big_endian w).spells x z → Signed w z
unfolding fixed
signed_big w x z all s = let m = mapped (take_bytes w) (λ b. twos_complement w (big_number w b)) x z all s in
    record { of = big_number w m.of; below = big_below 0 w m.of (subst AreBytes (sym m.spelled.0) m.are); is = m.is }

big_whole : (w : ℕ) (x : List ℕ) (n : ℕ) → AreBytes x → (big_endian w).spells x n → n < 256 ^ w
unfolding fixed
big_whole w x n all s = let m = mapped (take_bytes w) (λ b. big_number w b) x n all s in
    subst (λ (k : ℕ). k < 256 ^ w) (sym m.is) (big_below 0 w m.of (subst AreBytes (sym m.spelled.0) m.are))

micros_small : (w n : ℕ) → w ≤ 3 → n < 256 ^ w → unsigned_abs (twos_complement w n) * fraction_unit w < 2 ^ 26
micros_small zero n h low = let b = near n 1 1 in omega arith
micros_small (suc zero) n h low = let b = near n (2 ^ 7) (2 ^ 8) in omega arith
micros_small (suc (suc zero)) n h low = let b = near n (2 ^ 15) (2 ^ 16) in omega arith
micros_small (suc (suc (suc zero))) n h low = let b = near n (2 ^ 23) (2 ^ 24) in omega arith
micros_small (suc (suc (suc (suc w)))) n h low = absurd (omega arith)

width_small : (decimals : ℕ) → fraction_width decimals ≤ 3
width_small decimals = by (nat_lt 6 decimals) refl
  where
    by : (p : Bool) → nat_lt 6 decimals ≡ p → (if p then 0 else (decimals + 1) / 2) ≤ 3
    by true e = omega arith
    by false e = let most = ltb-false 6 decimals e in omega arith

fraction_small : (w : ℕ) (x : List ℕ) (micros : ℤ) → w ≤ 3 → AreBytes x → (fraction w).spells x micros → unsigned_abs micros < 2 ^ 26
unfolding fraction
fraction_small w x micros h all s =
    let m = mapped (signed_big_endian w) (λ f. f *ℤ pos (fraction_unit w)) x micros all s in
    let z = signed_big w m.bytes m.of m.are m.spelled in
    let small = micros_small w z.of h z.below in
    let size : unsigned_abs micros ≡ unsigned_abs (twos_complement w z.of) * fraction_unit w =
    ap unsigned_abs m.is ∙ (unsigned_abs-mul m.of (pos (fraction_unit w)) ∙ ap (λ (f : ℤ). unsigned_abs f * fraction_unit w) z.is) in
    omega arith

sum_small : (a b : ℤ) → unsigned_abs (a +ℤ b) ≤ unsigned_abs a + unsigned_abs b
sum_small a b = omega (arith, ints)

gap_small : (m n : ℕ) → unsigned_abs (pos m -ℤ pos n) ≤ m + n
gap_small m n = omega (arith, ints)

packed_small : (whole : ℕ) (micros : ℤ) → whole < 2 ^ 40 → unsigned_abs micros < 2 ^ 26 → unsigned_abs (packed_time (pos whole -ℤ pos (2 ^ 39)) micros) ≤ 2 ^ 65
packed_small whole micros h low =
    let sum = sum_small ((pos whole -ℤ pos (2 ^ 39)) *ℤ pos (2 ^ 24)) micros in
    let gap = gap_small whole (2 ^ 39) in
    omega (arith, sum, gap, unsigned_abs-mul (pos whole -ℤ pos (2 ^ 39)) (pos (2 ^ 24)))

year_small : (whole : ℕ) (micros z : ℤ) → whole < 2 ^ 40 → unsigned_abs micros < 2 ^ 26 → datetime2_sum whole micros ≡ Ok z → unsigned_abs z / 2 ^ 46 / 13 < 2 ^ 16
year_small whole micros z h low e =
    let size : unsigned_abs z ≤ 2 ^ 65 = subst (λ (y : ℤ). unsigned_abs y ≤ 2 ^ 65) (sym (in_range_same z (packed_time (pos whole -ℤ pos (2 ^ 39)) micros) e)) (packed_small whole micros h low) in
    omega arith

datetime2_fits : (decimals : ℕ) (x : List ℕ) (v : PlainValue) → AreBytes x → (datetime2_cell decimals).spells x v → Fits date v
unfolding datetime2_cell datetime2 shape
datetime2_fits decimals x v all s =
    let m = mapped (datetime2 decimals) datetime_value x v all s in
    let d = m.spelled in
    let rest = after d.1 d.2 (subst AreBytes d.3 m.are) in
    let micros = fraction_small (fraction_width decimals) d.5.1 d.5.0 (width_small decimals) (before d.5.1 d.5.2 (subst AreBytes d.5.3 rest)) d.5.4 in
    let whole = big_whole 5 d.1 d.0 (before d.1 d.2 (subst AreBytes d.3 m.are)) d.4 in
    let year = year_small d.0 d.5.0 m.of whole micros d.5.5.1 in
    subst (Fits date) (sym m.is) (record { shaped = refl; in_range = (year, omega arith, omega arith, omega arith, omega arith, omega arith) })

-- ---- all forms

by_form : (f : PlainForm) (x : List ℕ) (v : PlainValue) → AreBytes x → (plain_by f).spells x v → Fits (shape_of f) v
unfolding plain_by shape_of
by_form (form.Integer w unsigned) x v all s = integer_fits w unsigned x v all s
by_form (form.LongInteger true) x v all s = long_fits true x v all s
by_form (form.LongInteger false) x v all s = long_fits false x v all s
by_form form.Float x v all s = float_fits x v all s
by_form form.Double x v all s = double_fits x v all s
by_form form.Timestamp x v all s = timestamp_fits x v all s
by_form form.Time x v all s = time_fits x v all s
by_form form.Datetime x v all s = datetime_fits x v all s
by_form form.Year x v all s = year_fits x v all s
by_form form.Date x v all s = date_fits x v all s
by_form (form.Timestamp2 decimals) x v all s = timestamp2_fits decimals x v all s
by_form (form.Datetime2 decimals) x v all s = datetime2_fits decimals x v all s
by_form (form.Time2 decimals) x v all s = time2_fits decimals x v all s
by_form (form.Decimal precision scale) x v all s = decimal_fits precision scale x v all s
by_form (form.Fixed n) x v all s = fixed_fits n x v all s
by_form (form.Text w) x v all s = text_fits (bytes_in w) x v all s
by_form (form.Variant w) x v all s = variant_fits w x v all s

-- ---- cells

record ReadBy (type : ColumnType) (metadata : List ℕ) (unsigned : Bool) (v : PlainValue) : Type 0 where
  how : PlainForm
  is : form_of type metadata unsigned ≡ Ok (way.Plain how)
  bytes : List ℕ
  are : AreBytes bytes
  spelled : (plain_by how).spells bytes v

not_plain : (partial : Bool) (x : List ℕ) (n : ℕ) (v : PlainValue) →
    (choice partial (map_value (inside n (repeated diff)) DiffsCell) (map_value (inside n json) JsonCell)).spells x (PlainCell v) → ⊥
not_plain true x n v s = cc (s.5.1)
not_plain false x n v s = cc (s.5.1)

read_by : (type : ColumnType) (metadata : List ℕ) (unsigned partial : Bool) (x : List ℕ) (v : PlainValue) → AreBytes x → (cell type metadata unsigned partial).spells x (PlainCell v) → ReadBy type metadata unsigned v
unfolding cell_by_form cell_by json_cell
read_by type metadata unsigned partial x v all spelled =
    let s = spelled_by_form type metadata unsigned partial x (PlainCell v) spelled in
    by s.0 s.2 s.4.1 (after s.1 s.2 (subst AreBytes s.3 all)) s.5
  where
    by : (f : Form) (z : List ℕ) → form_of type metadata unsigned ≡ Ok f → AreBytes z → (cell_by partial f).spells z (PlainCell v) → ReadBy type metadata unsigned v
    by (way.Plain f) z is are t =
        let m = mapped (plain_by f) PlainCell z (PlainCell v) are t in
        let same : m.of ≡ v = cc (m.is) in
        record { how = f; is = is; bytes = m.bytes; are = m.are; spelled = subst (λ (u : PlainValue). (plain_by f).spells m.bytes u) same m.spelled }
    by way.Json z is are t = absurd (not_plain partial t.2 t.0 v t.5)

-- ---- digits of a TIMESTAMP2

IsStamp : PlainForm → Type 0
IsStamp f = (f ≡ form.Timestamp) ⊎ ((decimals : ℕ) × (f ≡ form.Timestamp2 decimals))

element_stamp : (type : ColumnType) (metadata : List ℕ) (unsigned : Bool) (n d : ℕ) (f : PlainForm) → element_kind type metadata n ≡ kind.Timestamp d → element_form type metadata unsigned ≡ Ok (way.Plain f) → IsStamp f
unfolding plain_form IsStamp
element_stamp column.MYSQL_TYPE_TIMESTAMP metadata unsigned n d f k e = inl (cc (e))
element_stamp column.MYSQL_TYPE_TIMESTAMP2 [] unsigned n d f k e = absurd (cc (e))
element_stamp column.MYSQL_TYPE_TIMESTAMP2 (m0 ∷ more) unsigned n d f k e = inr (m0, cc (e))
element_stamp _ metadata unsigned n d f k e = absurd (cc (k))

inner_stamp : (type : Result ColumnType Fault) (metadata : List ℕ) (unsigned : Bool) (n d : ℕ) (f : PlainForm) → inner_kind type metadata n ≡ kind.Timestamp d → typed_form type metadata unsigned ≡ Ok (way.Plain f) → IsStamp f
inner_stamp (Ok type) metadata unsigned n d f k e = element_stamp type metadata unsigned n d f k e
inner_stamp (Err fault) metadata unsigned n d f k e = absurd (cc (e))

string_stamp : (charset : Charset) (metadata : List ℕ) (d : ℕ) → string_kind charset metadata ≡ kind.Timestamp d → ⊥
string_stamp Binary [] d k = cc
string_stamp Binary (m0 ∷ []) d k = cc
string_stamp Binary (m0 ∷ m1 ∷ more) d k = by (m0 == 0xFE) k
  where
    by : (b : Bool) → (if b then kind.Binary m1 else kind.Text Binary) ≡ kind.Timestamp d → ⊥
    by true e = cc
    by false e = cc
string_stamp _ metadata d k = cc

stamp : (type : ColumnType) (metadata : List ℕ) (unsigned : Bool) (n d : ℕ) (f : PlainForm) → kind_of type metadata n ≡ kind.Timestamp d → form_of type metadata unsigned ≡ Ok (way.Plain f) → IsStamp f
stamp column.MYSQL_TYPE_STRING metadata unsigned n d f k e = absurd (string_stamp (charset_of n) metadata d k)
stamp column.MYSQL_TYPE_TYPED_ARRAY [] unsigned n d f k e = absurd (cc (e))
stamp column.MYSQL_TYPE_TYPED_ARRAY (m0 ∷ more) unsigned n d f k e = inner_stamp (column_type_of m0) (m0 ∷ more) unsigned n d f k e
stamp type metadata unsigned n d f k e = element_stamp type metadata unsigned n d f k e

stamp_low : (f : PlainForm) (x y : List ℕ) (v : PlainValue) → AreBytes y → (plain_by f).spells y v → IsStamp f → v ≡ Bytes x → All (λ byte. byte < 58) x
unfolding IsStamp plain_by timestamp2_cell shape shape_of
stamp_low f x y v all s (inl is) e = absurd (
    let by_value : shape v ≡ bytes = ap shape e in
    let by_bytes : shape v ≡ int = (by_form f y v all s).shaped ∙ ap shape_of is in
    cc)
stamp_low f x y v all s (inr is) e =
    let t = mapped (timestamp2 is.0) (λ t. Bytes (timestamp_text t)) y v all (subst (λ (g : PlainForm). (plain_by g).spells y v) is.1 s) in
    let same : timestamp_text t.of ≡ x = cc (t.is, e) in
    subst (All (λ byte. byte < 58)) same (low_all (timestamp_text t.of) (timestamp_low t.of))

kind_digits : (k : Kind) (v : PlainValue) → ((d : ℕ) (x : List ℕ) → k ≡ kind.Timestamp d → v ≡ Bytes x → All (λ byte. byte < 58) x) → HasDigits k v
kind_digits (kind.Timestamp d) (Bytes x) h = h d x refl refl
kind_digits _ _ h = tt

-- ---- columns

-- NULL, or a value by the way that the column's cells are read
IsRead : table.Column → PlainValue → Type 0
IsRead t v = (v ≡ Null) ⊎ ReadBy t.column_type (unwrap_or t.metadata []) t.unsigned v

read : (t : table.Column) (v : PlainValue) → IsCellOf t v → IsRead t v
unfolding IsRead nullable_cell
read t v cell = by cell.is_null cell.spelled
  where
    by : (p : Bool) → (nullable_cell p cell.partials t).spells cell.bytes (PlainCell v) → IsRead t v
    by true s = inl (cc (s.1))
    by false s = inr (read_by t.column_type (unwrap_or t.metadata []) t.unsigned (is_partial cell.partials t) cell.bytes v cell.are s)

of_column : (i : ℕ) (names : Names) (t : table.Column) (v : PlainValue) → IsRead t v → IsOfColumn (column_of i names t) v
unfolding IsRead
of_column i names t v (inl e) = subst (IsOfColumn (column_of i names t)) (sym e)
    (record { in_range = tt; digits = kind_digits (column_of i names t).kind Null (λ d x k is. absurd (cc (is))) })
of_column i names t v (inr r) = record {
  in_range = (by_form r.how r.bytes v r.are r.spelled).in_range;
  digits = kind_digits (column_of i names t).kind v (λ d x e is. stamp_low r.how x r.bytes v r.are r.spelled (stamp t.column_type (unwrap_or t.metadata []) t.unsigned t.charset d r.how e r.is) is);
}

null_last : (v : PlainValue) → AreAlike v Null
null_last Null = tt
null_last v = tt

alike : (t : table.Column) (v w : PlainValue) → IsRead t v → IsRead t w → AreAlike v w
unfolding IsRead
alike t v w (inl e) b = subst (λ u. AreAlike u w) (sym e) tt
alike t v w (inr a) (inl e) = subst (AreAlike v) (sym e) (null_last v)
alike t v w (inr a) (inr b) =
    let same : a.how ≡ b.how = cc (a.is, b.is) in
    same_shape v w ((by_form a.how a.bytes v a.are a.spelled).shaped ∙ (ap shape_of same ∙ sym (by_form b.how b.bytes w b.are b.spelled).shaped))

pub of_one_column : (i : ℕ) (names : Names) (t : table.Column) (v w : PlainValue) → IsCellOf t v → IsCellOf t w → AreOfOneColumn (column_of i names t) v w
of_one_column i names t v w a b =
    let p = read t v a in
    let q = read t w b in
    record { alike = alike t v w p q; first = of_column i names t v p; second = of_column i names t w q }

-- ---- cells that may be documents

not_partial : (b : Bool) (n : ℕ) → (b && slice_index_or [] n false) ≡ false
not_partial true n = refl
not_partial false n = refl

not_json : (x : List ℕ) (n : ℕ) (partial : Bool) (d : List Diff) → partial ≡ false → (choice partial (map_value (inside n (repeated diff)) DiffsCell) (map_value (inside n json) JsonCell)).spells x (DiffsCell d) → ⊥
not_json x n true d e s = cc (e)
not_json x n false d e s = cc (s.5.1)

-- a document is read by the form of documents
json_read : (t : table.Column) (d : JsonbValue) → IsWholeCellOf t (JsonCell d) → form_of t.column_type (unwrap_or t.metadata []) t.unsigned ≡ Ok way.Json
unfolding nullable_cell cell_by_form cell_by json_cell
json_read t d whole = by whole.is_null whole.spelled
  where
    by_form_of : (f : Form) (partial : Bool) (z : List ℕ) → form_of t.column_type (unwrap_or t.metadata []) t.unsigned ≡ Ok f → (cell_by partial f).spells z (JsonCell d) → form_of t.column_type (unwrap_or t.metadata []) t.unsigned ≡ Ok way.Json
    by_form_of (way.Plain f) partial z is s = absurd (cc (s.5.1))
    by_form_of way.Json partial z is s = is

    by : (p : Bool) → (nullable_cell p [] t).spells whole.bytes (JsonCell d) → form_of t.column_type (unwrap_or t.metadata []) t.unsigned ≡ Ok way.Json
    by true s = absurd (cc (s.1))
    by false spelled =
        let s = spelled_by_form t.column_type (unwrap_or t.metadata []) t.unsigned (is_partial [] t) whole.bytes (JsonCell d) spelled in
        by_form_of s.0 (is_partial [] t) s.2 s.4.1 s.5

-- there are no diffs
no_diffs : (t : table.Column) (d : List Diff) → IsWholeCellOf t (DiffsCell d) → ⊥
unfolding nullable_cell cell_by_form cell_by json_cell
no_diffs t d whole = by whole.is_null whole.spelled
  where
    by_form_of : (f : Form) (partial : Bool) (z : List ℕ) → partial ≡ false → (cell_by partial f).spells z (DiffsCell d) → ⊥
    by_form_of (way.Plain f) partial z is s = cc (s.5.1)
    by_form_of way.Json partial z is s = not_json s.2 s.0 partial d is s.5

    by : (p : Bool) → (nullable_cell p [] t).spells whole.bytes (DiffsCell d) → ⊥
    by true s = cc (s.1)
    by false spelled =
        let s = spelled_by_form t.column_type (unwrap_or t.metadata []) t.unsigned (is_partial [] t) whole.bytes (DiffsCell d) spelled in
        by_form_of s.0 (is_partial [] t) s.2 (not_partial (is_json t.column_type) t.json_place) s.5

plain_of_cell : (t : table.Column) (v : PlainValue) → IsWholeCellOf t (PlainCell v) → IsCellOf t v
plain_of_cell t v cell = record { is_null = cell.is_null; partials = []; bytes = cell.bytes; are = cell.are; spelled = cell.spelled }

-- beside a document stands NULL
only_null_beside : (t : table.Column) (v : PlainValue) (d : JsonbValue) → IsWholeCellOf t (PlainCell v) → IsWholeCellOf t (JsonCell d) → v ≡ Null
unfolding IsRead
only_null_beside t v d a b = by (read t v (plain_of_cell t v a))
  where
    by : IsRead t v → v ≡ Null
    by (inl e) = e
    by (inr r) = let other = json_read t d b in absurd (cc (r.is, other))

pub cells_of_one_column : (i : ℕ) (names : Names) (t : table.Column) (x y : Cell) → IsWholeCellOf t x → IsWholeCellOf t y → AreCellsOfOneColumn (column_of i names t) (Some x) (Some y)
cells_of_one_column i names t (PlainCell v) (PlainCell w) a b = of_one_column i names t v w (plain_of_cell t v a) (plain_of_cell t w b)
cells_of_one_column i names t (PlainCell v) (JsonCell e) a b = only_null_beside t v e a b
cells_of_one_column i names t (JsonCell d) (PlainCell w) a b = only_null_beside t w d b a
cells_of_one_column i names t (JsonCell d) (JsonCell e) a b = tt
cells_of_one_column i names t (DiffsCell d) y a b = absurd (no_diffs t d a)
cells_of_one_column i names t x (DiffsCell e) a b = absurd (no_diffs t e b)
