-- The digits before the point that the text of a packed decimal has: all but the zeros at their start, and a zero if none is left.
use borrow.Rule.Slice.PartMut.{put_mid, post_of, mid_of}
use Rattle.std.proofs.Common.{◌≡◌, ◌≢◌, ℕ, zero, suc, ◌+◌, ◌-◌, ◌*◌, ◌/◌, ◌%◌, ◌<◌, ◌≤◌, min, Bool, true, false, not, List, [], ◌∷◌, ◌++◌, length, take, drop, replicate, set, Ok, refl, sym, ap, ◌∙◌, append-nil, append_assoc, arith}
use Rattle.std.specs.Prelude.{◌==◌, ◌&&◌, nat_lt, slice_index}
use Rattle.std.specs.List.{list_all, prefix_len, take_while, flat_map}
use Rattle.std.specs.Fmt.{decimal, sign_text}
use Rattle.std.specs.Int.{from_bool}
use Rattle.std.specs.Int.Digits.{AllBelowBase}
use Rattle.std.proofs.Math.Dec.{eqb-suc-zero}
use Rattle.std.proofs.lemmas.Bool.{eq-eqb, le-ltb, lt-ltb}
use Rattle.std.proofs.lemmas.List.{length-drop, length-map, length-take-le, length-append, drop-append-le, drop_all, drop_at, take_at, drop-map, drop-set, take_rest}
use Rattle.std.proofs.lemmas.List.Folds.{length-prefix_len}
use Rattle.binlog_decimal.specs.Decimals.{DecimalView, integer_groups, without_zero_groups, trimmed_decimal, or_zero}
use Rattle.binlog_base.specs.Format.{map_value}
use Rattle.binlog_decimal.specs.PackedDecimals.{packed_digits, packed_decimal}
use Rattle.binlog_decimal.specs.DecimalText.{integer_text, fraction_digits_text, decimal_text}
use Rattle.binlog_decimal.specs.Lemmas.PackedDecimals.{view_of}
use Rattle.binlog_decimal.proofs.DecimalSteps.{below-drop, zeros_stop, zeros_more, zeros_end}
use Rattle.binlog_decimal.proofs.DigitCharacters.{chars, glyphs}
use Rattle.binlog_decimal.proofs.DecimalPrinting.{apart, alike}
use Rattle.binlog_decimal.proofs.DecimalPutting.{zero_text}

abbrev all_zeros : List ℕ → Bool
all_zeros ds = list_all (λ d. d == 0) ds

-- how many zeros are at the start
abbrev pub zeros_of : List ℕ → ℕ
zeros_of ds = prefix_len (λ d. d == 0) ds

-- a zero and the digits, without the zeros at their start; the last digit is kept
abbrev pub kept_of : List ℕ → List ℕ
kept_of ds = drop (min (1 + zeros_of ds) (length ds)) (0 ∷ ds)

pub zero_more : (ds : List ℕ) → zeros_of (0 ∷ ds) ≡ 1 + zeros_of ds
zero_more ds = refl

pub no_zeros : (d : ℕ) (ds : List ℕ) → zeros_of (suc d ∷ ds) ≡ 0
no_zeros d ds = rw (eqb-suc-zero d) refl

not_zeros : (d g : ℕ) (ds : List ℕ) → all_zeros (take (suc g) (suc d ∷ ds)) ≡ false
not_zeros d g ds = rw (eqb-suc-zero d) refl

both : {b : Bool} → b ≡ true → b ≡ false → ⊥
both p q = cc

pub one_less : (ds : List ℕ) → kept_of (0 ∷ ds) ≡ kept_of ds
one_less ds =
    let count : min (1 + zeros_of (0 ∷ ds)) (length (0 ∷ ds)) ≡ suc (min (1 + zeros_of ds) (length ds)) = omega (arith, zero_more ds) in
    ap (λ (n : ℕ). drop n (0 ∷ 0 ∷ ds)) count

-- groups of zeros at the start make no difference
zeros_gone : (g : ℕ) (ds : List ℕ) → all_zeros (take g ds) ≡ true → kept_of (drop g ds) ≡ kept_of ds
zeros_gone zero ds h = refl
zeros_gone (suc g) [] h = refl
zeros_gone (suc g) (zero ∷ ds) h = zeros_gone g ds h ∙ sym (one_less ds)
zeros_gone (suc g) (suc d ∷ ds) h = absurd (both h (not_zeros d g ds))

zeros_same : (g : ℕ) (ds : List ℕ) → all_zeros (take g ds) ≡ true → (zeros_of (drop g ds) == length (drop g ds)) ≡ (zeros_of ds == length ds)
zeros_same zero ds h = refl
zeros_same (suc g) [] h = refl
zeros_same (suc g) (zero ∷ ds) h =
    let more = zero_more ds in
    zeros_same g ds h ∙ alike (zeros_of ds) (length ds) (zeros_of (0 ∷ ds)) (length (0 ∷ ds)) (λ e. omega (arith, e, more)) (λ e. omega (arith, e, more))
zeros_same (suc g) (suc d ∷ ds) h = absurd (both h (not_zeros d g ds))

few_zeros : (g : ℕ) (ds : List ℕ) → all_zeros (take g ds) ≡ false → (zeros_of ds < g) × (zeros_of ds < length ds)
few_zeros zero ds h = absurd cc
few_zeros (suc g) [] h = absurd cc
few_zeros (suc g) (zero ∷ ds) h =
    let more = zero_more ds in
    let r = few_zeros g ds h in
    (omega (arith, more, r.0), omega (arith, more, r.1))
few_zeros (suc g) (suc d ∷ ds) h = let none = no_zeros d ds in (omega (arith, none), omega (arith, none))

-- digits whose first group of g isn't all zeros
shown_here : (g : ℕ) (ds : List ℕ) → AllBelowBase 10 ds → all_zeros (take g ds) ≡ false → (length ds - 1) % 9 ≡ g - 1 → integer_text ds ≡ chars (kept_of ds)
shown_here g [] h some count = absurd (omega (arith, (few_zeros g [] some).1))
shown_here g (d ∷ ds) h some count =
    let all = d ∷ ds in
    let few = few_zeros g all some in
    let z : length (take_while (λ d. d == 0) all) ≡ zeros_of all = length-prefix_len (λ d. d == 0) all in
    let first : min (length (take_while (λ d. d == 0) all)) ((length all - 1) % 9) ≡ zeros_of all = omega (arith, z, few.0, count) in
    let second : min (1 + zeros_of all) (length all) ≡ suc (zeros_of all) = omega (arith, few.1) in
    ap (λ (n : ℕ). flat_map decimal (drop n all)) first ∙ glyphs (drop (zeros_of all) all) (below-drop 10 (zeros_of all) all h) ∙ ap (λ (n : ℕ). chars (drop n (0 ∷ all))) (sym second)

-- What is left of digits without the groups at their start that are all zeros: its text, and whether there is nothing.
record IsLeft (ds left : List ℕ) : Type 0 where
  text : integer_text left ≡ chars (kept_of ds)
  none : (length left == 0) ≡ (zeros_of ds == length ds)

stopped : (g : ℕ) (sizes ds : List ℕ) → AllBelowBase 10 ds → all_zeros (take g ds) ≡ false → (length ds - 1) % 9 ≡ g - 1 → IsLeft ds (without_zero_groups (g ∷ sizes) ds)
stopped g sizes ds h some count =
    let few = few_zeros g ds some in
    let left = zeros_stop g sizes ds some in
    record {
      text = ap integer_text left ∙ shown_here g ds h some count;
      none = ap (λ (l : List ℕ). length l == 0) left ∙ apart (length ds) 0 (λ e. omega (arith, e, few.1)) ∙ sym (apart (zeros_of ds) (length ds) (λ e. omega (arith, e, few.1)));
    }

gone : (g : ℕ) (sizes ds : List ℕ) → all_zeros (take g ds) ≡ true → IsLeft (drop g ds) (without_zero_groups sizes (drop g ds)) → IsLeft ds (without_zero_groups (g ∷ sizes) ds)
gone g sizes ds zeros r =
    let left = zeros_more g sizes ds zeros in
    record {
      text = ap integer_text left ∙ r.text ∙ ap chars (zeros_gone g ds zeros);
      none = ap (λ (l : List ℕ). length l == 0) left ∙ r.none ∙ zeros_same g ds zeros;
    }

-- a first group and those after it
grouped : (g : ℕ) (sizes ds : List ℕ) → AllBelowBase 10 ds → (0 < g → (length ds - 1) % 9 ≡ g - 1) → IsLeft (drop g ds) (without_zero_groups sizes (drop g ds)) → IsLeft ds (without_zero_groups (g ∷ sizes) ds)
grouped g sizes ds h count rest = one (all_zeros (take g ds)) refl
  where
    one : (b : Bool) → all_zeros (take g ds) ≡ b → IsLeft ds (without_zero_groups (g ∷ sizes) ds)
    one true e = gone g sizes ds e rest
    one false e = stopped g sizes ds h e (count (omega (arith, (few_zeros g ds e).0)))

nines : (k : ℕ) (ds : List ℕ) → AllBelowBase 10 ds → length ds ≡ 9 * k → IsLeft ds (without_zero_groups (replicate k 9) ds)
nines zero [] h long = record { text = ap integer_text (zeros_end []); none = ap (λ (l : List ℕ). length l == 0) (zeros_end []) }
nines zero (d ∷ ds) h long = absurd (omega (arith, long))
nines (suc k) ds h long = grouped 9 (replicate k 9) ds h (λ some. omega (arith, long)) (nines k (drop 9 ds) (below-drop 10 9 ds h) (omega (arith, length-drop 9 ds, long)))

left_of : (ds : List ℕ) → AllBelowBase 10 ds → IsLeft ds (without_zero_groups (integer_groups (length ds)) ds)
left_of ds h =
    let short = length ds % 9 in
    grouped short (replicate (length ds / 9) 9) ds h (λ some. omega (arith, some)) (nines (length ds / 9) (drop short ds) (below-drop 10 short ds h) (omega (arith, length-drop short ds)))

-- the sign of a text: none for a zero of no digits
abbrev pub has_sign : Bool → List ℕ → List ℕ → Bool
has_sign negative integer fraction = negative && not ((zeros_of integer == length integer) && (length fraction == 0))

and_false : (b : Bool) → (b && false) ≡ false
and_false true = refl
and_false false = refl

and_true : (b : Bool) → (b && true) ≡ b
and_true true = refl
and_true false = refl

or_zero-some : (d : DecimalView) → (length d.integer + length d.fraction == 0) ≡ false → or_zero d ≡ d
or_zero-some d h = rw h refl

text_by : (negative : Bool) (integer left fraction : List ℕ) → IsLeft integer left → decimal_text (or_zero (view_of negative left fraction)) ≡ sign_text (has_sign negative integer fraction) ++ (chars (kept_of integer) ++ fraction_digits_text fraction)
unfolding decimal_text
text_by negative integer [] [] r =
    let sign : has_sign negative integer [] ≡ false = ap (λ (b : Bool). negative && not (b && true)) (sym r.none) ∙ and_false negative in
    zero_text ∙ ap (λ (l : List ℕ). l ++ []) r.text ∙ ap (λ (b : Bool). sign_text b ++ (chars (kept_of integer) ++ [])) (sym sign)
text_by negative integer [] (f ∷ fraction) r =
    let all = f ∷ fraction in
    let more : (length all == 0) ≡ false = apart (length all) 0 (λ e. omega (arith, e)) in
    let sign : has_sign negative integer all ≡ negative = ap (λ (b : Bool). negative && not ((zeros_of integer == length integer) && b)) more ∙ ap (λ (b : Bool). negative && not b) (and_false (zeros_of integer == length integer)) ∙ and_true negative in
    ap decimal_text (or_zero-some (view_of negative [] all) (apart (length {A = ℕ} [] + length all) 0 (λ e. omega (arith, e))))
    ∙ ap (λ (l : List ℕ). sign_text negative ++ (l ++ fraction_digits_text all)) r.text
    ∙ ap (λ (b : Bool). sign_text b ++ (chars (kept_of integer) ++ fraction_digits_text all)) (sym sign)
text_by negative integer (d ∷ left) fraction r =
    let all = d ∷ left in
    let some : (zeros_of integer == length integer) ≡ false = sym r.none ∙ apart (length all) 0 (λ e. omega (arith, e)) in
    let sign : has_sign negative integer fraction ≡ negative = ap (λ (b : Bool). negative && not (b && (length fraction == 0))) some ∙ and_true negative in
    ap decimal_text (or_zero-some (view_of negative all fraction) (apart (length all + length fraction) 0 (λ e. omega (arith, e))))
    ∙ ap (λ (l : List ℕ). sign_text negative ++ (l ++ fraction_digits_text fraction)) r.text
    ∙ ap (λ (b : Bool). sign_text b ++ (chars (kept_of integer) ++ fraction_digits_text fraction)) (sym sign)

pub trimmed_text : (negative : Bool) (integer fraction : List ℕ) → AllBelowBase 10 integer → decimal_text (trimmed_decimal (view_of negative integer fraction)) ≡ sign_text (has_sign negative integer fraction) ++ (chars (kept_of integer) ++ fraction_digits_text fraction)
unfolding trimmed_decimal
trimmed_text negative integer fraction h = text_by negative integer (without_zero_groups (integer_groups (length integer)) integer) fraction (left_of integer h)

-- ---- digits that are made characters in their place

-- what is before the digits, and the digits, which begin with a zero
made : (m : ℕ) (integer digits : List ℕ) (n : ℕ) → digits ≡ chars (0 ∷ integer) → n ≡ suc (length integer) → put_mid 1 n (m ∷ 0 ∷ integer) digits ≡ m ∷ chars (0 ∷ integer)
made m integer digits n is count =
    let none : post_of 1 n (m ∷ 0 ∷ integer) ≡ [] = drop_all n (0 ∷ integer) (omega (arith, count)) in
    ap (λ (l : List ℕ). m ∷ (digits ++ l)) none ∙ ap (λ (l : List ℕ). m ∷ l) (append-nil digits ∙ is)

-- The digits of a room that begins with a place for the minus and a zero: characters, and how many of them are hidden.
pub record IsMade (before digits : List ℕ) (hidden n : ℕ) : Type 0 where
  pub long : 2 ≤ length before
  pub zero : slice_index before 1 ≡ 0
  pub characters : digits ≡ chars (drop 1 before)
  pub count : n ≡ length before - 1
  pub hides : hidden ≡ min (1 + zeros_of (drop 2 before)) (length (drop 2 before))

pub shown_after : (before digits : List ℕ) (hidden n : ℕ) → IsMade before digits hidden n → drop (hidden + 1) (put_mid 1 n before digits) ≡ chars (kept_of (drop 2 before))
shown_after [] digits hidden n is = absurd (omega (arith, is.long))
shown_after (m ∷ []) digits hidden n is = absurd (omega (arith, is.long))
shown_after (m ∷ suc d ∷ integer) digits hidden n is = absurd (omega (arith, is.zero))
shown_after (m ∷ zero ∷ integer) digits hidden n is =
    let next : hidden + 1 ≡ suc hidden = omega arith in
    ap (drop (hidden + 1)) (made m integer digits n is.characters (omega (arith, is.count)))
    ∙ ap (λ (k : ℕ). drop k (m ∷ chars (0 ∷ integer))) next
    ∙ drop-map (λ (d : ℕ). 48 + d) hidden (0 ∷ integer)
    ∙ ap (λ (k : ℕ). chars (drop k (0 ∷ integer))) is.hides

long_enough : (before digits : List ℕ) (hidden n : ℕ) → IsMade before digits hidden n → hidden < length (put_mid 1 n before digits)
long_enough [] digits hidden n is = absurd (omega (arith, is.long))
long_enough (m ∷ []) digits hidden n is = absurd (omega (arith, is.long))
long_enough (m ∷ suc d ∷ integer) digits hidden n is = absurd (omega (arith, is.zero))
long_enough (m ∷ zero ∷ integer) digits hidden n is =
    omega (arith, ap length (made m integer digits n is.characters (omega (arith, is.count))), length-map (0 ∷ integer) (λ (d : ℕ). 48 + d), is.hides)

pub shown_minus : (before digits : List ℕ) (hidden n : ℕ) → IsMade before digits hidden n → drop hidden (set (put_mid 1 n before digits) hidden 45) ≡ 45 ∷ chars (kept_of (drop 2 before))
shown_minus before digits hidden n is =
    drop-set (put_mid 1 n before digits) hidden 45 (long_enough before digits hidden n is) ∙ ap (λ (l : List ℕ). 45 ∷ l) (shown_after before digits hidden n is)

-- the zeros that are counted
pub zeros_counted : (before : List ℕ) → 2 ≤ length before → slice_index before 1 ≡ 0 → length (take_while (λ d. d == 0) (take (length before - 1) (drop 1 before))) ≡ 1 + zeros_of (drop 2 before)
zeros_counted [] long first = absurd (omega (arith, long))
zeros_counted (m ∷ []) long first = absurd (omega (arith, long))
zeros_counted (m ∷ suc d ∷ integer) long first = absurd (omega (arith, first))
zeros_counted (m ∷ zero ∷ integer) long first =
    ap (λ (l : List ℕ). length (take_while (λ d. d == 0) l)) (take_rest (m ∷ 0 ∷ integer) 1) ∙ length-prefix_len (λ d. d == 0) (0 ∷ integer)

pub zero_if : (counted len a b n : ℕ) (is_zero empty : Bool) → counted ≡ 1 + a → len ≡ 1 + b → counted ≡ len → empty ≡ (n == 0) → is_zero ≡ empty → is_zero ≡ ((a == b) && (n == 0))
zero_if counted len a b n is_zero empty first second same h is = is ∙ h ∙ ap (λ (c : Bool). c && (n == 0)) (sym (eq-eqb a b (omega (arith, first, second, same))))

pub zero_unless : (counted len a b n : ℕ) (is_zero : Bool) → counted ≡ 1 + a → len ≡ 1 + b → counted ≢ len → is_zero ≡ (counted == len) → is_zero ≡ ((a == b) && (n == 0))
zero_unless counted len a b n is_zero first second other is = is ∙ apart counted len other ∙ ap (λ (c : Bool). c && (n == 0)) (sym (apart a b (λ e. other (omega (arith, first, second, e)))))

pub is_made : (before digits : List ℕ) (counted hidden : ℕ) → 2 ≤ length before → slice_index before 1 ≡ 0 → counted ≡ 1 + zeros_of (drop 2 before)
    → digits ≡ chars (take (length before - 1) (drop 1 before)) → hidden ≡ min counted (length (take (length before - 1) (drop 1 before)) - 1) → IsMade before digits hidden (length before - 1)
is_made before digits counted hidden long first is made h =
    let all = take_rest before 1 in
    record {
      long = long;
      zero = first;
      characters = made ∙ ap chars all;
      count = refl;
      hides = omega (arith, h, is, ap length all, length-drop 1 before, length-drop 2 before);
    }

pub with_minus : (negative is_zero : Bool) (before digits fraction : List ℕ) (hidden n : ℕ) → IsMade before digits hidden n → AllBelowBase 10 (drop 2 before)
    → is_zero ≡ ((zeros_of (drop 2 before) == length (drop 2 before)) && (length fraction == 0)) → negative ≡ true → is_zero ≡ false
    → drop hidden (set (put_mid 1 n before digits) hidden 45) ++ fraction_digits_text fraction ≡ decimal_text (trimmed_decimal (view_of negative (drop 2 before) fraction))
with_minus negative is_zero before digits fraction hidden n is below same minus some =
    let sign : has_sign negative (drop 2 before) fraction ≡ true = ap (λ (b : Bool). b && not ((zeros_of (drop 2 before) == length (drop 2 before)) && (length fraction == 0))) minus ∙ ap not (sym same ∙ some) in
    ap (λ (l : List ℕ). l ++ fraction_digits_text fraction) (shown_minus before digits hidden n is)
    ∙ sym (trimmed_text negative (drop 2 before) fraction below ∙ ap (λ (b : Bool). sign_text b ++ (chars (kept_of (drop 2 before)) ++ fraction_digits_text fraction)) sign)

pub without_minus : (negative is_zero : Bool) (before digits fraction : List ℕ) (hidden n : ℕ) → IsMade before digits hidden n → AllBelowBase 10 (drop 2 before)
    → is_zero ≡ ((zeros_of (drop 2 before) == length (drop 2 before)) && (length fraction == 0)) → (negative && not is_zero) ≡ false
    → drop (hidden + 1) (put_mid 1 n before digits) ++ fraction_digits_text fraction ≡ decimal_text (trimmed_decimal (view_of negative (drop 2 before) fraction))
without_minus negative is_zero before digits fraction hidden n is below same none =
    let sign : has_sign negative (drop 2 before) fraction ≡ false = ap (λ (b : Bool). negative && not b) (sym same) ∙ none in
    ap (λ (l : List ℕ). l ++ fraction_digits_text fraction) (shown_after before digits hidden n is)
    ∙ sym (trimmed_text negative (drop 2 before) fraction below ∙ ap (λ (b : Bool). sign_text b ++ (chars (kept_of (drop 2 before)) ++ fraction_digits_text fraction)) sign)

-- ---- the text in its room

-- the digits after the place for the minus and the zero
pub digits_in_room : (front digits : List ℕ) → 2 ≤ length front → length digits ≡ length front - 2 → drop 2 (put_mid 2 (length front - 2) front digits) ≡ digits
digits_in_room front digits long count =
    let none : post_of 2 (length front - 2) front ≡ [] = drop_all (length front - 2) (drop 2 front) (omega (arith, length-drop 2 front)) in
    drop_at (take 2 front) (digits ++ post_of 2 (length front - 2) front) 2 (length-take-le 2 front long) ∙ ap (λ (l : List ℕ). digits ++ l) none ∙ append-nil digits

pub text_whole : (i f : ℕ) (x : List ℕ) (d : DecimalView) → 0 < i + f → (packed_digits i f).parse x ≡ Ok (d, []) → (map_value (packed_decimal (i + f) f false) decimal_text).parse x ≡ Ok (decimal_text (trimmed_decimal d), [])
unfolding packed_decimal
text_whole i f x d some h =
    let above : nat_lt (i + f) f ≡ false = le-ltb (i + f) f (omega arith) in
    let asked : (i + f == 0) ≡ false = apart (i + f) 0 (λ e. omega (arith, e, some)) in
    let count : i + f - f ≡ i = omega arith in
    rw (above, asked, count, h) refl

-- a point and the digits after it
pub point_text : (fraction point characters : List ℕ) (n : ℕ) → AllBelowBase 10 fraction → point ≡ replicate n 46 → n ≡ from_bool (nat_lt 0 (length fraction)) → characters ≡ chars fraction → point ++ characters ≡ fraction_digits_text fraction
point_text [] point characters n h is count made = rw (is, count, made) refl
point_text (d ∷ fraction) point characters n h is count made =
    let one : n ≡ 1 = count ∙ ap from_bool (lt-ltb 0 (length (d ∷ fraction)) (omega arith)) in
    rw (is, one, made) (ap (λ (l : List ℕ). 46 ∷ l) (sym (glyphs (d ∷ fraction) h)))

-- the text is in the middle of its room
pub text_in_room : (before point after rest : List ℕ) (start n : ℕ) → start ≤ length before → n ≡ length before + length point + length after - start
    → mid_of start n (before ++ (point ++ (after ++ rest))) ≡ drop start before ++ (point ++ after)
text_in_room before point after rest start n within count =
    let text = drop start before ++ (point ++ after) in
    let whole : drop start (before ++ (point ++ (after ++ rest))) ≡ text ++ rest =
    drop-append-le start before (point ++ (after ++ rest)) within
    ∙ ap (λ (l : List ℕ). drop start before ++ l) (sym (append_assoc point after rest))
    ∙ sym (append_assoc (drop start before) (point ++ after) rest) in
    ap (take n) whole ∙ take_at text rest n (omega (arith, count, within, length-drop start before, length-append (drop start before) (point ++ after), length-append point after))

pub one_at_most : (b : Bool) → from_bool b ≤ 1
one_at_most true = omega arith
one_at_most false = omega arith
