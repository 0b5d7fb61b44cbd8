-- The decimals of texts, and trimmed decimals.
use Rattle.std.proofs.Common.{◌≡◌, ℕ, zero, suc, ◌+◌, ◌-◌, ◌<◌, ◌≤◌, Bool, true, false, cond, List, [], ◌∷◌, ◌++◌, length, take, drop, Some, refl, sym, ap, ap₂, subst, ◌∙◌, arith}
use Rattle.std.specs.Prelude.{◌&&◌, ◌==◌, not, nat_lt, nat_le}
use Rattle.std.specs.List.{list_all, before_first, after_first}
use Rattle.std.specs.Int.Digits.{AllBelowBase}
use Rattle.std.proofs.lemmas.Bool.{ltb-true, leb-true}
use Rattle.std.proofs.lemmas.List.{length-append, length-map, map-append}
use Rattle.std.proofs.Math.Seq.{take-append_seam, drop-append_seam}
use Rattle.binlog_decimal.specs.Decimals.{DecimalView, IsDecimal, integer_groups, without_zero_groups, trimmed_decimal, zero_decimal}
use Rattle.binlog_decimal.specs.DecimalText.{is_digit, is_zero, is_point, digits_of, are_digits, decimal_with, signed_decimal, decimal_of_text, without_leading_zeros, has_minus, without_sign}
use Rattle.binlog_decimal.specs.Lemmas.PackedDecimals.{view_of}
use Rattle.binlog_decimal.proofs.DecimalSteps.{below-drop}

-- ---- texts

pub both_true : (a b : Bool) → (a && b) ≡ true → (a ≡ true) × (b ≡ true)
both_true true b h = (refl, h)
both_true false b h = absurd cc

pub all_front : (p : ℕ → Bool) (xs ys : List ℕ) → list_all p (xs ++ ys) ≡ true → list_all p xs ≡ true
all_front p [] ys h = refl
all_front p (x ∷ xs) ys h = let b = both_true (p x) (list_all p (xs ++ ys)) h in rw (b.0, all_front p xs ys b.1) refl

pub all_back : (p : ℕ → Bool) (xs ys : List ℕ) → list_all p (xs ++ ys) ≡ true → list_all p ys ≡ true
all_back p [] ys h = h
all_back p (x ∷ xs) ys h = all_back p xs ys (both_true (p x) (list_all p (xs ++ ys)) h).1

pub below-digits_of : (xs : List ℕ) → list_all is_digit xs ≡ true → AllBelowBase 10 (digits_of xs)
below-digits_of [] h = tt
below-digits_of (x ∷ xs) h =
    let b = both_true (is_digit x) (list_all is_digit xs) h in
    let most : x ≤ 57 = leb-true x 57 (both_true (nat_le 48 x) (nat_le x 57) b.0).1 in
    (omega arith, below-digits_of xs b.1)

pub digits-decimal : (negative : Bool) (before after integer fraction : List ℕ) → are_digits before after ≡ true → integer ≡ digits_of before → fraction ≡ digits_of after → IsDecimal (record { negative = negative; integer = integer; fraction = fraction })
digits-decimal negative before after integer fraction h is as_well =
    let b = both_true (list_all is_digit (before ++ after)) (nat_lt 0 (length (before ++ after))) h in
    let some = ltb-true 0 (length (before ++ after)) b.1 in (
      subst (AllBelowBase 10) (sym is) (below-digits_of before (all_front is_digit before after b.0)),
      subst (AllBelowBase 10) (sym as_well) (below-digits_of after (all_back is_digit before after b.0)),
      omega (arith, some, length-append before after, ap length is, ap length as_well, length-map before (λ (c : ℕ). c - 48), length-map after (λ (c : ℕ). c - 48)),
    )

-- digits in one list, those before the point first
pub digits-cut : (before after digits : List ℕ) → digits ≡ digits_of (before ++ after) → (take (length before) digits ≡ digits_of before) × (drop (length before) digits ≡ digits_of after) × (length before ≤ length digits)
digits-cut before after digits is =
    let parts : digits ≡ digits_of before ++ digits_of after = is ∙ map-append (λ (c : ℕ). c - 48) before after in
    let long : length (digits_of before) ≡ length before = length-map before (λ (c : ℕ). c - 48) in (
      ap₂ (λ (n : ℕ) (l : List ℕ). take n l) (sym long) parts ∙ take-append_seam (digits_of before) (digits_of after),
      ap₂ (λ (n : ℕ) (l : List ℕ). drop n l) (sym long) parts ∙ drop-append_seam (digits_of before) (digits_of after),
      omega (arith, long, length-append (digits_of before) (digits_of after), ap length parts),
    )

pub decimal-is : (minus negative : Bool) (before after integer fraction : List ℕ) → are_digits before after ≡ true → negative ≡ (minus && not (list_all is_zero (before ++ after))) → integer ≡ digits_of before → fraction ≡ digits_of after
    → decimal_with minus before after ≡ Some (record { negative = negative; integer = integer; fraction = fraction })
decimal-is minus negative before after integer fraction h sign front back = rw (h, sign, front, back) refl

pub text-is : (bytes text body before after : List ℕ) (minus : Bool) → text ≡ without_leading_zeros bytes → minus ≡ has_minus text → body ≡ without_sign text → before ≡ before_first is_point body → after ≡ after_first is_point body → decimal_with minus before after ≡ decimal_of_text bytes
unfolding decimal_of_text
text-is bytes text body before after minus is sign rest front back =
    ap (λ (b : Bool). decimal_with b before after) sign
    ∙ ap (λ (l : List ℕ). decimal_with (has_minus text) l after) (front ∙ ap (before_first is_point) rest)
    ∙ ap (λ (l : List ℕ). decimal_with (has_minus text) (before_first is_point (without_sign text)) l) (back ∙ ap (after_first is_point) rest)
    ∙ ap signed_decimal is

-- ---- trimmed decimals

below-chosen : (b : Bool) (xs ys : List ℕ) → AllBelowBase 10 xs → AllBelowBase 10 ys → AllBelowBase 10 (cond b xs ys)
below-chosen true xs ys h k = h
below-chosen false xs ys h k = k

below-trimmed_decimal : (sizes ds : List ℕ) → AllBelowBase 10 ds → AllBelowBase 10 (without_zero_groups sizes ds)
unfolding without_zero_groups
below-trimmed_decimal [] ds h = h
below-trimmed_decimal (size ∷ sizes) ds h =
    below-chosen (list_all (λ d. d == 0) (take size ds)) (without_zero_groups sizes (drop size ds)) ds (below-trimmed_decimal sizes (drop size ds) (below-drop 10 size ds h)) h

-- the digits that are left of a trimmed decimal
pub record AreLeft (d : DecimalView) (left fraction : List ℕ) (none : Bool) : Type 0 where
  pub before : left ≡ without_zero_groups (integer_groups (length d.integer)) d.integer
  pub after : fraction ≡ d.fraction
  pub empty : none ≡ (length left + length fraction == 0)

left-empty : (d : DecimalView) (left fraction : List ℕ) (none : Bool) → AreLeft d left fraction none → none ≡ (length (without_zero_groups (integer_groups (length d.integer)) d.integer) + length d.fraction == 0)
left-empty d left fraction none h = h.empty ∙ ap (λ (l : List ℕ). length l + length fraction == 0) h.before ∙ ap (λ (l : List ℕ). length (without_zero_groups (integer_groups (length d.integer)) d.integer) + length l == 0) h.after

pub trimmed_decimal-none : (d : DecimalView) (left fraction : List ℕ) (none : Bool) → AreLeft d left fraction none → none ≡ true → zero_decimal ≡ trimmed_decimal d
unfolding trimmed_decimal
trimmed_decimal-none d left fraction none h is = rw (sym (left-empty d left fraction none h) ∙ is) refl

pub trimmed_decimal-some : (d : DecimalView) (left fraction : List ℕ) (none : Bool) → AreLeft d left fraction none → none ≡ false → record { negative = d.negative; integer = left; fraction = fraction } ≡ trimmed_decimal d
unfolding trimmed_decimal
trimmed_decimal-some d left fraction none h is =
    rw (sym (left-empty d left fraction none h) ∙ is)
    (ap (λ (l : List ℕ). view_of d.negative l fraction) h.before ∙ ap (λ (l : List ℕ). view_of d.negative (without_zero_groups (integer_groups (length d.integer)) d.integer) l) h.after)

pub trimmed_decimal-decimal : (d : DecimalView) (left fraction : List ℕ) (none : Bool) → IsDecimal d → AreLeft d left fraction none → none ≡ false → IsDecimal (record { negative = d.negative; integer = left; fraction = fraction })
trimmed_decimal-decimal d left fraction none h are is = (
  subst (AllBelowBase 10) (sym are.before) (below-trimmed_decimal (integer_groups (length d.integer)) d.integer h.0),
  subst (AllBelowBase 10) (sym are.after) h.1,
  some_of (length left + length fraction) (sym are.empty ∙ is),
)
  where
    some_of : (n : ℕ) → (n == 0) ≡ false → 0 < n
    some_of zero h = absurd cc
    some_of (suc n) h = omega arith
