-- Packed decimals that lend their bytes: the digits that they hold, and their text, which is ASCII.
use Rattle.std.proofs.Common.{◌≡◌, ℕ, zero, suc, ◌+◌, ◌-◌, ◌<◌, ◌≤◌, ◌⊎◌, inl, inr, Bool, true, false, List, [], ◌∷◌, ◌++◌, length, take, drop, Result, Ok, Err, refl, sym, ap, ap₂, subst, ◌∙◌, arith, append-nil}
use Rattle.std.specs.Prelude.{◌==◌, if◌then◌else◌, slice_set}
use Rattle.std.specs.Fmt.{decimal, sign_text}
use Rattle.std.specs.List.{flat_map, list_all}
use Rattle.std.specs.Str.{IsAscii, IsUtf8}
use Rattle.std.specs.Int.Digits.{AllBelowBase}
use Rattle.std.proofs.lemmas.Bool.{cases_lt, lt-ltb, le-ltb}
use Rattle.std.proofs.lemmas.Str.{IsAscii-append, IsUtf8-from_ascii}
use Rattle.std.proofs.lemmas.Str.Ascii.{IsAscii-nil}
use Rattle.binlog_base.specs.declared.fault.Fault.TheVariants as fault
use Rattle.binlog_base.specs.declared.fault.Fault.{Fault}
use Rattle.binlog_base.specs.Format.{◌>>=◌, map_value}
use Rattle.binlog_base.specs.Lemmas.Format.{bind_ok, ok_is, ok_or_err}
use Rattle.binlog_decimal.specs.Decimals.{DecimalView, IsPacked, packed_size, integer_groups, without_zero_groups, trimmed_decimal, kept_decimal, or_zero, zero_decimal}
use Rattle.binlog_decimal.specs.DecimalText.{decimal_text, integer_text, fraction_digits_text, shown_digits}
use Rattle.binlog_decimal.specs.PackedDecimals.{packed_digits, packed_decimal}
use Rattle.binlog_decimal.specs.LentDecimals.{decimal_of, IsAllOf}
use Rattle.binlog_decimal.specs.Lemmas.PackedDecimals.{exact_packed_digits, length-IsPacked}
use Rattle.binlog_decimal.proofs.DecimalSteps.{below-drop}
use Rattle.binlog_decimal.proofs.DecimalSources.{by_digits}
use Rattle.binlog_decimal.proofs.DigitCharacters.{glyphs, IsAscii-chars}
use Rattle.binlog_decimal.proofs.TimeTexts.{IsAscii-cons}

above : (precision scale : ℕ) (x : List ℕ) → precision < scale → (packed_decimal precision scale false).parse x ≡ Err fault.DecimalScale
unfolding packed_decimal
above precision scale x lt = let b = lt-ltb precision scale lt in rw b refl

-- the scale is within the precision
pub scale_within : (precision scale : ℕ) (x : List ℕ) → IsAllOf precision scale x → scale ≤ precision
scale_within precision scale x h = one (cases_lt precision scale)
  where
    one : (precision < scale) ⊎ (scale ≤ precision) → scale ≤ precision
    one (inl lt) = absurd (ok_or_err ((packed_decimal precision scale false).parse x) (decimal_of precision scale x, []) fault.DecimalScale h (above precision scale x lt))
    one (inr le) = le

-- the digits of all bytes
pub record Holds (precision scale : ℕ) (x : List ℕ) : Type 0 where
  pub value : DecimalView
  pub read : (packed_digits (precision - scale) scale).parse x ≡ Ok (value, [])
  pub is : decimal_of precision scale x ≡ trimmed_decimal value
  pub packed : IsPacked (precision - scale) scale x value

spelled : (i f : ℕ) (x : List ℕ) (d : DecimalView) → 0 < i + f → (packed_digits i f).parse x ≡ Ok (d, []) → IsPacked i f x d
unfolding packed_digits
spelled i f x d some h =
    let s = (exact_packed_digits i f some).sound x d [] h in
    subst (λ (y : List ℕ). IsPacked i f y d) (sym (append-nil s.0) ∙ sym s.1) s.2

pub holds : (precision scale : ℕ) (x : List ℕ) → IsAllOf precision scale x → 0 < precision → Holds precision scale x
holds precision scale x h some =
    let within = scale_within precision scale x h in
    let asked : 0 < (precision - scale) + scale = omega (arith, within, some) in
    let r = (packed_digits (precision - scale) scale).parse x in
    let o = bind_ok r (λ (p : DecimalView × List ℕ). Ok (kept_decimal false p.0, p.1)) (decimal_of precision scale x, []) (sym (by_digits precision scale x within some) ∙ h) in
    let same : (trimmed_decimal o.0.0, o.0.1) ≡ (decimal_of precision scale x, []) = ok_is (trimmed_decimal o.0.0, o.0.1) (decimal_of precision scale x, []) o.2 in
    let read : r ≡ Ok (o.0.0, []) = o.1 ∙ ap (λ (l : List ℕ). Ok (o.0.0, l)) (ap (λ (p : DecimalView × List ℕ). p.1) same) in
    record {
      value = o.0.0;
      read = read;
      is = sym (ap (λ (p : DecimalView × List ℕ). p.0) same);
      packed = spelled (precision - scale) scale x o.0.0 asked read;
    }

pub size_of : (precision scale : ℕ) (x : List ℕ) → IsAllOf precision scale x → 0 < precision → length x ≡ packed_size (precision - scale) scale
size_of precision scale x h some = let all = holds precision scale x h some in length-IsPacked (precision - scale) scale x all.value all.packed

-- a precision of 0 gives zero
nothing : (precision scale : ℕ) (x : List ℕ) → scale ≤ precision → precision ≡ 0 → (packed_decimal precision scale false).parse x ≡ Ok (zero_decimal, x)
unfolding packed_decimal
nothing precision scale x within none =
    let below = le-ltb precision scale within in
    let all : (precision == 0) ≡ true = ap (λ (n : ℕ). n == 0) none in
    rw (below, all) refl

pub zero_of : (precision scale : ℕ) (x : List ℕ) → IsAllOf precision scale x → precision ≡ 0 → decimal_of precision scale x ≡ zero_decimal
zero_of precision scale x h none =
    let read = sym h ∙ nothing precision scale x (scale_within precision scale x h) none in
    ap (λ (p : DecimalView × List ℕ). p.0) (ok_is (decimal_of precision scale x, []) (zero_decimal, x) read)

-- ---- the text

-- the digits are from 0 to 9
record AreDigits (d : DecimalView) : Type 0 where
  integer : AllBelowBase 10 d.integer
  fraction : AllBelowBase 10 d.fraction

groups_below : (sizes ds : List ℕ) → AllBelowBase 10 ds → AllBelowBase 10 (without_zero_groups sizes ds)
unfolding without_zero_groups
groups_below [] ds h = h
groups_below (size ∷ sizes) ds h = one (groups_below sizes (drop size ds) (below-drop 10 size ds h)) (list_all (λ d. d == 0) (take size ds))
  where
    one : AllBelowBase 10 (without_zero_groups sizes (drop size ds)) → (b : Bool) → AllBelowBase 10 (if b then without_zero_groups sizes (drop size ds) else ds)
    one later true = later
    one later false = h

or_zero_digits : (d : DecimalView) → AllBelowBase 10 d.integer → AllBelowBase 10 d.fraction → AreDigits (or_zero d)
or_zero_digits d i f = one (length d.integer + length d.fraction == 0)
  where
    one : (b : Bool) → AreDigits (if b then zero_decimal else d)
    one true = record { integer = (omega arith, tt); fraction = tt }
    one false = record { integer = i; fraction = f }

trimmed_digits : (d : DecimalView) → AllBelowBase 10 d.integer → AllBelowBase 10 d.fraction → AreDigits (trimmed_decimal d)
unfolding trimmed_decimal
trimmed_digits d i f = or_zero_digits (record d { integer = without_zero_groups (integer_groups (length d.integer)) d.integer }) (groups_below (integer_groups (length d.integer)) d.integer i) f

are_digits : (precision scale : ℕ) (x : List ℕ) → IsAllOf precision scale x → AreDigits (decimal_of precision scale x)
are_digits zero scale x h = subst AreDigits (sym (zero_of 0 scale x h refl)) (record { integer = (omega arith, tt); fraction = tt })
are_digits (suc precision) scale x h =
    let all = holds (suc precision) scale x h (omega arith) in
    let digits = all.packed.digits in
    subst AreDigits (sym all.is) (trimmed_digits all.value digits.0 digits.1)

sign_ascii : (negative : Bool) → IsAscii (sign_text negative)
sign_ascii true = IsAscii-cons 45 [] (omega arith) IsAscii-nil
sign_ascii false = IsAscii-nil

shown_ascii : (ds : List ℕ) → AllBelowBase 10 ds → IsAscii (flat_map decimal ds)
shown_ascii ds h = subst IsAscii (sym (glyphs ds h)) (IsAscii-chars ds h)

integer_ascii : (ds : List ℕ) → AllBelowBase 10 ds → IsAscii (integer_text ds)
integer_ascii [] h = IsAscii-cons 48 [] (omega arith) IsAscii-nil
integer_ascii (d ∷ ds) h = shown_ascii (shown_digits (d ∷ ds)) (below-drop 10 _ (d ∷ ds) h)

fraction_ascii : (ds : List ℕ) → AllBelowBase 10 ds → IsAscii (fraction_digits_text ds)
fraction_ascii [] h = IsAscii-nil
fraction_ascii (d ∷ ds) h = IsAscii-cons 46 _ (omega arith) (shown_ascii (d ∷ ds) h)

digits_ascii : (d : DecimalView) → AreDigits d → IsAscii (decimal_text d)
unfolding decimal_text
digits_ascii d h =
    IsAscii-append (sign_text d.negative) (integer_text d.integer ++ fraction_digits_text d.fraction) (sign_ascii d.negative)
    (IsAscii-append (integer_text d.integer) (fraction_digits_text d.fraction) (integer_ascii d.integer h.integer) (fraction_ascii d.fraction h.fraction))

pub text_is_utf8 : (precision scale : ℕ) (x text : List ℕ) → IsAllOf precision scale x → text ≡ decimal_text (decimal_of precision scale x) → IsUtf8 text
text_is_utf8 precision scale x text h is =
    subst IsUtf8 (sym is) (IsUtf8-from_ascii (decimal_text (decimal_of precision scale x)) (digits_ascii (decimal_of precision scale x) (are_digits precision scale x h)))

-- a text that was read of them
text_is : (precision scale n m : ℕ) (x : List ℕ) → IsAllOf precision scale x → n ≡ precision → m ≡ scale → (map_value (packed_decimal n m false) decimal_text).parse x ≡ Ok (decimal_text (decimal_of precision scale x), [])
text_is precision scale n m x h count after =
    ap₂ (λ (j k : ℕ). (map_value (packed_decimal j k false) decimal_text).parse x) count after
    ∙ ap (λ (r : Result (DecimalView × List ℕ) Fault). r >>= λ p. Ok (decimal_text p.0, p.1)) h

pub read_text : (precision scale n m : ℕ) (x text : List ℕ) → IsAllOf precision scale x → n ≡ precision → m ≡ scale → (map_value (packed_decimal n m false) decimal_text).parse x ≡ Ok (text, []) → text ≡ decimal_text (decimal_of precision scale x)
read_text precision scale n m x text h count after read =
    ap (λ (p : List ℕ × List ℕ). p.0) (ok_is (text, []) (decimal_text (decimal_of precision scale x), []) (sym read ∙ text_is precision scale n m x h count after))

pub no_text : (precision scale n m : ℕ) (x : List ℕ) (e : Fault) → IsAllOf precision scale x → n ≡ precision → m ≡ scale → (map_value (packed_decimal n m false) decimal_text).parse x ≡ Err e → ⊥
no_text precision scale n m x e h count after refused =
    ok_or_err ((map_value (packed_decimal n m false) decimal_text).parse x) (decimal_text (decimal_of precision scale x), []) e (text_is precision scale n m x h count after) refused

-- the first place of a room
pub first_set : (room : List ℕ) (n : ℕ) → length room ≡ 258 → take 1 (slice_set room 0 n) ≡ n ∷ []
first_set [] n h = absurd (omega (arith, h))
first_set (b ∷ room) n h = refl
