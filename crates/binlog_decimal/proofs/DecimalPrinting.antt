-- What is read from the printed text of a decimal.
use Rattle.std.proofs.Common.{◌≡◌, ◌≢◌, ℕ, zero, suc, ◌+◌, ◌-◌, ◌%◌, ◌<◌, ◌≤◌, min, Bool, true, false, cond, not, List, [], ◌∷◌, ◌++◌, length, take, drop, Some, None, refl, sym, ap, subst, ◌∙◌, append_assoc, arith, inl, inr, ◌⊎◌}
use Rattle.std.specs.Prelude.{◌&&◌, ◌||◌, ◌==◌, nat_le, nat_lt}
use Rattle.std.specs.List.{list_all, prefix_len, take_while, before_first, after_first}
use Rattle.std.specs.Int.Digits.{AllBelowBase, number_from_digits}
use Rattle.std.proofs.Math.Dec.{eqb-suc-zero}
use Rattle.std.proofs.lemmas.Bool.{lt-ltb, le-leb, leb-true}
use Rattle.std.proofs.lemmas.Bool.Decides.{Decides-eqb, Decides-like, same_from_decides}
use Rattle.std.proofs.lemmas.List.{length-append, length-map, length-drop, map-append, take_at, drop_at, drop_all, drop-append-le, drop-map}
use Rattle.std.proofs.lemmas.List.Folds.{length-prefix_len}
use Rattle.std.proofs.lemmas.List.Sums.{prefix_len-le-length}
use Rattle.binlog_decimal.specs.Decimals.{DecimalView}
use Rattle.binlog_decimal.specs.DecimalText.{is_digit, is_zero, is_point, digits_of, are_digits, decimal_with, signed_decimal, decimal_of_text, without_leading_zeros, has_minus, without_sign, integer_text, fraction_digits_text, decimal_text}
use Rattle.binlog_decimal.specs.Lemmas.DecimalGroups.{below-append}
use Rattle.binlog_decimal.specs.DecimalLaws.{IsSameNumber}
use Rattle.binlog_decimal.specs.Lemmas.PackedDecimals.{view_of}
use Rattle.binlog_decimal.proofs.DecimalSteps.{below-drop}
use Rattle.binlog_decimal.proofs.DigitCharacters.{chars, glyphs}
use Rattle.binlog_decimal.proofs.DecimalTexts.{both_true, all_front, all_back, below-digits_of}

-- ---- digits as text

abbrev pub all_zeros : List ℕ → Bool
all_zeros ds = list_all (λ d. d == 0) ds

digits_of-chars : (ds : List ℕ) → digits_of (chars ds) ≡ ds
digits_of-chars [] = refl
digits_of-chars (d ∷ ds) =
    let first : (48 + d) - 48 ≡ d = omega arith in
    let rest = digits_of-chars ds in
    cc (first, rest)

are_glyphs : (ds : List ℕ) → AllBelowBase 10 ds → list_all is_digit (chars ds) ≡ true
are_glyphs [] h = refl
are_glyphs (d ∷ ds) h = rw (le-leb 48 (48 + d) (omega arith), le-leb (48 + d) 57 (omega (arith, h.0)), are_glyphs ds h.1) refl

-- two equality tests have the same result if each equality implies the other
pub alike : (a b c d : ℕ) → (a ≡ b → c ≡ d) → (c ≡ d → a ≡ b) → (a == b) ≡ (c == d)
alike a b c d f g = same_from_decides (a == b) (c == d) (Decides-like (a == b) f g (Decides-eqb a b)) (Decides-eqb c d)

-- the test for equality is false if the numbers aren't the same
pub apart : (a b : ℕ) → a ≢ b → (a == b) ≡ false
apart a b h = alike a b 1 0 (λ e. absurd (h e)) (λ e. absurd (omega (arith, e)))

zero_glyph : (d : ℕ) → (48 + d == 48) ≡ (d == 0)
zero_glyph d = alike (48 + d) 48 d 0 (λ e. omega (arith, e)) (λ e. omega (arith, e))

zero_glyphs : (ds : List ℕ) → list_all is_zero (chars ds) ≡ all_zeros ds
zero_glyphs [] = refl
zero_glyphs (d ∷ ds) = rw (zero_glyph d, zero_glyphs ds) refl

-- no digit is a point
no_points : (ds : List ℕ) → AllBelowBase 10 ds → list_all (λ c. not (is_point c)) (chars ds) ≡ true
no_points [] h = refl
no_points (d ∷ ds) h = rw (apart (48 + d) 46 (omega arith), no_points ds h.1) refl

-- ---- prefixes that pass a test

front_passes : (p : ℕ → Bool) (xs ys : List ℕ) → list_all p xs ≡ true → prefix_len p (xs ++ ys) ≡ length xs + prefix_len p ys
front_passes p [] ys h = omega arith
front_passes p (x ∷ xs) ys h =
    let b = both_true (p x) (list_all p xs) h in
    let rest = front_passes p xs ys b.1 in
    rw b.0 (omega (arith, rest))

-- the text after the digits before the point: nothing, or a point and digits
abbrev pub After : List ℕ → List ℕ → Type 0
After text digits = (text ≡ []) × (digits ≡ []) ⊎ (text ≡ 46 ∷ digits)

none_before : (text digits : List ℕ) → After text digits → prefix_len (λ c. not (is_point c)) text ≡ 0
none_before text digits (inl h) = ap (prefix_len (λ c. not (is_point c))) h.0
none_before text digits (inr h) = ap (prefix_len (λ c. not (is_point c))) h

no_zero_after : (text digits : List ℕ) → After text digits → prefix_len is_zero text ≡ 0
no_zero_after text digits (inl h) = ap (prefix_len is_zero) h.0
no_zero_after text digits (inr h) = ap (prefix_len is_zero) h

point_at : (ds text digits : List ℕ) → AllBelowBase 10 ds → After text digits → prefix_len (λ c. not (is_point c)) (chars ds ++ text) ≡ length (chars ds)
point_at ds text digits h b = omega (arith, front_passes (λ c. not (is_point c)) (chars ds) text (no_points ds h), none_before text digits b)

pub before_point : (ds text digits : List ℕ) → AllBelowBase 10 ds → After text digits → before_first is_point (chars ds ++ text) ≡ chars ds
before_point ds text digits h b = ap (λ (n : ℕ). take n (chars ds ++ text)) (point_at ds text digits h b) ∙ take_at (chars ds) text (length (chars ds)) refl

drop_one : (xs ys : List ℕ) (y n : ℕ) → length xs ≡ n → drop (n + 1) (xs ++ y ∷ ys) ≡ ys
drop_one xs ys y n long =
    ap (drop (n + 1)) (sym (append_assoc xs (y ∷ []) ys)) ∙ drop_at (xs ++ y ∷ []) ys (n + 1) (omega (arith, length-append xs (y ∷ []), long))

pub after_point : (ds text digits : List ℕ) → AllBelowBase 10 ds → After text digits → after_first is_point (chars ds ++ text) ≡ digits
after_point ds text digits h b = ap (λ (n : ℕ). drop (n + 1) (chars ds ++ text)) (point_at ds text digits h b) ∙ dropped b
  where
    dropped : After text digits → drop (length (chars ds) + 1) (chars ds ++ text) ≡ digits
    dropped (inl e) = ap (λ (l : List ℕ). drop (length (chars ds) + 1) (chars ds ++ l)) e.0 ∙ drop_all (length (chars ds) + 1) (chars ds ++ []) (omega (arith, length-append (chars ds) [])) ∙ sym e.1
    dropped (inr e) = ap (λ (l : List ℕ). drop (length (chars ds) + 1) (chars ds ++ l)) e ∙ drop_one (chars ds) digits 46 (length (chars ds)) refl

-- ---- digits that are read

pub read_digits : (minus : Bool) (js fs : List ℕ) → AllBelowBase 10 js → AllBelowBase 10 fs → 0 < length js + length fs → decimal_with minus (chars js) (chars fs) ≡ Some (view_of (minus && not (all_zeros (js ++ fs))) js fs)
read_digits minus js fs h k some =
    let both : chars js ++ chars fs ≡ chars (js ++ fs) = sym (map-append (λ (d : ℕ). 48 + d) js fs) in
    let digits : list_all is_digit (chars js ++ chars fs) ≡ true = ap (list_all is_digit) both ∙ are_glyphs (js ++ fs) (below-append 10 js fs h k) in
    let long : nat_lt 0 (length (chars js ++ chars fs)) ≡ true = lt-ltb 0 (length (chars js ++ chars fs)) (omega (arith, length-append (chars js) (chars fs), length-map js (λ (d : ℕ). 48 + d), length-map fs (λ (d : ℕ). 48 + d))) in
    let zeros : list_all is_zero (chars js ++ chars fs) ≡ all_zeros (js ++ fs) = ap (list_all is_zero) both ∙ zero_glyphs (js ++ fs) in
    rw (digits, long, zeros, digits_of-chars js, digits_of-chars fs) refl

-- reading digits after a minus
read_minus : (js text fs : List ℕ) → AllBelowBase 10 js → AllBelowBase 10 fs → 0 < length js → After text (chars fs) → signed_decimal (45 ∷ (chars js ++ text)) ≡ Some (view_of (not (all_zeros (js ++ fs))) js fs)
read_minus js text fs h k some b =
    ap (λ (l : List ℕ). decimal_with true l (after_first is_point (chars js ++ text))) (before_point js text (chars fs) h b)
    ∙ ap (decimal_with true (chars js)) (after_point js text (chars fs) h b)
    ∙ read_digits true js fs h k (omega arith)

-- reading digits without a sign
read_plain : (js text fs : List ℕ) → AllBelowBase 10 js → AllBelowBase 10 fs → 0 < length js → After text (chars fs) → signed_decimal (chars js ++ text) ≡ Some (view_of false js fs)
read_plain [] text fs h k some b = absurd (omega arith)
read_plain (j ∷ js) text fs h k some b =
    let all = chars (j ∷ js) ++ text in
    let other : (48 + j == 45) ≡ false = apart (48 + j) 45 (omega arith) in
    let neither : ((48 + j == 43) || (48 + j == 45)) ≡ false = rw (apart (48 + j) 43 (omega arith), other) refl in
    let bare : without_sign all ≡ all = rw neither refl in
    ap (λ (m : Bool). decimal_with m (before_first is_point (without_sign all)) (after_first is_point (without_sign all))) other
    ∙ ap (λ (l : List ℕ). decimal_with false (before_first is_point l) (after_first is_point l)) bare
    ∙ ap (λ (l : List ℕ). decimal_with false l (after_first is_point all)) (before_point (j ∷ js) text (chars fs) h b)
    ∙ ap (decimal_with false (chars (j ∷ js))) (after_point (j ∷ js) text (chars fs) h b)
    ∙ read_digits false (j ∷ js) fs h k (omega arith)

-- ---- leading zeros

zeros_in_front : (ds text digits : List ℕ) → After text digits → prefix_len is_zero (chars ds ++ text) ≡ prefix_len (λ d. d == 0) ds
zeros_in_front [] text digits b = no_zero_after text digits b
zeros_in_front (d ∷ ds) text digits b = rw (zero_glyph d, zeros_in_front ds text digits b) refl

-- dropping leading zeros keeps the number, and whether all digits are zeros
pub same_number : (k : ℕ) (ds : List ℕ) → k ≤ prefix_len (λ d. d == 0) ds → number_from_digits 10 (drop k ds) ≡ number_from_digits 10 ds
same_number zero ds h = refl
same_number (suc k) [] h = refl
same_number (suc k) (zero ∷ ds) h = same_number k ds (omega arith)
same_number (suc k) (suc d ∷ ds) h = absurd (omega (arith, other_first d ds))
  where
    other_first : (d : ℕ) (ds : List ℕ) → prefix_len (λ d. d == 0) (suc d ∷ ds) ≡ 0
    other_first d ds = rw (eqb-suc-zero d) refl

same_zeros : (k : ℕ) (ds fs : List ℕ) → k ≤ prefix_len (λ d. d == 0) ds → all_zeros (drop k ds ++ fs) ≡ all_zeros (ds ++ fs)
same_zeros zero ds fs h = refl
same_zeros (suc k) [] fs h = refl
same_zeros (suc k) (zero ∷ ds) fs h = same_zeros k ds fs (omega arith)
same_zeros (suc k) (suc d ∷ ds) fs h = absurd (omega (arith, other_first d ds))
  where
    other_first : (d : ℕ) (ds : List ℕ) → prefix_len (λ d. d == 0) (suc d ∷ ds) ≡ 0
    other_first d ds = rw (eqb-suc-zero d) refl

-- at least one digit, with the same number and the same test for all zeros
record AreSame (ds ks : List ℕ) : Type 0 where
  below : AllBelowBase 10 ks
  some : 0 < length ks
  value : number_from_digits 10 ks ≡ number_from_digits 10 ds
  zeros : (fs : List ℕ) → all_zeros (ks ++ fs) ≡ all_zeros (ds ++ fs)

fewer : (k : ℕ) (ds : List ℕ) → AllBelowBase 10 ds → k < length ds → k ≤ prefix_len (λ d. d == 0) ds → AreSame ds (drop k ds)
fewer k ds h within zeros = record {
  below = below-drop 10 k ds h;
  some = omega (arith, length-drop k ds);
  value = same_number k ds zeros;
  zeros = λ fs. same_zeros k ds fs zeros;
}

-- the digits that are shown before the point
shown : (ds : List ℕ) → AllBelowBase 10 ds → (ks : List ℕ) × (integer_text ds ≡ chars ks) × AreSame ds ks
shown [] h = (0 ∷ [], refl, record { below = (omega arith, tt); some = omega arith; value = refl; zeros = λ fs. refl })
shown (d ∷ ds) h =
    let all = d ∷ ds in
    let z = length (take_while (λ d. d == 0) all) in
    let zeros : z ≡ prefix_len (λ d. d == 0) all = length-prefix_len (λ d. d == 0) all in
    let k = min z ((length all - 1) % 9) in
    let same = fewer k all h (omega arith) (omega (arith, zeros)) in
    (drop k all, glyphs (drop k all) same.below, same)

-- dropping all but one of the zeros at the start keeps the number
trimmed_text : (ks text digits : List ℕ) → AllBelowBase 10 ks → 0 < length ks → After text digits → (js : List ℕ) × (without_leading_zeros (chars ks ++ text) ≡ chars js ++ text) × AreSame ks js
trimmed_text ks text digits h some b =
    let all = chars ks ++ text in
    let z = length (take_while is_zero all) in
    let zeros : z ≡ prefix_len (λ d. d == 0) ks = length-prefix_len is_zero all ∙ zeros_in_front ks text digits b in
    let most = prefix_len-le-length (λ d. d == 0) ks in
    let within : z - 1 ≤ length (chars ks) = omega (arith, length-map ks (λ (d : ℕ). 48 + d), zeros, most) in (
      drop (z - 1) ks,
      drop-append-le (z - 1) (chars ks) text within ∙ ap (λ (l : List ℕ). l ++ text) (drop-map (λ (d : ℕ). 48 + d) (z - 1) ks),
      fewer (z - 1) ks h (omega (arith, zeros, most)) (omega (arith, zeros)),
    )

-- ---- the printed text

fraction_text-is : (fs : List ℕ) → AllBelowBase 10 fs → After (fraction_digits_text fs) (chars fs)
fraction_text-is [] h = inl (refl, refl)
fraction_text-is (f ∷ fs) h = inr (ap (λ (l : List ℕ). 46 ∷ l) (glyphs (f ∷ fs) h))

-- the decimal is negative only if some digit isn't 0
abbrev IsSigned : DecimalView → Type 0
IsSigned d = d.negative ≡ (d.negative && not (all_zeros (d.integer ++ d.fraction)))

joined : (a b c : List ℕ) → AreSame a b → AreSame b c → AreSame a c
joined a b c h k = record { below = k.below; some = k.some; value = k.value ∙ h.value; zeros = λ fs. k.zeros fs ∙ h.zeros fs }

printed : (negative : Bool) (integer fraction : List ℕ) → AllBelowBase 10 integer → AllBelowBase 10 fraction → IsSigned (view_of negative integer fraction)
    → (e : DecimalView) × (decimal_of_text (decimal_text (view_of negative integer fraction)) ≡ Some e) × IsSameNumber (view_of negative integer fraction) e
unfolding decimal_of_text decimal_text
printed true integer fraction h k signed =
    let s = shown integer h in
    let b = fraction_text-is fraction k in
    let text = fraction_digits_text fraction in
    let sign : true ≡ not (all_zeros (s.0 ++ fraction)) = signed ∙ ap not (sym (s.2.zeros fraction)) in (
      view_of (not (all_zeros (s.0 ++ fraction))) s.0 fraction,
      ap (λ (l : List ℕ). signed_decimal (45 ∷ (l ++ text))) s.1 ∙ read_minus s.0 text fraction s.2.below k s.2.some b,
      record { sign = sign; integer = sym s.2.value; fraction = refl },
    )
printed false integer fraction h k signed =
    let s = shown integer h in
    let b = fraction_text-is fraction k in
    let text = fraction_digits_text fraction in
    let t = trimmed_text s.0 text (chars fraction) s.2.below s.2.some b in
    let same = joined integer s.0 t.0 s.2 t.2 in (
      view_of false t.0 fraction,
      ap (λ (l : List ℕ). signed_decimal (without_leading_zeros (l ++ text))) s.1 ∙ ap signed_decimal t.1 ∙ read_plain t.0 text fraction same.below k same.some b,
      record { sign = refl; integer = sym same.value; fraction = refl },
    )

-- ---- what is known about a decimal that was read

zero_of : (x : ℕ) → 48 ≤ x → (x == 48) ≡ (x - 48 == 0)
zero_of x low = alike x 48 (x - 48) 0 (λ e. omega (arith, e)) (λ e. omega (arith, e, low))

pub zeros_of : (xs ys : List ℕ) → list_all is_digit xs ≡ true → list_all is_digit ys ≡ true → list_all is_zero (xs ++ ys) ≡ all_zeros (digits_of xs ++ digits_of ys)
zeros_of [] [] h k = refl
zeros_of [] (y ∷ ys) h k =
    let b = both_true (is_digit y) (list_all is_digit ys) k in
    rw (zero_of y (leb-true 48 y (both_true (nat_le 48 y) (nat_le y 57) b.0).0), zeros_of [] ys refl b.1) refl
zeros_of (x ∷ xs) ys h k =
    let b = both_true (is_digit x) (list_all is_digit xs) h in
    rw (zero_of x (leb-true 48 x (both_true (nat_le 48 x) (nat_le x 57) b.0).0), zeros_of xs ys b.1 k) refl

twice : (a b : Bool) → (a && b) ≡ ((a && b) && b)
twice true true = refl
twice true false = refl
twice false b = refl

pub guarded : (b : Bool) (v d : DecimalView) → cond b (Some v) None ≡ Some d → (b ≡ true) × (v ≡ d)
guarded true v d h = (refl, cc)
guarded false v d h = absurd cc

known : (minus : Bool) (before after : List ℕ) (d : DecimalView) → decimal_with minus before after ≡ Some d → AllBelowBase 10 d.integer × AllBelowBase 10 d.fraction × IsSigned d
known minus before after d h =
    let v = view_of (minus && not (list_all is_zero (before ++ after))) (digits_of before) (digits_of after) in
    let g = guarded (are_digits before after) v d h in
    let digits = (both_true (list_all is_digit (before ++ after)) (nat_lt 0 (length (before ++ after))) g.0).0 in
    let front = all_front is_digit before after digits in
    let back = all_back is_digit before after digits in
    let zeros = zeros_of before after front back in
    let signed : IsSigned v = twice minus (not (list_all is_zero (before ++ after))) ∙ ap (λ (z : Bool). (minus && not (list_all is_zero (before ++ after))) && not z) zeros in
    subst (λ (w : DecimalView). AllBelowBase 10 w.integer × AllBelowBase 10 w.fraction × IsSigned w) g.1 (below-digits_of before front, below-digits_of after back, signed)

pub printed_again : (text : List ℕ) (d : DecimalView) → decimal_of_text text ≡ Some d → (e : DecimalView) × (decimal_of_text (decimal_text d) ≡ Some e) × IsSameNumber d e
unfolding decimal_of_text
printed_again text d h =
    let t = without_leading_zeros text in
    let k = known (has_minus t) (before_first is_point (without_sign t)) (after_first is_point (without_sign t)) d h in
    printed d.negative d.integer d.fraction k.0 k.1 k.2
