-- Numbers that are written at the end of zeros: the zeros before the digits are their padding.
use Rattle.std.specs.Prelude.{replicate, decimal, unsigned_abs}
use Rattle.std.specs.Int.{is_negative}
use Rattle.std.specs.Fmt.{sign_text, signed_decimal}
use Rattle.std.proofs.Common.{◌≡◌, ℕ, zero, lit<, refl, subst, ◌+◌, ◌-◌, ◌<◌, ◌≤◌, ◌^◌, ℤ, pos, negsuc, Bool, true, false, cond, List, ◌∷◌, ◌++◌, length, take, drop, set, min, suc, [], ◌/◌, ◌%◌, int_eq, sym, ap, ◌∙◌, append-nil, arith}
use Rattle.std.proofs.lemmas.Bool.{le-ltb}
use Rattle.std.proofs.lemmas.Fmt.{decimal_step, decimal_digit, IsAscii-decimal}
use Rattle.std.proofs.lemmas.Str.{IsAscii-append}
use Rattle.std.proofs.lemmas.Str.Ascii.{IsAscii-nil, IsAscii-cons}
use Rattle.std.specs.Str.{IsAscii}
use Rattle.std.proofs.lemmas.List.{length-append, drop_all, drop-set, take_rest}
use Rattle.binlog_values.specs.Lemmas.Places.{AtEnd, padded}
use Rattle.binlog_cells.specs.Cells.{places_text, timestamp_text}

pub unsigned_places : (new old : List ℕ) (z : ℤ) (places at end start : ℕ) → is_negative z ≡ false → AtEnd new old (decimal (unsigned_abs z)) at end → start ≡ min at (end - places) → places ≤ end
    → drop start new ≡ places_text places z ++ drop end old
unsigned_places new old z places at end start sign a is fits =
    let digits = decimal (unsigned_abs z) in
    let many : at - start ≡ places - length digits - 0 = omega (arith, is, a.long, fits) in
    rw sign (padded new old digits at end start a (omega (arith, is)) ∙ ap (λ (k : ℕ). (replicate k 48 ++ digits) ++ drop end old) many)

pub signed_places : (new old : List ℕ) (z : ℤ) (places at end start : ℕ) → is_negative z ≡ true → AtEnd new old (decimal (unsigned_abs z)) at end → start ≡ min at (end - (places - 1)) → places ≤ end
    → 1 ≤ start → start - 1 < length new → drop (start - 1) (set new (start - 1) 45) ≡ places_text places z ++ drop end old
signed_places new old z places at end start sign a is fits some within =
    let digits = decimal (unsigned_abs z) in
    let many : at - start ≡ places - length digits - 1 = omega (arith, is, a.long, fits) in
    let same : start - 1 + 1 ≡ start = omega (arith, some) in
    rw sign (drop-set new (start - 1) 45 within
    ∙ ap (λ (k : ℕ). 45 ∷ drop k new) same
    ∙ ap (λ (t : List ℕ). 45 ∷ t) (padded new old digits at end start a (omega (arith, is)) ∙ ap (λ (k : ℕ). (replicate k 48 ++ digits) ++ drop end old) many))

pub no_places : (z : ℤ) → places_text 0 z ≡ signed_decimal z
no_places (pos n) =
    let digits = decimal n in
    let sign : is_negative (pos n) ≡ false = le-ltb n 0 (omega arith) in
    let none : 0 - length digits - 0 ≡ 0 = omega arith in
    ap (λ (b : Bool). sign_text b ++ (replicate (0 - length digits - length (sign_text b)) 48 ++ digits)) sign ∙ ap (λ (k : ℕ). replicate k 48 ++ digits) none
no_places (negsuc n) =
    let digits = decimal (suc n) in
    let none : 0 - length digits - 1 ≡ 0 = omega arith in
    ap (λ (k : ℕ). 45 ∷ (replicate k 48 ++ digits)) none

one_more : (n : ℕ) → 10 ≤ n → n < 2 ^ 64 → length (decimal n) ≡ length (decimal (n / 10)) + 1
one_more n low high = ap length (decimal_step n low high) ∙ length-append (decimal (n / 10)) ((48 + n % 10) ∷ [])

-- a number from 1000 to 9999 has four digits
pub four_digits : (n : ℕ) → 1000 ≤ n → n < 10000 → length (decimal n) ≡ 4
four_digits n low high =
    let one : length (decimal (n / 10 / 10 / 10)) ≡ 1 = ap length (decimal_digit (n / 10 / 10 / 10) (omega arith)) in
    omega (arith, one, one_more n (omega arith) (omega arith), one_more (n / 10) (omega arith) (omega arith), one_more (n / 10 / 10) (omega arith) (omega arith))

-- digits that fill their room
pub filled : (new old digits : List ℕ) (at : ℕ) → drop at new ≡ digits ++ drop 4 old → at + length digits ≡ 4 → length digits ≡ 4 → length old ≡ 4 → new ≡ digits
filled new old digits at written start four long =
    let first : at ≡ 0 = omega (arith, start, four) in
    let none : drop 4 old ≡ [] = drop_all 4 old (omega (arith, long)) in
    ap (λ (k : ℕ). drop k new) (sym first) ∙ written ∙ ap (λ (t : List ℕ). digits ++ t) none ∙ append-nil digits

-- the rest of a room, from a place on
pub rest_of_room : (n : ℕ) (room : List ℕ) (start : ℕ) → length room ≡ n → take (n - start) (drop start room) ≡ drop start room
rest_of_room n room start long = ap (λ (k : ℕ). take (k - start) (drop start room)) (sym long) ∙ take_rest room start

-- text that ends where its room does
pub at_end : (n : ℕ) (room old text : List ℕ) (start : ℕ) → length room ≡ n → length old ≡ n → drop start room ≡ text ++ drop n old → take (n - start) (drop start room) ≡ text
at_end n room old text start long was written =
    let none : drop n old ≡ [] = drop_all n old (omega (arith, was)) in
    rest_of_room n room start long ∙ written ∙ ap (λ (t : List ℕ). text ++ t) none ∙ append-nil text

-- seconds, a point and microseconds
pub timestamp_with : (seconds micro : ℤ) (text room made old : List ℕ) (end at : ℕ) → int_eq micro (pos 0) ≡ false → text ≡ places_text 0 seconds ++ drop end room
    → room ≡ set made (at - 1) 46 → end ≡ at - 1 → 1 ≤ at → at ≤ length made → drop at made ≡ places_text 6 micro ++ drop 24 old → length old ≡ 24 → text ≡ timestamp_text (seconds, micro)
timestamp_with seconds micro text room made old end at other is set_point here some within written long =
    let next : at - 1 + 1 ≡ at = omega (arith, some) in
    let none : drop 24 old ≡ [] = drop_all 24 old (omega (arith, long)) in
    let fraction : drop at made ≡ places_text 6 micro = written ∙ ap (λ (t : List ℕ). places_text 6 micro ++ t) none ∙ append-nil (places_text 6 micro) in
    let after : drop end room ≡ 46 ∷ places_text 6 micro =
    ap (drop end) set_point ∙ ap (λ (k : ℕ). drop k (set made (at - 1) 46)) here ∙ drop-set made (at - 1) 46 (omega (arith, some, within)) ∙ ap (λ (k : ℕ). 46 ∷ drop k made) next ∙ ap (λ (t : List ℕ). 46 ∷ t) fraction in
    is ∙ ap (λ (t : List ℕ). t ++ drop end room) (no_places seconds) ∙ ap (λ (t : List ℕ). signed_decimal seconds ++ t) after
    ∙ ap (λ (b : Bool). cond b (signed_decimal seconds) (signed_decimal seconds ++ (46 ∷ places_text 6 micro))) (sym other)

-- seconds alone
pub timestamp_without : (seconds micro : ℤ) (text room : List ℕ) (end : ℕ) → int_eq micro (pos 0) ≡ true → text ≡ places_text 0 seconds ++ drop end room → end ≡ 24 → length room ≡ 24 → text ≡ timestamp_text (seconds, micro)
timestamp_without seconds micro text room end none_left is here long =
    let none : drop end room ≡ [] = drop_all end room (omega (arith, here, long)) in
    is ∙ ap (λ (t : List ℕ). places_text 0 seconds ++ t) none ∙ append-nil (places_text 0 seconds) ∙ no_places seconds
    ∙ ap (λ (b : Bool). cond b (signed_decimal seconds) (signed_decimal seconds ++ (46 ∷ places_text 6 micro))) (sym none_left)

-- ---- their characters

IsAscii-zeros : (n : ℕ) → IsAscii (replicate n 48)
IsAscii-zeros zero = IsAscii-nil
IsAscii-zeros (suc n) = IsAscii-cons 48 (replicate n 48) (lit< tt) (IsAscii-zeros n)

IsAscii-sign : (b : Bool) → IsAscii (sign_text b)
IsAscii-sign true = IsAscii-cons 45 [] (lit< tt) IsAscii-nil
IsAscii-sign false = IsAscii-nil

IsAscii-places : (places : ℕ) (z : ℤ) → unsigned_abs z < 2 ^ 32 → IsAscii (places_text places z)
IsAscii-places places z fits =
    let sign = sign_text (is_negative z) in
    let digits = decimal (unsigned_abs z) in
    IsAscii-append sign _ (IsAscii-sign (is_negative z)) (IsAscii-append _ digits (IsAscii-zeros (places - length digits - length sign)) (IsAscii-decimal (unsigned_abs z) (omega (arith, fits))))

-- a timestamp is written in ASCII
pub IsAscii-timestamp : (seconds micro : ℤ) → unsigned_abs seconds < 2 ^ 32 → unsigned_abs micro < 2 ^ 32 → IsAscii (timestamp_text (seconds, micro))
IsAscii-timestamp seconds micro s m = cases (int_eq micro (pos 0)) refl
  where
    first : IsAscii (signed_decimal seconds)
    first = subst IsAscii (no_places seconds) (IsAscii-places 0 seconds s)

    cases : (b : Bool) → int_eq micro (pos 0) ≡ b → IsAscii (timestamp_text (seconds, micro))
    cases true e = rw e first
    cases false e = rw e (IsAscii-append (signed_decimal seconds) (46 ∷ places_text 6 micro) first (IsAscii-cons 46 (places_text 6 micro) (lit< tt) (IsAscii-places 6 micro m)))
