-- The text of a TIMESTAMP2 is read back.
use Rattle.std.proofs.Math.Seq.{take-append_seam, drop-append-add}
use Rattle.std.proofs.Common.{append-nil, cond, ◌≡◌, ℕ, zero, suc, ◌+◌, ◌-◌, ◌*◌, ◌%◌, ◌^◌, ◌<◌, ◌≤◌, ◌==◌, not, Bool, true, false, ℤ, pos, negsuc, List, [], ◌∷◌, ◌++◌, length, take, drop, replicate, Option, Some, None, refl, sym, ap, ◌∙◌, arith, rules}
use Rattle.std.specs.Prelude.{FitsSigned, decimal, nat_lt, position, if◌then◌else◌, unsigned_abs, fold}
use Rattle.std.specs.Option.{option_map}
use Rattle.std.specs.List.{list_all, prefix_len}
use Rattle.std.specs.Int.{is_negative, cast_unsigned}
use mir.Syntax.{w32}
use Rattle.std.proofs.lemmas.Int.{ints}
use Rattle.std.proofs.lemmas.List.{length-append, length-replicate}
use Rattle.std.specs.Fmt.{signed_decimal, sign_text}
use Rattle.std.specs.Ordering.{int_eq}
use Rattle.std.specs.Char as char
use Rattle.std.specs.Str.Parse as parse
use Rattle.std.proofs.lemmas.Fmt.{decimal_is_IsNumeral, length-decimal-le}
use Rattle.std.proofs.lemmas.Str.{digit_value_digit}
use Rattle.std.proofs.lemmas.Str.Parse.{digit_from_value}
use Rattle.std.proofs.lemmas.Bool.{le-leb, le-ltb, lt-ltb, and_from, ne_eqb}
use Rattle.binlog_cells.specs.Cells.{places_text, timestamp_text}
use Rattle.row_json.specs.Times.{is_digit, digits_value, number_in, wrapped, seconds_in, both, timestamp_by, timestamp_in}

-- ---- digits

-- these digits write the number n
record Digits (n : ℕ) (ds : List ℕ) : Type 0 where
  pub are : list_all is_digit ds ≡ true
  pub value : digits_value ds ≡ n

are_digits : (ds : List ℕ) → parse.AllDigits 10 ds → list_all is_digit ds ≡ true
are_digits [] h = refl
are_digits (c ∷ cs) h = let range = digit_from_value c h.0 in and_from _ _ (and_from _ _ (le-leb 48 c range.0) (le-leb c 57 range.1)) (are_digits cs h.1)

value_after : (n : ℕ) (ds : List ℕ) → parse.AllDigits 10 ds → fold (λ n c. n * 10 + (c - 48)) n ds ≡ parse.digits_value_after 10 n ds
value_after n [] h = refl
value_after n (c ∷ cs) h =
    let value : c - 48 ≡ char.digit_value c = omega (arith, digit_value_digit c (digit_from_value c h.0)) in
    ap (λ (v : ℕ). fold (λ n c. n * 10 + (c - 48)) (n * 10 + v) cs) value ∙ value_after (n * 10 + char.digit_value c) cs h.1

decimal_digits : (n : ℕ) → n < 2 ^ 64 → Digits n (decimal n)
decimal_digits n h = let is = decimal_is_IsNumeral n h in record { are = are_digits (decimal n) is.0.1; value = value_after 0 (decimal n) is.0.1 ∙ is.1 }

-- zeros before a number
zeros_digits : (k n : ℕ) (ds : List ℕ) → Digits n ds → Digits n (replicate k 48 ++ ds)
zeros_digits zero n ds h = h
zeros_digits (suc k) n ds h = let more = zeros_digits k n ds h in record { are = more.are; value = more.value }

number_of_digits : (most n : ℕ) (ds : List ℕ) → Digits n ds → 0 < length ds → length ds ≤ most → number_in most ds ≡ Some n
number_of_digits most n ds is some few =
    ap (λ (b : Bool). if b then Some (digits_value ds) else None) (and_from _ _ (and_from _ _ (lt-ltb 0 (length ds) some) (le-leb (length ds) most few)) is.are) ∙ ap Some is.value

-- ---- the point

no_point : (ds rest : List ℕ) → parse.AllDigits 10 ds → prefix_len (λ c. not (c == 46)) (ds ++ rest) ≡ length ds + prefix_len (λ c. not (c == 46)) rest
no_point [] rest h = omega arith
no_point (d ∷ ds) rest h =
    let range = digit_from_value d h.0 in
    let other : (d == 46) ≡ false = ne_eqb d 46 (λ e. omega arith) in
    ap (λ (b : Bool). cond (not b) (1 + prefix_len (λ c. not (c == 46)) (ds ++ rest)) 0) other ∙ omega (arith, no_point ds rest h.1)

no_point_in : (s : ℤ) (rest : List ℕ) → unsigned_abs s < 2 ^ 64 → prefix_len (λ c. not (c == 46)) (signed_decimal s ++ rest) ≡ length (signed_decimal s) + prefix_len (λ c. not (c == 46)) rest
no_point_in (pos n) rest h = no_point (decimal n) rest (decimal_is_IsNumeral n h).0.1
no_point_in (negsuc n) rest h = omega (arith, no_point (decimal (suc n)) rest (decimal_is_IsNumeral (suc n) h).0.1)

point_after : (xs ys : List ℕ) → prefix_len (λ c. not (c == 46)) (xs ++ (46 ∷ ys)) ≡ length xs → position (λ c. c == 46) (xs ++ (46 ∷ ys)) ≡ Some (length xs)
point_after xs ys h =
    let within : nat_lt (length xs) (length (xs ++ (46 ∷ ys))) ≡ true = lt-ltb _ _ (omega (arith, length-append xs (46 ∷ ys))) in
    ap (λ (k : ℕ). cond (nat_lt k (length (xs ++ (46 ∷ ys)))) (Some k) None) h ∙ ap (λ (b : Bool). cond b (Some (length xs)) None) within

no_place : (xs : List ℕ) → prefix_len (λ c. not (c == 46)) xs ≡ length xs → position (λ c. c == 46) xs ≡ None
no_place xs h =
    let past : nat_lt (length xs) (length xs) ≡ false = le-ltb _ _ (omega arith) in
    ap (λ (k : ℕ). cond (nat_lt k (length xs)) (Some k) None) h ∙ ap (λ (b : Bool). cond b (Some (length xs)) None) past

-- ---- seconds

seconds_of : (n : ℕ) (ds : List ℕ) → parse.AllDigits 10 ds → number_in 10 ds ≡ Some n → seconds_in ds ≡ Some (n % 2 ^ 32)
seconds_of n [] h e = cc
seconds_of n (d ∷ ds) h e =
    let range = digit_from_value d h.0 in
    let other : (d == 45) ≡ false = ne_eqb d 45 (λ e. omega arith) in
    ap (λ (b : Bool). if b then option_map wrapped (number_in 10 ds) else option_map (λ n. n % 2 ^ 32) (number_in 10 (d ∷ ds))) other ∙ ap (option_map (λ n. n % 2 ^ 32)) e

number_back : (most n : ℕ) → 0 < most → n < 10 ^ most → n < 2 ^ 64 → number_in most (decimal n) ≡ Some n
number_back most n some below fits =
    number_of_digits most n (decimal n) (decimal_digits n fits) (decimal_is_IsNumeral n fits).0.0 (length-decimal-le most n some below fits)

seconds_back : (s : ℤ) → FitsSigned w32 s → seconds_in (signed_decimal s) ≡ Some (cast_unsigned w32 s)
seconds_back (pos n) fits =
    seconds_of n (decimal n) (decimal_is_IsNumeral n (omega arith)).0.1 (number_back 10 n (omega arith) (omega arith) (omega arith)) ∙ ap Some (omega (arith, ints))
seconds_back (negsuc n) fits =
    ap (option_map wrapped) (number_back 10 (suc n) (omega arith) (omega arith) (omega arith)) ∙ ap Some (omega (arith, ints))

few : (s : ℤ) → FitsSigned w32 s → unsigned_abs s < 2 ^ 64
few (pos n) fits = omega (arith, ints)
few (negsuc n) fits = omega (arith, ints)

-- ---- microseconds

places : (n : ℕ) → places_text 6 (pos n) ≡ replicate (6 - length (decimal n) - 0) 48 ++ decimal n
places n =
    let sign : is_negative (pos n) ≡ false = le-ltb n 0 (omega arith) in
    ap (λ (b : Bool). sign_text b ++ (replicate (6 - length (decimal n) - length (sign_text b)) 48 ++ decimal n)) sign

fraction_back : (n : ℕ) → n < 1000000 → number_in 9 (places_text 6 (pos n)) ≡ Some n
fraction_back n h =
    let few = length-decimal-le 6 n (omega arith) (omega arith) (omega arith) in
    let zeros = 6 - length (decimal n) - 0 in
    let long : length (replicate zeros 48 ++ decimal n) ≡ 6 = length-append (replicate zeros 48) (decimal n) ∙ omega (arith, length-replicate {A = ℕ} zeros 48, few) in
    ap (number_in 9) (places n) ∙ number_of_digits 9 n (replicate zeros 48 ++ decimal n) (zeros_digits zeros n (decimal n) (decimal_digits n (omega arith))) (omega (arith, long)) (omega (arith, long))

-- ---- both

with_fraction : (s : ℤ) (u : ℕ) → FitsSigned w32 s → u < 1000000 → timestamp_in (signed_decimal s ++ (46 ∷ places_text 6 (pos u))) ≡ Some (cast_unsigned w32 s, u)
with_fraction s u fits below =
    let small : unsigned_abs s < 2 ^ 64 = few s fits in
    let first = signed_decimal s in
    let more = places_text 6 (pos u) in
    let text = first ++ (46 ∷ more) in
    let place : position (λ c. c == 46) text ≡ Some (length first) = point_after first more (omega (arith, no_point_in s (46 ∷ more) small)) in
    let left : take (length first) text ≡ first = take-append_seam first (46 ∷ more) in
    let right : drop (length first + 1) text ≡ more = drop-append-add first (46 ∷ more) 1 in
    ap (λ (p : Option ℕ). timestamp_by p text) place
    ∙ (ap (λ (l : List ℕ). both (seconds_in l) (number_in 9 (drop (length first + 1) text))) left
    ∙ (ap (λ (l : List ℕ). both (seconds_in first) (number_in 9 l)) right
    ∙ (ap (λ (o : Option ℕ). both o (number_in 9 more)) (seconds_back s fits) ∙ ap (both (Some (cast_unsigned w32 s))) (fraction_back u below))))

without_fraction : (s : ℤ) → FitsSigned w32 s → timestamp_in (signed_decimal s) ≡ Some (cast_unsigned w32 s, 0)
without_fraction s fits =
    let small : unsigned_abs s < 2 ^ 64 = few s fits in
    let text = signed_decimal s in
    let none : prefix_len (λ c. not (c == 46)) text ≡ length text = ap (prefix_len (λ c. not (c == 46))) (sym (append-nil text)) ∙ (no_point_in s [] small ∙ omega arith) in
    ap (λ (p : Option ℕ). timestamp_by p text) (no_place text none) ∙ ap (option_map (λ s. (s, 0))) (seconds_back s fits)

pub timestamp_back : (s : ℤ) (u : ℕ) → FitsSigned w32 s → u < 1000000 → timestamp_in (timestamp_text (s, pos u)) ≡ Some (cast_unsigned w32 s, u)
timestamp_back s zero fits below = without_fraction s fits
timestamp_back s (suc u) fits below =
    let some : int_eq (pos (suc u)) (pos 0) ≡ false = search rules in
    ap (λ (b : Bool). timestamp_in (if b then signed_decimal s else signed_decimal s ++ (46 ∷ places_text 6 (pos (suc u))))) some ∙ with_fraction s (suc u) fits below

-- a number that is small as one without a sign
pub small_unsigned : (z : ℤ) → FitsSigned w32 z → cast_unsigned w32 z < 1000000 → z ≡ pos (cast_unsigned w32 z)
small_unsigned (pos n) fits below = ap pos (omega (arith, ints))
small_unsigned (negsuc n) fits below = absurd (omega (arith, ints))
