-- Decimals by the numbers that their digits form: the digits of a number in two groups, and the text of a decimal.
use borrow.Rule.Slice.PartMut.{mid_of}
use Rattle.std.proofs.Common.{◌≡◌, ℕ, zero, suc, ◌+◌, ◌-◌, ◌*◌, ◌/◌, ◌%◌, ◌^◌, ◌<◌, ◌≤◌, Bool, not, List, [], ◌∷◌, ◌++◌, length, take, drop, replicate, set, min, Ok, refl, sym, ap, ap₂, subst, inl, inr, ◌∙◌, append_assoc, append-nil, arith}
use Rattle.std.specs.Prelude.{◌==◌, ◌&&◌}
use Rattle.std.specs.Fmt.{decimal, sign_text}
use Rattle.std.specs.Int.Digits.{AllBelowBase, number_from_digits, number_from_digits_after}
use Rattle.std.proofs.Math.Nat.{pow-zero, pow-succ', mul_assoc, mul-le-mul_right}
use Rattle.std.proofs.lemmas.Nat.{pow-add}
use Rattle.std.proofs.lemmas.Bool.{cases_lt}
use Rattle.std.proofs.lemmas.Fmt.{decimal_digit, decimal_step, length-decimal-le}
use Rattle.std.proofs.lemmas.Int.Digits.{number_after_ge, number_lt}
use Rattle.std.proofs.lemmas.List.{length-append, map-append, drop_all, drop-set, length-set, take_rest}
use Rattle.binlog_decimal.specs.Decimals.{trimmed_decimal, group_width, digits_size, integer_groups, fraction_groups}
use Rattle.binlog_decimal.specs.DecimalGroups.{low_digits, digits_in, IsCut}
use Rattle.binlog_decimal.specs.DecimalReads.{FormsNumber, numbered}
use Rattle.binlog_decimal.specs.DecimalText.{fraction_digits_text, decimal_text}
use Rattle.binlog_decimal.specs.Lemmas.DecimalGroups.{length-low_digits, below-low_digits, number-low_digits, same_digits, digits_in-integer, cut-append}
use Rattle.binlog_decimal.specs.Lemmas.Places.{AtEnd, padded}
use Rattle.binlog_decimal.proofs.DecimalSteps.{group-unpacked}
use Rattle.binlog_decimal.proofs.DecimalBytes.{integer_parts}
use Rattle.binlog_decimal.proofs.DigitCharacters.{chars, glyphs}
use Rattle.binlog_decimal.proofs.DecimalPrinting.{apart, alike}
use Rattle.binlog_decimal.proofs.DecimalShown.{zeros_of, kept_of, has_sign, trimmed_text, zero_more, no_zeros, one_less}

-- ---- the digits of a number that has two parts

pub low_digits-parts : (a b m n : ℕ) → n < 10 ^ b → low_digits 10 (a + b) (m * 10 ^ b + n) ≡ low_digits 10 a m ++ low_digits 10 b n
low_digits-parts a zero m n low =
    let one : 10 ^ 0 ≡ 1 = pow-zero 10 in
    let same : m * 10 ^ 0 ≡ m * 1 = ap (λ (p : ℕ). m * p) one in
    let count : a + 0 ≡ a = omega arith in
    let value : m * 10 ^ 0 + n ≡ m = omega (arith, same, one, low) in
    ap₂ (low_digits 10) count value ∙ sym (append-nil (low_digits 10 a m))
low_digits-parts a (suc b) m n low =
    let power : 10 ^ suc b ≡ 10 * 10 ^ b = pow-succ' 10 b in
    let moved : m * (10 * 10 ^ b) ≡ 10 * (m * 10 ^ b) = sym (mul_assoc m 10 (10 ^ b)) ∙ ap (λ (p : ℕ). p * 10 ^ b) (omega arith) ∙ mul_assoc 10 m (10 ^ b) in
    let more : m * 10 ^ suc b ≡ 10 * (m * 10 ^ b) = ap (λ (p : ℕ). m * p) power ∙ moved in
    let count : a + suc b ≡ suc (a + b) = omega arith in
    let front : (m * 10 ^ suc b + n) / 10 ≡ m * 10 ^ b + n / 10 = omega (arith, more) in
    let last : (m * 10 ^ suc b + n) % 10 ≡ n % 10 = omega (arith, more) in
    let less : n / 10 < 10 ^ b = omega (arith, low, power) in
    ap (λ (k : ℕ). low_digits 10 k (m * 10 ^ suc b + n)) count
    ∙ ap₂ (λ (k l : ℕ). low_digits 10 (a + b) k ++ l ∷ []) front last
    ∙ ap (λ (l : List ℕ). l ++ (n % 10) ∷ []) (low_digits-parts a b m (n / 10) less)
    ∙ append_assoc (low_digits 10 a m) (low_digits 10 b (n / 10)) ((n % 10) ∷ [])

-- ---- the numbers of groups

pub group_formed : (d n : ℕ) (bytes : List ℕ) → AllBelowBase 256 bytes → length bytes ≡ group_width d → n ≡ number_from_digits 256 bytes → n < 10 ^ d → FormsNumber (Ok n) (d ∷ []) bytes
group_formed d n bytes below width is low =
    let count : d ≡ digits_in (d ∷ []) = omega arith in
    let cut : IsCut (d ∷ []) bytes (low_digits 10 d n) = group-unpacked {X = Unit {0}} tt bytes (low_digits 10 d n) d below width (omega (arith, is, low)) (ap (low_digits 10 d) is) in
    (subst (λ (k : ℕ). IsCut (d ∷ []) bytes (low_digits 10 k n)) count cut, subst (λ (k : ℕ). n < 10 ^ k) count low)

-- the number of a group by its count of digits
pub of_group : (d n : ℕ) (bytes : List ℕ) → FormsNumber (Ok n) (d ∷ []) bytes → IsCut (d ∷ []) bytes (low_digits 10 d n) × (n < 10 ^ d)
of_group d n bytes h =
    let count : digits_in (d ∷ []) ≡ d = omega arith in
    (subst (λ (k : ℕ). IsCut (d ∷ []) bytes (low_digits 10 k n)) count h.0, subst (λ (k : ℕ). n < 10 ^ k) count h.1)

-- the number of the digits before the point by their count
pub of_integer : (i n : ℕ) (bytes : List ℕ) → FormsNumber (Ok n) (integer_groups i) bytes → IsCut (integer_groups i) bytes (low_digits 10 i n) × (n < 10 ^ i)
of_integer i n bytes h =
    let count = digits_in-integer i in
    (subst (λ (k : ℕ). IsCut (integer_groups i) bytes (low_digits 10 k n)) count h.0, subst (λ (k : ℕ). n < 10 ^ k) count h.1)

integer_formed : (i n : ℕ) (bytes : List ℕ) → IsCut (integer_groups i) bytes (low_digits 10 i n) → n < 10 ^ i → FormsNumber (Ok n) (integer_groups i) bytes
integer_formed i n bytes cut low =
    let count = sym (digits_in-integer i) in
    (subst (λ (k : ℕ). IsCut (integer_groups i) bytes (low_digits 10 k n)) count cut, subst (λ (k : ℕ). n < 10 ^ k) count low)

-- so few digits after the point are one group
pub one_group : (f : ℕ) → f ≤ 8 → fraction_groups f ≡ f ∷ []
one_group f few =
    let none : f / 9 ≡ 0 = omega (arith, few) in
    let all : f % 9 ≡ f = omega (arith, few) in
    ap₂ (λ (k j : ℕ). replicate k 9 ++ j ∷ []) none all

-- digits before the point in one group
pub integer_short : (i n : ℕ) (bytes group nine : List ℕ) → length bytes ≡ digits_size i → group ≡ take (group_width (i % 9)) bytes → nine ≡ drop (group_width (i % 9)) bytes → length nine ≡ 0
    → FormsNumber (Ok n) ((i % 9) ∷ []) group → FormsNumber (Ok n) (integer_groups i) bytes
integer_short i n bytes group nine long is after none h =
    let parts = integer_parts i bytes group nine long is after in
    let nines : i / 9 ≡ 0 = omega (arith, parts.2, none) in
    let empty : nine ≡ [] = nothing nine none in
    let whole : group ≡ bytes = sym (append-nil group) ∙ ap (λ (l : List ℕ). group ++ l) (sym empty) ∙ parts.0 in
    let sizes : (i % 9) ∷ [] ≡ integer_groups i = ap (λ (k : ℕ). (i % 9) ∷ replicate k 9) (sym nines) in
    subst (λ (l : List ℕ). FormsNumber (Ok n) l bytes) sizes (subst (λ (l : List ℕ). FormsNumber (Ok n) ((i % 9) ∷ []) l) whole h)
  where
    nothing : (xs : List ℕ) → length xs ≡ 0 → xs ≡ []
    nothing [] e = refl
    nothing (x ∷ xs) e = absurd (omega (arith, e))

-- the second of two groups has nine digits
pub second_group : (i : ℕ) (bytes group nine : List ℕ) → i ≤ 17 → length bytes ≡ digits_size i → group ≡ take (group_width (i % 9)) bytes → nine ≡ drop (group_width (i % 9)) bytes → 0 < length nine → 9 ∷ [] ≡ replicate {A = ℕ} (length nine / 4) 9
second_group i bytes group nine few long is after some =
    let parts = integer_parts i bytes group nine long is after in
    let width : length nine ≡ 4 * (i / 9) = omega (arith, ap length (sym parts.0), length-append group nine, parts.1, long) in
    let one : length nine / 4 ≡ 1 = omega (arith, few, width, some) in
    ap (λ (k : ℕ). replicate {A = ℕ} k 9) (sym one)

-- digits before the point in two groups
pub integer_long : (i high low : ℕ) (bytes group nine : List ℕ) → i ≤ 17 → length bytes ≡ digits_size i → group ≡ take (group_width (i % 9)) bytes → nine ≡ drop (group_width (i % 9)) bytes → 0 < length nine
    → FormsNumber (Ok high) ((i % 9) ∷ []) group → FormsNumber (Ok low) (9 ∷ []) nine → FormsNumber (Ok (high * 1000000000 + low)) (integer_groups i) bytes
integer_long i high low bytes group nine few long is after some h k =
    let parts = integer_parts i bytes group nine long is after in
    let width : length nine ≡ 4 * (i / 9) = omega (arith, ap length (sym parts.0), length-append group nine, parts.1, long) in
    let nines : i / 9 ≡ 1 = omega (arith, few, width, some) in
    let count : i % 9 + 9 ≡ i = omega (arith, nines) in
    let first = of_group (i % 9) high group h in
    let second = of_group 9 low nine k in
    let power : 10 ^ (i % 9 + 9) ≡ 10 ^ (i % 9) * 1000000000 = pow-add 10 (i % 9) 9 in
    let more : (high + 1) * 1000000000 ≤ 10 ^ (i % 9) * 1000000000 = mul-le-mul_right 1000000000 (omega (arith, first.1)) in
    let below : high * 1000000000 + low < 10 ^ (i % 9 + 9) = omega (arith, power, more, second.1) in
    let cut : IsCut ((i % 9) ∷ 9 ∷ []) (group ++ nine) (low_digits 10 (i % 9) high ++ low_digits 10 9 low) = cut-append ((i % 9) ∷ []) (9 ∷ []) group nine (low_digits 10 (i % 9) high) (low_digits 10 9 low) first.0 second.0 in
    let sizes : (i % 9) ∷ 9 ∷ [] ≡ integer_groups i = ap (λ (j : ℕ). (i % 9) ∷ replicate j 9) (sym nines) in
    let digits : low_digits 10 (i % 9) high ++ low_digits 10 9 low ≡ low_digits 10 i (high * 1000000000 + low) = sym (low_digits-parts (i % 9) 9 high low second.1) ∙ ap (λ (j : ℕ). low_digits 10 j (high * 1000000000 + low)) count in
    integer_formed i (high * 1000000000 + low) bytes
    (subst (λ (l : List ℕ). IsCut (integer_groups i) l (low_digits 10 i (high * 1000000000 + low))) parts.0
    (subst (IsCut (integer_groups i) (group ++ nine)) digits (subst (λ (l : List ℕ). IsCut l (group ++ nine) (low_digits 10 (i % 9) high ++ low_digits 10 9 low)) sizes cut)))
    (subst (λ (j : ℕ). high * 1000000000 + low < 10 ^ j) count below)

-- ---- digits as text

-- so many zeros before a text
abbrev pub pad : ℕ → List ℕ → List ℕ
pad k text = replicate k 48 ++ text

zeros_snoc : (k : ℕ) (xs : List ℕ) → pad k (48 ∷ xs) ≡ pad (suc k) xs
zeros_snoc zero xs = refl
zeros_snoc (suc k) xs = ap (λ (l : List ℕ). 48 ∷ l) (zeros_snoc k xs)

last_of_small : (k n : ℕ) → n < 10 → n < 2 ^ 64 → pad (suc k - length (decimal (n / 10))) (decimal (n / 10)) ++ (48 + n % 10) ∷ [] ≡ pad (suc (suc k) - length (decimal n)) (decimal n)
last_of_small k n small fits =
    let first : n / 10 ≡ 0 = omega (arith, small) in
    let none : decimal (n / 10) ≡ 48 ∷ [] = decimal_digit (n / 10) (omega (arith, first)) ∙ ap (λ (d : ℕ). (48 + d) ∷ []) first in
    let one : decimal n ≡ (48 + n) ∷ [] = decimal_digit n small in
    let rest : n % 10 ≡ n = omega (arith, small) in
    let before : suc k - length (decimal (n / 10)) ≡ k = omega (arith, ap length none) in
    let after : suc (suc k) - length (decimal n) ≡ suc k = omega (arith, ap length one) in
    ap₂ (λ (j : ℕ) (l : List ℕ). pad j l ++ (48 + n % 10) ∷ []) before none
    ∙ append_assoc (replicate k 48) (48 ∷ []) ((48 + n % 10) ∷ [])
    ∙ zeros_snoc k ((48 + n % 10) ∷ [])
    ∙ ap (λ (d : ℕ). pad (suc k) ((48 + d) ∷ [])) rest
    ∙ ap₂ pad (sym after) (sym one)

last_of_large : (k n : ℕ) → 10 ≤ n → n < 2 ^ 64 → pad (suc k - length (decimal (n / 10))) (decimal (n / 10)) ++ (48 + n % 10) ∷ [] ≡ pad (suc (suc k) - length (decimal n)) (decimal n)
last_of_large k n large fits =
    let step : decimal n ≡ decimal (n / 10) ++ (48 + n % 10) ∷ [] = decimal_step n large fits in
    let long : length (decimal n) ≡ length (decimal (n / 10)) + 1 = ap length step ∙ length-append (decimal (n / 10)) ((48 + n % 10) ∷ []) in
    let count : suc k - length (decimal (n / 10)) ≡ suc (suc k) - length (decimal n) = omega (arith, long) in
    append_assoc (replicate (suc k - length (decimal (n / 10))) 48) (decimal (n / 10)) ((48 + n % 10) ∷ [])
    ∙ ap₂ pad count (sym step)

-- so many digits of a number are zeros and the digits that `decimal` writes
pub padded_digits : (k n : ℕ) → n < 10 ^ suc k → n < 2 ^ 64 → chars (low_digits 10 (suc k) n) ≡ pad (suc k - length (decimal n)) (decimal n)
padded_digits zero n low fits =
    let small : n < 10 = omega (arith, low, pow-succ' 10 0, pow-zero 10) in
    let one = decimal_digit n small in
    let rest : n % 10 ≡ n = omega (arith, small) in
    let none : 1 - length (decimal n) ≡ 0 = omega (arith, ap length one) in
    ap (λ (d : ℕ). (48 + d) ∷ []) rest ∙ sym one ∙ ap (λ (j : ℕ). pad j (decimal n)) (sym none)
padded_digits (suc k) n low fits =
    let less : n / 10 < 10 ^ suc k = omega (arith, low, pow-succ' 10 (suc k)) in
    let front = low_digits 10 (suc k) (n / 10) in
    let cut : chars (front ++ (n % 10) ∷ []) ≡ pad (suc k - length (decimal (n / 10))) (decimal (n / 10)) ++ (48 + n % 10) ∷ [] =
    map-append (λ (d : ℕ). 48 + d) front ((n % 10) ∷ []) ∙ ap (λ (l : List ℕ). l ++ (48 + n % 10) ∷ []) (padded_digits k (n / 10) less (omega (arith, fits))) in
    cut ∙ elim (cases_lt n 10) [
      | inl small ↦ last_of_small k n small fits
      | inr large ↦ last_of_large k n large fits
    ]

-- a number of so many digits, without zeros before them
no_padding : (m d : ℕ) (ds text : List ℕ) → (48 + suc d) ∷ ds ≡ pad m text → (48 + suc d) ∷ ds ≡ text
no_padding zero d ds text h = h
no_padding (suc m) d ds text h = let first : 48 + suc d ≡ 48 = cc in absurd (omega (arith, first))

-- digits without the zeros at their start are what `decimal` writes of their number
kept_number : (ds : List ℕ) → AllBelowBase 10 ds → number_from_digits 10 ds < 2 ^ 64 → chars (kept_of ds) ≡ decimal (number_from_digits 10 ds)
kept_number [] h fits = sym (decimal_digit 0 (omega arith))
kept_number (zero ∷ ds) h fits = ap chars (one_less ds) ∙ kept_number ds h.1 fits
kept_number (suc d ∷ ds) h fits =
    let all = suc d ∷ ds in
    let n = number_from_digits 10 all in
    let k = length ds in
    let none = no_zeros d ds in
    let first : min (1 + zeros_of all) (length all) ≡ 1 = omega (arith, none) in
    let low : n < 10 ^ suc k = number_lt 10 all h in
    let same : low_digits 10 (suc k) n ≡ all = same_digits 10 (low_digits 10 (suc k) n) all (length-low_digits 10 (suc k) n) (below-low_digits 10 (suc k) n (omega arith)) h (number-low_digits 10 (suc k) n (omega arith) low) in
    ap (λ (j : ℕ). chars (drop j (0 ∷ all))) first
    ∙ no_padding (suc k - length (decimal n)) d (chars ds) (decimal n) (sym (ap chars same) ∙ padded_digits k n low fits)

-- all digits are zeros just where their number is 0
zero_number : (ds : List ℕ) → (zeros_of ds == length ds) ≡ (number_from_digits 10 ds == 0)
zero_number [] = refl
zero_number (zero ∷ ds) =
    let more = zero_more ds in
    alike (zeros_of (0 ∷ ds)) (length (0 ∷ ds)) (zeros_of ds) (length ds) (λ e. omega (arith, e, more)) (λ e. omega (arith, e, more)) ∙ zero_number ds
zero_number (suc d ∷ ds) =
    let none = no_zeros d ds in
    let first : 0 * 10 + suc d ≡ suc d = omega arith in
    let is : number_from_digits 10 (suc d ∷ ds) ≡ number_from_digits_after 10 (suc d) ds = ap (λ (n : ℕ). number_from_digits_after 10 n ds) first in
    let some : suc d ≤ number_from_digits 10 (suc d ∷ ds) = omega (arith, is, number_after_ge 10 (suc d) ds (omega arith)) in
    apart (zeros_of (suc d ∷ ds)) (length (suc d ∷ ds)) (λ e. omega (arith, e, none)) ∙ sym (apart (number_from_digits 10 (suc d ∷ ds)) 0 (λ e. omega (arith, e, some)))

-- ---- the text of a decimal by its numbers

pub numbered_text : (i f : ℕ) (negative : Bool) (whole part : ℕ) → whole < 10 ^ i → whole < 2 ^ 64
    → decimal_text (trimmed_decimal (numbered i f negative whole part)) ≡ sign_text (negative && not ((whole == 0) && (f == 0))) ++ (decimal whole ++ fraction_digits_text (low_digits 10 f part))
numbered_text i f negative whole part low fits =
    let integer = low_digits 10 i whole in
    let fraction = low_digits 10 f part in
    let below : AllBelowBase 10 integer = below-low_digits 10 i whole (omega arith) in
    let held : number_from_digits 10 integer ≡ whole = number-low_digits 10 i whole (omega arith) low in
    let zero : (zeros_of integer == length integer) ≡ (whole == 0) = zero_number integer ∙ ap (λ (n : ℕ). n == 0) held in
    let sign : has_sign negative integer fraction ≡ (negative && not ((whole == 0) && (f == 0))) = ap₂ (λ (b : Bool) (n : ℕ). negative && not (b && (n == 0))) zero (length-low_digits 10 f part) in
    let text : chars (kept_of integer) ≡ decimal whole = kept_number integer below (omega (arith, held, fits)) ∙ ap decimal held in
    trimmed_text negative integer fraction below ∙ ap₂ (λ (b : Bool) (l : List ℕ). sign_text b ++ (l ++ fraction_digits_text fraction)) sign text

some_fraction : (ds : List ℕ) → AllBelowBase 10 ds → 0 < length ds → fraction_digits_text ds ≡ 46 ∷ chars ds
some_fraction [] h some = absurd (omega (arith, some))
some_fraction (d ∷ ds) h some = ap (λ (l : List ℕ). 46 ∷ l) (glyphs (d ∷ ds) h)

-- a point, and the digits that are written at the end of a room of zeros
pub fraction_in_room : (k n : ℕ) (new old : List ℕ) (at end point : ℕ) → AtEnd new old (decimal n) at end → length old ≡ end → length new ≡ end → n < 10 ^ suc k → n < 2 ^ 64 → point + (suc k + 1) ≡ end
    → drop point (set new point 46) ≡ fraction_digits_text (low_digits 10 (suc k) n)
fraction_in_room k n new old at end point written long whole low fits place =
    let ds = low_digits 10 (suc k) n in
    let short : length (decimal n) ≤ suc k = length-decimal-le (suc k) n (omega arith) low fits in
    let none : drop end old ≡ [] = drop_all end old (omega (arith, long)) in
    let count : at - (point + 1) ≡ suc k - length (decimal n) = omega (arith, written.long, place, short) in
    drop-set new point 46 (omega (arith, whole, place))
    ∙ ap (λ (l : List ℕ). 46 ∷ l) (
    padded new old (decimal n) at end (point + 1) written (omega (arith, written.long, place, short))
    ∙ ap₂ (λ (j : ℕ) (l : List ℕ). pad j (decimal n) ++ l) count none
    ∙ append-nil (pad (suc k - length (decimal n)) (decimal n))
    ∙ sym (padded_digits k n low fits))
    ∙ sym (some_fraction ds (below-low_digits 10 (suc k) n (omega arith)) (omega (arith, length-low_digits 10 (suc k) n)))

-- the rest of a room, from a place on
rest_of_room : (room : List ℕ) (start : ℕ) → length room ≡ 32 → mid_of start (32 - start) room ≡ drop start room
rest_of_room room start long = ap (λ (n : ℕ). take (n - start) (drop start room)) (sym long) ∙ take_rest room start

-- the text in its room: the digits before the point, and what is after them
pub text_without_minus : (whole : ℕ) (room new fraction : List ℕ) (start end : ℕ) → length new ≡ 32 → drop start new ≡ decimal whole ++ drop end room → drop end room ≡ fraction → mid_of start (32 - start) new ≡ decimal whole ++ fraction
text_without_minus whole room new fraction start end long written is = rest_of_room new start long ∙ written ∙ ap (λ (l : List ℕ). decimal whole ++ l) is

pub text_with_minus : (whole : ℕ) (room new fraction : List ℕ) (start end : ℕ) → length new ≡ 32 → drop start new ≡ decimal whole ++ drop end room → drop end room ≡ fraction → 1 ≤ start → start ≤ 32
    → mid_of (start - 1) (32 - (start - 1)) (set new (start - 1) 45) ≡ 45 ∷ (decimal whole ++ fraction)
text_with_minus whole room new fraction start end long written is some within =
    let next : start - 1 + 1 ≡ start = omega (arith, some) in
    rest_of_room (set new (start - 1) 45) (start - 1) (length-set new (start - 1) 45 ∙ long)
    ∙ drop-set new (start - 1) 45 (omega (arith, long, some, within))
    ∙ ap (λ (k : ℕ). 45 ∷ drop k new) next
    ∙ ap (λ (l : List ℕ). 45 ∷ l) (written ∙ ap (λ (l : List ℕ). decimal whole ++ l) is)
