-- Decimals that are compared as numbers, by rows of digits around the point.
use Rattle.std.proofs.Common.{◌≡◌, ℕ, zero, suc, ◌+◌, ◌-◌, ◌*◌, ◌^◌, ◌<◌, ◌≤◌, ◌⊎◌, inl, inr, Bool, true, false, List, [], ◌∷◌, ◌++◌, length, take, drop, replicate, refl, sym, ap, ap₂, subst, ◌∙◌, arith, ℤ, pos, nat_cmp, int_cmp, append_assoc, append-nil, ◌≢◌, Result, Ok, Err}
use borrow.Rule.Slice.PartMut.{put_mid}
use Rattle.std.specs.Prelude.{◌==◌, ◌&&◌, not, if◌then◌else◌, IfOk}
use Rattle.std.specs.Ordering.{ordering_then}
use Rattle.std.specs.declared.cmp.Ordering.{Ordering}
use Rattle.std.specs.declared.cmp.Ordering.TheVariants.{Less, Equal, Greater}
use Rattle.std.specs.List.{list_all}
use Rattle.std.specs.Int.Digits.{AllBelowBase, number_from_digits, number_from_digits_after}
use Rattle.std.proofs.Math.Nat.{pow-zero, pow-succ', mul_assoc, mul-le-mul_right}
use Rattle.std.proofs.lemmas.Bool.{true≢false, cases_lt}
use Rattle.std.proofs.lemmas.Nat.{pow-add}
use Rattle.std.proofs.lemmas.Int.{ints}
use Rattle.std.proofs.lemmas.Int.Digits.{number_after_append, number_after_ge}
use Rattle.std.proofs.lemmas.List.{take-append-drop, length-append, length-drop, length-replicate, drop_all, take-replicate, drop-replicate}
use Rattle.binlog_base.specs.declared.fault.Fault.{Fault}
use Rattle.binlog_base.specs.Format.{◌>>=◌, ParsesAs, map_value}
use Rattle.binlog_base.specs.Lemmas.Format.{ok_is, ok_or_err}
use Rattle.binlog_decimal.specs.Decimals.{DecimalView, integer_groups, without_zero_groups, trimmed_decimal, or_zero, zero_decimal}
use Rattle.binlog_decimal.specs.DecimalLaws.{value_of}
use Rattle.binlog_decimal.specs.DecimalOrder.{signed, scaled, number_order}
use Rattle.binlog_decimal.specs.PackedDecimals.{packed_digits}
use Rattle.binlog_decimal.specs.LentDecimals.{decimal_of, IsAllOf}
use Rattle.binlog_decimal.specs.Lemmas.DecimalGroups.{below-append}
use Rattle.binlog_decimal.proofs.DecimalSteps.{below-take, below-drop}
use Rattle.binlog_decimal.proofs.LentDecimals.{Holds, holds, scale_within}
use Rattle.binlog_decimal.proofs.DecimalOrders.{order, ordered_as, append_order, digits_order}
use Rattle.binlog_decimal.proofs.DecimalPrinting.{apart}

-- ---- the order of signed numbers

pub same_plus : (m n : ℕ) → nat_cmp m n ≡ int_cmp (pos m) (pos n)
same_plus m n = grind (arith, ints)

pub both_minus : (m n : ℕ) → nat_cmp n m ≡ int_cmp (signed true m) (signed true n)
both_minus zero zero = grind (arith, ints)
both_minus zero (suc n) = grind (arith, ints)
both_minus (suc m) zero = grind (arith, ints)
both_minus (suc m) (suc n) = grind (arith, ints)

pub minus_plus : (m n : ℕ) → 0 < m + n → Less ≡ int_cmp (signed true m) (signed false n)
minus_plus zero n h = grind (arith, ints)
minus_plus (suc m) n h = grind (arith, ints)

pub plus_minus : (m n : ℕ) → 0 < m + n → Greater ≡ int_cmp (signed false m) (signed true n)
plus_minus m zero h = grind (arith, ints)
plus_minus m (suc n) h = grind (arith, ints)

-- two zeros are the same number, whatever their signs
pub no_sign : (s : Bool) → signed s 0 ≡ pos 0
no_sign true = refl
no_sign false = refl

pub both_zero : (s t : Bool) (m n : ℕ) → m ≡ 0 → n ≡ 0 → Equal ≡ int_cmp (signed s m) (signed t n)
both_zero s t m n a b =
    let same : Equal ≡ int_cmp (pos 0) (pos 0) = grind (arith, ints) in
    same ∙ sym (ap₂ int_cmp (ap (signed s) a ∙ no_sign s) (ap (signed t) b ∙ no_sign t))

-- ---- numbers times a number

more_times : (m n k : ℕ) → m < n → 0 < k → m * k < n * k
more_times m n k lt some =
    let more = mul-le-mul_right {m = suc m} {n = n} k lt in
    let next : suc m * k ≡ m * k + k = suc_times m k in
    omega (arith, more, next, some)
  where
    suc_times : (m k : ℕ) → suc m * k ≡ m * k + k
    suc_times m k = omega arith

cmp_times : (m n k : ℕ) → 0 < k → nat_cmp m n ≡ nat_cmp (m * k) (n * k)
cmp_times m n k some = ordered_as m n (m * k) (n * k) (λ lt. back m n lt) (λ is. same is) (λ lt. back n m lt)
  where
    back : (a b : ℕ) → a * k < b * k → a < b
    back a b lt = one (cases_lt a b)
      where
        one : (a < b) ⊎ (b ≤ a) → a < b
        one (inl h) = h
        one (inr h) = absurd (omega (arith, lt, mul-le-mul_right {m = b} {n = a} k h))

    same : m * k ≡ n * k → m ≡ n
    same is = two (cases_lt m n) (cases_lt n m)
      where
        two : (m < n) ⊎ (n ≤ m) → (n < m) ⊎ (m ≤ n) → m ≡ n
        two (inl h) _ = absurd (omega (arith, is, more_times m n k h some))
        two (inr h) (inl g) = absurd (omega (arith, is, more_times n m k g some))
        two (inr h) (inr g) = omega (arith, h, g)

some_times : (m n k : ℕ) → 0 < m + n → 0 < k → 0 < m * k + n * k
some_times zero n k h some = omega (arith, more_times 0 n k (omega (arith, h)) some)
some_times (suc m) n k h some = omega (arith, more_times 0 (suc m) k (omega arith) some)

-- the order stays where both numbers are taken as often
pub order_times : (s t : Bool) (m n k : ℕ) → 0 < k → int_cmp (signed s m) (signed t n) ≡ int_cmp (signed s (m * k)) (signed t (n * k))
order_times false false m n k some = sym (same_plus m n) ∙ cmp_times m n k some ∙ same_plus (m * k) (n * k)
order_times true true m n k some = sym (both_minus m n) ∙ cmp_times n m k some ∙ both_minus (m * k) (n * k)
order_times true false zero zero k some = sym (both_zero true false 0 0 refl refl) ∙ both_zero true false (0 * k) (0 * k) (omega arith) (omega arith)
order_times true false zero (suc n) k some = sym (minus_plus 0 (suc n) (omega arith)) ∙ minus_plus (0 * k) (suc n * k) (some_times 0 (suc n) k (omega arith) some)
order_times true false (suc m) n k some = sym (minus_plus (suc m) n (omega arith)) ∙ minus_plus (suc m * k) (n * k) (some_times (suc m) n k (omega arith) some)
order_times false true zero zero k some = sym (both_zero false true 0 0 refl refl) ∙ both_zero false true (0 * k) (0 * k) (omega arith) (omega arith)
order_times false true zero (suc n) k some = sym (plus_minus 0 (suc n) (omega arith)) ∙ plus_minus (0 * k) (suc n * k) (some_times 0 (suc n) k (omega arith) some)
order_times false true (suc m) n k some = sym (plus_minus (suc m) n (omega arith)) ∙ plus_minus (suc m * k) (n * k) (some_times (suc m) n k (omega arith) some)

-- ---- the number of a row

zeros_before : (n : ℕ) (ds : List ℕ) → number_from_digits_after 10 0 (replicate n 0 ++ ds) ≡ number_from_digits_after 10 0 ds
zeros_before zero ds = refl
zeros_before (suc n) ds = zeros_before n ds

zeros_behind : (m n : ℕ) → number_from_digits_after 10 m (replicate n 0) ≡ m * 10 ^ n
zeros_behind m zero = let one : 10 ^ 0 ≡ 1 = pow-zero 10 in let same : m * 10 ^ 0 ≡ m * 1 = ap (λ (p : ℕ). m * p) one in omega (arith, same)
zeros_behind m (suc n) =
    let power : 10 ^ suc n ≡ 10 * 10 ^ n = pow-succ' 10 n in
    let digit : m * 10 + 0 ≡ m * 10 = omega arith in
    ap (λ (k : ℕ). number_from_digits_after 10 k (replicate n 0)) digit ∙ zeros_behind (m * 10) n ∙ mul_assoc m 10 (10 ^ n) ∙ ap (λ (p : ℕ). m * p) (sym power)

-- digits with zeros before them and behind them
pub row_number : (before behind : ℕ) (ds : List ℕ) → number_from_digits 10 (replicate before 0 ++ (ds ++ replicate behind 0)) ≡ number_from_digits 10 ds * 10 ^ behind
row_number before behind ds =
    zeros_before before (ds ++ replicate behind 0)
    ∙ number_after_append 10 0 ds (replicate behind 0)
    ∙ zeros_behind (number_from_digits_after 10 0 ds) behind

-- ---- zeros at the start are no part of the number

all_zero : (ds : List ℕ) → list_all (λ d. d == 0) ds ≡ true → number_from_digits_after 10 0 ds ≡ 0
all_zero [] h = refl
all_zero (zero ∷ ds) h = all_zero ds h
all_zero (suc d ∷ ds) h = absurd (true≢false (sym h ∙ ap (λ (b : Bool). b && list_all (λ d. d == 0) ds) (apart (suc d) 0 (λ e. omega (arith, e)))))

groups_gone : (sizes ds fs : List ℕ) → number_from_digits 10 (without_zero_groups sizes ds ++ fs) ≡ number_from_digits 10 (ds ++ fs)
unfolding without_zero_groups
groups_gone [] ds fs = refl
groups_gone (size ∷ sizes) ds fs = one (groups_gone sizes (drop size ds) fs) (list_all (λ d. d == 0) (take size ds)) refl
  where
    one : number_from_digits 10 (without_zero_groups sizes (drop size ds) ++ fs) ≡ number_from_digits 10 (drop size ds ++ fs)
        → (b : Bool) → list_all (λ d. d == 0) (take size ds) ≡ b → number_from_digits 10 ((if b then without_zero_groups sizes (drop size ds) else ds) ++ fs) ≡ number_from_digits 10 (ds ++ fs)
    one later false h = refl
    one later true h =
        later
        ∙ ap (λ (k : ℕ). number_from_digits_after 10 k (drop size ds ++ fs)) (sym (all_zero (take size ds) h))
        ∙ sym (number_after_append 10 0 (take size ds) (drop size ds ++ fs))
        ∙ ap (number_from_digits 10) (sym (append_assoc (take size ds) (drop size ds) fs) ∙ ap (λ (l : List ℕ). l ++ fs) (take-append-drop size ds))

-- a decimal of no digits
no_digits : (ds fs : List ℕ) → (length ds + length fs == 0) ≡ true → (ds ≡ []) × (fs ≡ [])
no_digits [] [] h = (refl, refl)
no_digits [] (f ∷ fs) h = absurd (true≢false (sym h ∙ apart (length {A = ℕ} [] + length (f ∷ fs)) 0 (λ e. omega (arith, e))))
no_digits (d ∷ ds) fs h = absurd (true≢false (sym h ∙ apart (length (d ∷ ds) + length fs) 0 (λ e. omega (arith, e))))

zero_times : (s : Bool) (v more : ℕ) → v ≡ 0 → pos (0 * 10 ^ more) ≡ signed s (v * 10 ^ more)
zero_times s v more h =
    let none : 0 * 10 ^ more ≡ 0 = omega arith in
    ap pos none ∙ sym (ap (λ (n : ℕ). signed s (n * 10 ^ more)) h ∙ ap (signed s) none ∙ no_sign s)

or_zero_number : (d : DecimalView) (more : ℕ) → scaled (or_zero d) more ≡ scaled d more
or_zero_number d more = one (length d.integer + length d.fraction == 0) refl
  where
    one : (b : Bool) → (length d.integer + length d.fraction == 0) ≡ b → scaled (if b then zero_decimal else d) more ≡ scaled d more
    one false h = refl
    one true h =
        let none = no_digits d.integer d.fraction h in
        zero_times d.negative (value_of d) more (ap₂ (λ (ds fs : List ℕ). number_from_digits 10 (ds ++ fs)) none.0 none.1)

pub trimmed_number : (d : DecimalView) (more : ℕ) → scaled (trimmed_decimal d) more ≡ scaled d more
unfolding trimmed_decimal
trimmed_number d more =
    or_zero_number (record d { integer = without_zero_groups (integer_groups (length d.integer)) d.integer }) more
    ∙ ap (λ (n : ℕ). signed d.negative (n * 10 ^ more)) (groups_gone (integer_groups (length d.integer)) d.integer d.fraction)

or_zero_fraction : (d : DecimalView) → (or_zero d).fraction ≡ d.fraction
or_zero_fraction d = one (length d.integer + length d.fraction == 0) refl
  where
    one : (b : Bool) → (length d.integer + length d.fraction == 0) ≡ b → (if b then zero_decimal else d).fraction ≡ d.fraction
    one false h = refl
    one true h = sym (no_digits d.integer d.fraction h).1

pub trimmed_fraction : (d : DecimalView) → (trimmed_decimal d).fraction ≡ d.fraction
unfolding trimmed_decimal
trimmed_fraction d = or_zero_fraction (record d { integer = without_zero_groups (integer_groups (length d.integer)) d.integer })

-- ---- two decimals

ten_pos : (n : ℕ) → 0 < 10 ^ n
ten_pos zero = let one : 10 ^ 0 ≡ 1 = pow-zero 10 in omega (arith, one)
ten_pos (suc n) = let power : 10 ^ suc n ≡ 10 * 10 ^ n = pow-succ' 10 n in omega (arith, power, ten_pos n)

powers : (v m n k l : ℕ) → m + n ≡ k + l → v * 10 ^ m * 10 ^ n ≡ v * 10 ^ k * 10 ^ l
powers v m n k l is =
    mul_assoc v (10 ^ m) (10 ^ n) ∙ ap (λ (p : ℕ). v * p) (sym (pow-add 10 m n) ∙ ap (λ (j : ℕ). 10 ^ j) is ∙ pow-add 10 k l) ∙ sym (mul_assoc v (10 ^ k) (10 ^ l))

-- both with p digits after the point
pub rows_order : (p : ℕ) (a b : DecimalView) → length a.fraction ≤ p → length b.fraction ≤ p → int_cmp (scaled a (p - length a.fraction)) (scaled b (p - length b.fraction)) ≡ number_order a b
rows_order p a b few less =
    let m = length a.fraction in
    let n = length b.fraction in
    let first : value_of a * 10 ^ (p - m) * 10 ^ (m + n) ≡ value_of a * 10 ^ n * 10 ^ p = powers (value_of a) (p - m) (m + n) n p (omega (arith, few)) in
    let second : value_of b * 10 ^ (p - n) * 10 ^ (m + n) ≡ value_of b * 10 ^ m * 10 ^ p = powers (value_of b) (p - n) (m + n) m p (omega (arith, less)) in
    order_times a.negative b.negative (value_of a * 10 ^ (p - m)) (value_of b * 10 ^ (p - n)) (10 ^ (m + n)) (ten_pos (m + n))
    ∙ ap₂ (λ (k l : ℕ). int_cmp (signed a.negative k) (signed b.negative l)) first second
    ∙ sym (order_times a.negative b.negative (value_of a * 10 ^ n) (value_of b * 10 ^ m) (10 ^ p) (ten_pos p))

-- ---- rows of digits

-- the digits of a decimal in a row of n places on both sides of the point
pub row_is : (n i f : ℕ) (xs ys integer fraction : List ℕ) → xs ≡ replicate n 0 → ys ≡ replicate n 0 → i ≤ n → f ≤ n → length integer ≡ i → length fraction ≡ f
    → number_from_digits 10 (put_mid (n - i) (length xs - (n - i)) xs integer ++ put_mid 0 f ys fraction) ≡ number_from_digits 10 (integer ++ fraction) * 10 ^ (n - f)
row_is n i f xs ys integer fraction is are few less count after =
    let long : length xs ≡ n = ap length is ∙ length-replicate n 0 in
    let front : take (n - i) xs ≡ replicate (n - i) 0 = ap (take (n - i)) is ∙ take-replicate (n - i) n 0 (omega arith) in
    let none : drop (length xs - (n - i)) (drop (n - i) xs) ≡ [] = drop_all (length xs - (n - i)) (drop (n - i) xs) (omega (arith, length-drop (n - i) xs, long)) in
    let back : drop f ys ≡ replicate (n - f) 0 = ap (drop f) are ∙ drop-replicate f n 0 in
    let before : put_mid (n - i) (length xs - (n - i)) xs integer ≡ replicate (n - i) 0 ++ integer = ap₂ (λ (a b : List ℕ). a ++ (integer ++ b)) front none ∙ ap (λ (l : List ℕ). replicate (n - i) 0 ++ l) (append-nil integer) in
    let behind : put_mid 0 f ys fraction ≡ fraction ++ replicate (n - f) 0 = ap (λ (l : List ℕ). fraction ++ l) back in
    ap₂ (λ (a b : List ℕ). number_from_digits 10 (a ++ b)) before behind
    ∙ ap (number_from_digits 10) (append_assoc (replicate (n - i) 0) integer (fraction ++ replicate (n - f) 0) ∙ ap (λ (l : List ℕ). replicate (n - i) 0 ++ l) (sym (append_assoc integer fraction (replicate (n - f) 0))))
    ∙ row_number (n - i) (n - f) (integer ++ fraction)

-- digits of a row are from 0 to 9
zeros_below : (n : ℕ) → AllBelowBase 10 (replicate n 0)
zeros_below zero = tt
zeros_below (suc n) = (omega arith, zeros_below n)

pub below_mid : (n at count : ℕ) (xs ds : List ℕ) → xs ≡ replicate n 0 → AllBelowBase 10 ds → AllBelowBase 10 (put_mid at count xs ds)
below_mid n at count xs ds is h =
    let zeros : AllBelowBase 10 xs = subst (AllBelowBase 10) (sym is) (zeros_below n) in
    below-append 10 (take at xs) (ds ++ drop count (drop at xs)) (below-take 10 at xs zeros) (below-append 10 ds (drop count (drop at xs)) h (below-drop 10 count (drop at xs) (below-drop 10 at xs zeros)))

pub rows_digits : (ds es us vs : List ℕ) → length ds ≡ length us → length es ≡ length vs → AllBelowBase 10 ds → AllBelowBase 10 es → AllBelowBase 10 us → AllBelowBase 10 vs
    → ordering_then (order ds us) (order es vs) ≡ nat_cmp (number_from_digits 10 (ds ++ es)) (number_from_digits 10 (us ++ vs))
rows_digits ds es us vs i j a b c d =
    sym (digits_order 10 (ds ++ es) (us ++ vs) (omega (arith, i, j, length-append ds es, length-append us vs)) (below-append 10 ds es a b) (below-append 10 us vs c d) ∙ append_order ds us es vs i)

pub then_second : (r s : Ordering) → r ≡ Equal → s ≡ ordering_then r s
then_second r s h = ap (λ (q : Ordering). ordering_then q s) (sym h)

pub then_as : (q r s : Ordering) → q ≡ r → ordering_then q s ≡ ordering_then r s
then_as q r s h = ap (λ (o : Ordering). ordering_then o s) h

pub then_first : (r s : Ordering) → r ≢ Equal → r ≡ ordering_then r s
then_first Less s h = refl
then_first Equal s h = absurd (h refl)
then_first Greater s h = refl

-- ---- signs of rows

abbrev zeros : List ℕ → Bool
zeros ds = list_all (λ d. d == 0) ds

both_true : (a b : Bool) → (a && b) ≡ true → (a ≡ true) × (b ≡ true)
both_true true b h = (refl, h)
both_true false b h = absurd (true≢false (sym h))

zero_row : (ds es : List ℕ) → (zeros ds && zeros es) ≡ true → number_from_digits 10 (ds ++ es) ≡ 0
zero_row ds es h =
    let both = both_true (zeros ds) (zeros es) h in
    number_after_append 10 0 ds es ∙ ap (λ (k : ℕ). number_from_digits_after 10 k es) (all_zero ds both.0) ∙ all_zero es both.1

some_digit : (ds : List ℕ) → zeros ds ≡ false → 0 < number_from_digits_after 10 0 ds
some_digit [] h = absurd (true≢false h)
some_digit (zero ∷ ds) h = some_digit ds h
some_digit (suc d ∷ ds) h =
    let digit : 0 * 10 + suc d ≡ suc d = omega arith in
    let same : number_from_digits_after 10 0 (suc d ∷ ds) ≡ number_from_digits_after 10 (suc d) ds = ap (λ (k : ℕ). number_from_digits_after 10 k ds) digit in
    omega (arith, same, number_after_ge 10 (suc d) ds (omega arith))

some_row : (ds es : List ℕ) → (zeros ds && zeros es) ≡ false → 0 < number_from_digits 10 (ds ++ es)
some_row ds es h = one (zeros ds) refl
  where
    one : (b : Bool) → zeros ds ≡ b → 0 < number_from_digits 10 (ds ++ es)
    one false e =
        let all = number_after_append 10 0 ds es in
        omega (arith, all, some_digit ds e, number_after_ge 10 (number_from_digits_after 10 0 ds) es (omega arith))
    one true e =
        let all : number_from_digits 10 (ds ++ es) ≡ number_from_digits_after 10 0 es = number_after_append 10 0 ds es ∙ ap (λ (k : ℕ). number_from_digits_after 10 k es) (all_zero ds e) in
        omega (arith, all, some_digit es (sym (ap (λ (b : Bool). b && zeros es) e) ∙ h))

-- a minus before zeros means nothing
pub named : (s b : Bool) (ds es : List ℕ) → b ≡ (s && not (zeros ds && zeros es)) → signed b (number_from_digits 10 (ds ++ es)) ≡ signed s (number_from_digits 10 (ds ++ es))
named false b ds es h = ap (λ (c : Bool). signed c (number_from_digits 10 (ds ++ es))) h
named true b ds es h = one (zeros ds && zeros es) refl
  where
    one : (c : Bool) → (zeros ds && zeros es) ≡ c → signed b (number_from_digits 10 (ds ++ es)) ≡ signed true (number_from_digits 10 (ds ++ es))
    one false e = ap (λ (c : Bool). signed c (number_from_digits 10 (ds ++ es))) (h ∙ ap not e)
    one true e =
        let none = zero_row ds es e in
        ap (signed b) none ∙ no_sign b ∙ sym (ap (signed true) none ∙ no_sign true)

above_zero : (s : Bool) (ds es : List ℕ) → true ≡ (s && not (zeros ds && zeros es)) → 0 < number_from_digits 10 (ds ++ es)
above_zero false ds es h = absurd (true≢false h)
above_zero true ds es h = one (zeros ds && zeros es) refl
  where
    one : (c : Bool) → (zeros ds && zeros es) ≡ c → 0 < number_from_digits 10 (ds ++ es)
    one false e = some_row ds es e
    one true e = absurd (true≢false (h ∙ ap not e))

pub less_row : (s t : Bool) (ds es us vs : List ℕ) → true ≡ (s && not (zeros ds && zeros es)) → false ≡ (t && not (zeros us && zeros vs))
    → Less ≡ int_cmp (signed s (number_from_digits 10 (ds ++ es))) (signed t (number_from_digits 10 (us ++ vs)))
less_row s t ds es us vs h k =
    minus_plus (number_from_digits 10 (ds ++ es)) (number_from_digits 10 (us ++ vs)) (omega (arith, above_zero s ds es h)) ∙ ap₂ int_cmp (named s true ds es h) (named t false us vs k)

pub greater_row : (s t : Bool) (ds es us vs : List ℕ) → false ≡ (s && not (zeros ds && zeros es)) → true ≡ (t && not (zeros us && zeros vs))
    → Greater ≡ int_cmp (signed s (number_from_digits 10 (ds ++ es))) (signed t (number_from_digits 10 (us ++ vs)))
greater_row s t ds es us vs h k =
    plus_minus (number_from_digits 10 (ds ++ es)) (number_from_digits 10 (us ++ vs)) (omega (arith, above_zero t us vs k)) ∙ ap₂ int_cmp (named s false ds es h) (named t true us vs k)

pub plus_row : (s t : Bool) (ds es us vs : List ℕ) → false ≡ (s && not (zeros ds && zeros es)) → false ≡ (t && not (zeros us && zeros vs))
    → nat_cmp (number_from_digits 10 (ds ++ es)) (number_from_digits 10 (us ++ vs)) ≡ int_cmp (signed s (number_from_digits 10 (ds ++ es))) (signed t (number_from_digits 10 (us ++ vs)))
plus_row s t ds es us vs h k =
    same_plus (number_from_digits 10 (ds ++ es)) (number_from_digits 10 (us ++ vs)) ∙ ap₂ int_cmp (named s false ds es h) (named t false us vs k)

-- ---- the row of a packed decimal

pub row_zero : (d : DecimalView) (more : ℕ) → zero_decimal ≡ d → pos 0 ≡ scaled d more
row_zero d more h = let none : 0 ≡ 0 * 10 ^ more = omega arith in ap pos none ∙ ap (λ (v : DecimalView). scaled v more) h

pub few_zero : (d : DecimalView) (m : ℕ) → zero_decimal ≡ d → length d.fraction ≤ m
few_zero d m h = omega (arith, ap (λ (v : DecimalView). length v.fraction) h)

abbrev pub as_row : ℕ → Result (DecimalView × List ℕ) Fault → Result (ℤ × List ℕ) Fault
as_row more r = r >>= λ p. Ok (scaled p.0 more, p.1)

-- what was read of the digits is what is read of the row
pub row_parsed : (r : Result Bool Fault) (i f m : ℕ) (x integer fraction : List ℕ) (n : ℕ)
    → ParsesAs (λ negative. record { negative = negative; integer = integer; fraction = fraction }) (packed_digits i f) r x []
    → n ≡ number_from_digits 10 (integer ++ fraction) * 10 ^ m
    → ParsesAs (λ negative. signed negative n) (map_value (packed_digits i f) (λ d. scaled d m)) r x []
row_parsed (Ok negative) i f m x integer fraction n h is = ap (as_row m) h ∙ ap (λ (k : ℕ). Ok (signed negative k, [])) (sym is)
row_parsed (Err e) i f m x integer fraction n h is = ap (as_row m) h

pub where_ok : {P Q : Type 0} (r : Result Bool Fault) → (P → Q) → IfOk r (λ _. P) → IfOk r (λ _. Q)
where_ok (Ok b) g h = g h
where_ok (Err e) g h = tt

row_read : (m precision scale i f : ℕ) (x : List ℕ) (all : Holds precision scale x) → i ≡ precision - scale → f ≡ scale → as_row (m - f) ((packed_digits i f).parse x) ≡ Ok (scaled all.value (m - f), [])
row_read m precision scale i f x all count after = ap (as_row (m - f)) (ap₂ (λ (j k : ℕ). (packed_digits j k).parse x) count after ∙ all.read)

pub row_of : (m precision scale i f : ℕ) (x : List ℕ) (n : ℤ) → IsAllOf precision scale x → 0 < precision → i ≡ precision - scale → f ≡ scale → as_row (m - f) ((packed_digits i f).parse x) ≡ Ok (n, [])
    → n ≡ scaled (decimal_of precision scale x) (m - length (decimal_of precision scale x).fraction)
row_of m precision scale i f x n h some count after read =
    let all = holds precision scale x h some in
    let places : f ≡ length (decimal_of precision scale x).fraction = after ∙ sym all.packed.after ∙ sym (ap length (trimmed_fraction all.value)) ∙ sym (ap (λ (v : DecimalView). length v.fraction) all.is) in
    ap (λ (p : ℤ × List ℕ). p.0) (ok_is (n, []) (scaled all.value (m - f), []) (sym read ∙ row_read m precision scale i f x all count after))
    ∙ sym (trimmed_number all.value (m - f))
    ∙ ap (λ (v : DecimalView). scaled v (m - f)) (sym all.is)
    ∙ ap (λ (k : ℕ). scaled (decimal_of precision scale x) (m - k)) places

pub row_few : (m precision scale : ℕ) (x : List ℕ) → IsAllOf precision scale x → 0 < precision → precision ≤ m → length (decimal_of precision scale x).fraction ≤ m
row_few m precision scale x h some low =
    let all = holds precision scale x h some in
    let within = scale_within precision scale x h in
    omega (arith, ap (λ (v : DecimalView). length v.fraction) all.is, ap length (trimmed_fraction all.value), all.packed.after, within, low)

pub no_row : (m precision scale i f : ℕ) (x : List ℕ) (e : Fault) → IsAllOf precision scale x → 0 < precision → i ≡ precision - scale → f ≡ scale → as_row (m - f) ((packed_digits i f).parse x) ≡ Err e → ⊥
no_row m precision scale i f x e h some count after refused =
    let all = holds precision scale x h some in
    ok_or_err (as_row (m - f) ((packed_digits i f).parse x)) (scaled all.value (m - f), []) e (row_read m precision scale i f x all count after) refused
