-- Decimals with the same counts of digits are ordered as their numbers.
use Rattle.std.proofs.Common.{◌≡◌, ℕ, suc, ◌+◌, ◌-◌, ◌*◌, ◌%◌, ◌<◌, Bool, true, false, List, [], ◌∷◌, ◌++◌, length, take, drop, refl, sym, ap, ap₂, ◌∙◌, arith}
use Rattle.std.specs.Prelude.{slice_index}
use Rattle.std.specs.Ordering.{nat_cmp, ordering_then, MatchOrdering}
use Rattle.std.specs.declared.cmp.Ordering.{Ordering}
use Rattle.std.specs.declared.cmp.Ordering.TheVariants.{Less, Equal, Greater}
use Rattle.std.specs.Cmp.{ranks, nat_cmp_is}
use Rattle.std.specs.Cmp.Lexicographic.{slice_cmp}
use Rattle.std.specs.Int.Digits.{AllBelowBase, number_from_digits, number_from_digits_after}
use Rattle.std.proofs.lemmas.List.{length-take-le, length-drop, take-append-drop, length-append}
use native.Mathlib.Nat.{mul-le-mul_right}
use Rattle.binlog_decimal.specs.Decimals.{DecimalView, IsDecimal, packed_bytes, group_bytes, grouped_bytes, inverted_bytes, flipped_bytes}
use Rattle.binlog_decimal.specs.DecimalGroups.{digits_in}
use Rattle.binlog_decimal.specs.DecimalLaws.{value_of, signed_order}
use Rattle.binlog_decimal.specs.Lemmas.DecimalGroups.{below-append, number-group_bytes, below-group_bytes, length-group_bytes}
use Rattle.binlog_decimal.specs.Lemmas.PackedDecimals.{groups_of, groups_of-small, digits_in-groups_of, plain, plain-is, length-plain, below-plain, low-plain, some-plain}
use Rattle.binlog_decimal.proofs.DecimalSteps.{below-take, below-drop}

abbrev pub order : List ℕ → List ℕ → Ordering
order xs ys = slice_cmp nat_cmp xs ys

-- ---- orders of two pairs of numbers

match_as : {A B C D E F : Type 0} (r : Ordering) → (A → D) → (B → E) → (C → F) → MatchOrdering r A B C → MatchOrdering r D E F
match_as Less f g h m = f m
match_as Equal f g h m = g m
match_as Greater f g h m = h m

pub ordered_as : (x y u v : ℕ) → (u < v → x < y) → (u ≡ v → x ≡ y) → (v < u → y < x) → nat_cmp x y ≡ nat_cmp u v
ordered_as x y u v f g h = sym (nat_cmp_is x y (nat_cmp u v) (match_as (nat_cmp u v) f g h (ranks u v)))

less : (x y : ℕ) → x < y → nat_cmp x y ≡ Less
less x y h = sym (nat_cmp_is x y Less h)

greater : (x y : ℕ) → y < x → nat_cmp x y ≡ Greater
greater x y h = sym (nat_cmp_is x y Greater h)

equal : (x : ℕ) → nat_cmp x x ≡ Equal
equal x = sym (nat_cmp_is x x Equal refl)

then_equal : (r : Ordering) → ordering_then r Equal ≡ r
then_equal Less = refl
then_equal Equal = refl
then_equal Greater = refl

then_then : (r s t : Ordering) → ordering_then (ordering_then r s) t ≡ ordering_then r (ordering_then s t)
then_then Less s t = refl
then_then Equal s t = refl
then_then Greater s t = refl

-- ---- digits and the number that they form

above : (base m n d e : ℕ) → d < base → m < n → m * base + d < n * base + e
above base m n d e low lt =
    let more = mul-le-mul_right {m = suc m} {n = n} base lt in
    let next : suc m * base ≡ m * base + base = suc_times m base in
    omega (arith, more, next, low)
  where
    suc_times : (m base : ℕ) → suc m * base ≡ m * base + base
    suc_times m base = omega arith

digit_order : (base m n d e : ℕ) (r : Ordering) → d < base → e < base → MatchOrdering r (m < n) (m ≡ n) (n < m) → nat_cmp (m * base + d) (n * base + e) ≡ ordering_then r (nat_cmp d e)
digit_order base m n d e Less a b h = less (m * base + d) (n * base + e) (above base m n d e a h)
digit_order base m n d e Greater a b h = greater (m * base + d) (n * base + e) (above base n m e d b h)
digit_order base m n d e Equal a b h =
    ap (λ (k : ℕ). nat_cmp (m * base + d) (k * base + e)) (sym h)
    ∙ ordered_as (m * base + d) (m * base + e) d e (λ (lt : d < e). omega (arith, lt)) (λ is. ap (λ (k : ℕ). m * base + k) is) (λ (lt : e < d). omega (arith, lt))

order_after : (base m n : ℕ) (ds es : List ℕ) → length ds ≡ length es → AllBelowBase base ds → AllBelowBase base es → nat_cmp (number_from_digits_after base m ds) (number_from_digits_after base n es) ≡ ordering_then (nat_cmp m n) (order ds es)
order_after base m n [] [] long a b = sym (then_equal (nat_cmp m n))
order_after base m n [] (e ∷ es) long a b = absurd (omega (arith, long))
order_after base m n (d ∷ ds) [] long a b = absurd (omega (arith, long))
order_after base m n (d ∷ ds) (e ∷ es) long a b =
    order_after base (m * base + d) (n * base + e) ds es (omega (arith, long)) a.1 b.1
    ∙ ap (λ (r : Ordering). ordering_then r (order ds es)) (digit_order base m n d e (nat_cmp m n) a.0 b.0 (ranks m n))
    ∙ then_then (nat_cmp m n) (nat_cmp d e) (order ds es)

pub digits_order : (base : ℕ) (ds es : List ℕ) → length ds ≡ length es → AllBelowBase base ds → AllBelowBase base es → nat_cmp (number_from_digits base ds) (number_from_digits base es) ≡ order ds es
digits_order base ds es long a b = order_after base 0 0 ds es long a b ∙ ap (λ (r : Ordering). ordering_then r (order ds es)) (equal 0)

-- ---- groups

pub append_order : (xs us ys vs : List ℕ) → length xs ≡ length us → order (xs ++ ys) (us ++ vs) ≡ ordering_then (order xs us) (order ys vs)
append_order [] [] ys vs long = refl
append_order [] (u ∷ us) ys vs long = absurd (omega (arith, long))
append_order (x ∷ xs) [] ys vs long = absurd (omega (arith, long))
append_order (x ∷ xs) (u ∷ us) ys vs long =
    ap (ordering_then (nat_cmp x u)) (append_order xs us ys vs (omega (arith, long))) ∙ sym (then_then (nat_cmp x u) (order xs us) (order ys vs))

group_order : (ds es : List ℕ) → length ds ≡ length es → length ds < 10 → AllBelowBase 10 ds → AllBelowBase 10 es → order (group_bytes ds) (group_bytes es) ≡ order ds es
group_order ds es long few a b =
    let width : length (group_bytes ds) ≡ length (group_bytes es) = omega (arith, long, length-group_bytes ds, length-group_bytes es) in
    sym (digits_order 256 (group_bytes ds) (group_bytes es) width (below-group_bytes ds) (below-group_bytes es))
    ∙ ap₂ nat_cmp (number-group_bytes ds a few) (number-group_bytes es b (omega (arith, long, few)))
    ∙ digits_order 10 ds es long a b

grouped_order : (sizes ds es : List ℕ) → AllBelowBase 10 sizes → AllBelowBase 10 ds → AllBelowBase 10 es → length ds ≡ digits_in sizes → length es ≡ digits_in sizes → order (grouped_bytes sizes ds) (grouped_bytes sizes es) ≡ order ds es
unfolding grouped_bytes
grouped_order [] [] [] small a b i j = refl
grouped_order [] [] (e ∷ es) small a b i j = absurd (omega (arith, j))
grouped_order [] (d ∷ ds) es small a b i j = absurd (omega (arith, i))
grouped_order (size ∷ sizes) ds es small a b i j =
    let one = length-take-le size ds (omega (arith, i)) in
    let other = length-take-le size es (omega (arith, j)) in
    let groups = group_order (take size ds) (take size es) (omega (arith, one, other)) (omega (arith, one, small.0)) (below-take 10 size ds a) (below-take 10 size es b) in
    let rest = grouped_order sizes (drop size ds) (drop size es) small.1 (below-drop 10 size ds a) (below-drop 10 size es b) (omega (arith, i, length-drop size ds)) (omega (arith, j, length-drop size es)) in
    let width : length (group_bytes (take size ds)) ≡ length (group_bytes (take size es)) = omega (arith, one, other, length-group_bytes (take size ds), length-group_bytes (take size es)) in
    append_order (group_bytes (take size ds)) (group_bytes (take size es)) (grouped_bytes sizes (drop size ds)) (grouped_bytes sizes (drop size es)) width
    ∙ ap₂ ordering_then groups rest
    ∙ sym (append_order (take size ds) (take size es) (drop size ds) (drop size es) (omega (arith, one, other)))
    ∙ ap₂ order (take-append-drop size ds) (take-append-drop size es)

-- ---- the sign encoding

inverted_order : (xs ys : List ℕ) → length xs ≡ length ys → AllBelowBase 256 xs → AllBelowBase 256 ys → order (inverted_bytes true xs) (inverted_bytes true ys) ≡ order ys xs
inverted_order [] [] long a b = refl
inverted_order [] (y ∷ ys) long a b = absurd (omega (arith, long))
inverted_order (x ∷ xs) [] long a b = absurd (omega (arith, long))
inverted_order (x ∷ xs) (y ∷ ys) long a b =
    ap₂ ordering_then
    (ordered_as (255 - x) (255 - y) y x (λ (lt : y < x). omega (arith, lt, a.0, b.0)) (λ is. ap (λ (k : ℕ). 255 - k) (sym is)) (λ (lt : x < y). omega (arith, lt, a.0, b.0)))
    (inverted_order xs ys (omega (arith, long)) a.1 b.1)

masked_order : (p q : Bool) (xs ys : List ℕ) (m n : ℕ) → length xs ≡ length ys → 0 < length xs → AllBelowBase 256 xs → AllBelowBase 256 ys → slice_index xs 0 < 128 → slice_index ys 0 < 128
    → order xs ys ≡ nat_cmp m n → order ys xs ≡ nat_cmp n m
    → order (flipped_bytes (inverted_bytes p xs)) (flipped_bytes (inverted_bytes q ys)) ≡ signed_order p m q n
masked_order p q [] ys m n long some a b lx ly e f = absurd (omega (arith, some))
masked_order p q (x ∷ xs) [] m n long some a b lx ly e f = absurd (omega (arith, long))
masked_order false false (x ∷ xs) (y ∷ ys) m n long some a b lx ly e f =
    ap (λ (r : Ordering). ordering_then r (order xs ys))
    (ordered_as ((x + 128) % 256) ((y + 128) % 256) x y (λ (lt : x < y). omega (arith, lt, lx, ly)) (λ is. ap (λ (k : ℕ). (k + 128) % 256) is) (λ (lt : y < x). omega (arith, lt, lx, ly))) ∙ e
masked_order true true (x ∷ xs) (y ∷ ys) m n long some a b lx ly e f =
    ap₂ ordering_then
    (ordered_as ((255 - x + 128) % 256) ((255 - y + 128) % 256) y x (λ (lt : y < x). omega (arith, lt, lx, ly)) (λ is. ap (λ (k : ℕ). (255 - k + 128) % 256) (sym is)) (λ (lt : x < y). omega (arith, lt, lx, ly)))
    (inverted_order xs ys (omega (arith, long)) a.1 b.1) ∙ f
masked_order true false (x ∷ xs) (y ∷ ys) m n long some a b lx ly e f =
    ap (λ (r : Ordering). ordering_then r (order (inverted_bytes true xs) ys)) (less ((255 - x + 128) % 256) ((y + 128) % 256) (omega (arith, lx, ly)))
masked_order false true (x ∷ xs) (y ∷ ys) m n long some a b lx ly e f =
    ap (λ (r : Ordering). ordering_then r (order xs (inverted_bytes true ys))) (greater ((x + 128) % 256) ((255 - y + 128) % 256) (omega (arith, lx, ly)))

plain_order : (a b : DecimalView) → IsDecimal a → IsDecimal b → length a.integer ≡ length b.integer → length a.fraction ≡ length b.fraction → order (plain a) (plain b) ≡ nat_cmp (value_of a) (value_of b)
plain_order a b is other i f =
    let sizes = groups_of (length a.integer) (length a.fraction) in
    let ds = a.integer ++ a.fraction in
    let es = b.integer ++ b.fraction in
    let count = digits_in-groups_of (length a.integer) (length a.fraction) in
    let one = length-append a.integer a.fraction in
    let two = length-append b.integer b.fraction in
    let low = below-append 10 a.integer a.fraction is.0 is.1 in
    let lower = below-append 10 b.integer b.fraction other.0 other.1 in
    ap₂ order (plain-is a) (plain-is b ∙ ap₂ (λ (m n : ℕ). grouped_bytes (groups_of m n) es) (sym i) (sym f))
    ∙ grouped_order sizes ds es (groups_of-small (length a.integer) (length a.fraction)) low lower (omega (arith, count, one)) (omega (arith, count, two, i, f))
    ∙ sym (digits_order 10 ds es (omega (arith, one, two, i, f)) low lower)

pub ordered_as_numbers : (a b : DecimalView) → IsDecimal a → IsDecimal b → length a.integer ≡ length b.integer → length a.fraction ≡ length b.fraction
    → slice_cmp nat_cmp (packed_bytes a) (packed_bytes b) ≡ signed_order a.negative (value_of a) b.negative (value_of b)
unfolding packed_bytes
ordered_as_numbers a b is other i f =
    masked_order a.negative b.negative (plain a) (plain b) (value_of a) (value_of b) (omega (arith, length-plain a, length-plain b, i, f)) (some-plain a is) (below-plain a) (below-plain b) (low-plain a is) (low-plain b other)
    (plain_order a b is other i f) (plain_order b a other is (sym i) (sym f))

-- ---- decimals with the same counts of digits are compared by their digits

-- the order of digits by their signs; a negative decimal has the greater digits first
abbrev pub by_digits : Bool → List ℕ → Bool → List ℕ → Ordering
by_digits false ds false es = order ds es
by_digits true ds true es = order es ds
by_digits true ds false es = Less
by_digits false ds true es = Greater

signed_as_digits : (p q : Bool) (m n : ℕ) (ds es : List ℕ) → nat_cmp m n ≡ order ds es → nat_cmp n m ≡ order es ds → by_digits p ds q es ≡ signed_order p m q n
signed_as_digits false false m n ds es h k = sym h
signed_as_digits true true m n ds es h k = sym k
signed_as_digits true false m n ds es h k = refl
signed_as_digits false true m n ds es h k = refl

ordered_as_digits : (a b : DecimalView) → IsDecimal a → IsDecimal b → length a.integer ≡ length b.integer → length a.fraction ≡ length b.fraction
    → by_digits a.negative (a.integer ++ a.fraction) b.negative (b.integer ++ b.fraction) ≡ slice_cmp nat_cmp (packed_bytes a) (packed_bytes b)
ordered_as_digits a b is other i f =
    let ds = a.integer ++ a.fraction in
    let es = b.integer ++ b.fraction in
    let long : length ds ≡ length es = omega (arith, length-append a.integer a.fraction, length-append b.integer b.fraction, i, f) in
    let low = below-append 10 a.integer a.fraction is.0 is.1 in
    let lower = below-append 10 b.integer b.fraction other.0 other.1 in
    signed_as_digits a.negative b.negative (value_of a) (value_of b) ds es (digits_order 10 ds es long low lower) (digits_order 10 es ds (sym long) lower low)
    ∙ sym (ordered_as_numbers a b is other i f)

-- a decimal by its digits, of which so many are before the point
abbrev cut : Bool → ℕ → List ℕ → DecimalView
cut negative before digits = record { negative = negative; integer = take before digits; fraction = drop before digits }

-- p and q are the signs; a and b are the decimals as contracts see them
pub compared_by_digits : (p q s t : Bool) (m n : ℕ) (ds es : List ℕ) (a b : DecimalView) → cut s m ds ≡ a → cut t n es ≡ b → IsDecimal (cut s m ds) → IsDecimal (cut t n es)
    → length a.integer ≡ length b.integer → length a.fraction ≡ length b.fraction → s ≡ p → t ≡ q
    → by_digits p ds q es ≡ slice_cmp nat_cmp (packed_bytes a) (packed_bytes b)
compared_by_digits p q s t m n ds es a b one two is other i f sign signs =
    let before : length (take m ds) ≡ length (take n es) = ap (λ (d : DecimalView). length d.integer) one ∙ i ∙ sym (ap (λ (d : DecimalView). length d.integer) two) in
    let after : length (drop m ds) ≡ length (drop n es) = ap (λ (d : DecimalView). length d.fraction) one ∙ f ∙ sym (ap (λ (d : DecimalView). length d.fraction) two) in
    ap₂ (λ (x y : Bool). by_digits x ds y es) (sym sign) (sym signs)
    ∙ ap₂ (λ (xs ys : List ℕ). by_digits s xs t ys) (sym (take-append-drop m ds)) (sym (take-append-drop n es))
    ∙ ordered_as_digits (cut s m ds) (cut t n es) is other before after
    ∙ ap₂ (λ (x y : DecimalView). slice_cmp nat_cmp (packed_bytes x) (packed_bytes y)) one two
