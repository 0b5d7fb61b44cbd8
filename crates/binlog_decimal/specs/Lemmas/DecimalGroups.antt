-- The bytes of groups hold the digits that were cut into the groups, and no others.
use Rattle.std.proofs.Common.{◌≡◌, ℕ, zero, suc, ◌+◌, ◌-◌, ◌*◌, ◌/◌, ◌%◌, ◌^◌, ◌<◌, ◌≤◌, List, [], ◌∷◌, ◌++◌, length, take, drop, replicate, refl, sym, ap, subst, ◌∙◌, append_assoc, append-nil, arith, lit≤, inl, inr}
use Rattle.std.specs.Int.Digits.{AllBelowBase, number_from_digits, number_from_digits_after}
use Rattle.std.specs.Int.{byte_at, bytes_high_first}
use Rattle.std.proofs.Math.Nat.{div-div-eq-div-mul, pow-zero, pow-suc, pow-succ', mod-lt, div-add-mod', mul-le-mul_right, mul_assoc}
use Rattle.std.specs.Prelude.{slice_index}
use Rattle.std.proofs.lemmas.Bool.{cases_lt}
use Rattle.std.proofs.lemmas.Nat.{div-mul-add, mod-mul-add, div_below}
use Rattle.std.proofs.lemmas.Int.Digits.{number_push, number_lt}
use Rattle.std.proofs.lemmas.List.{length-append, length-take-le, take_all, length-drop, take-append-drop, take_at, drop_at, take-append-le, drop-append-le}
use Rattle.byteorder.specs.Numbers.{length-bytes_high_first}
use Rattle.binlog_decimal.specs.Decimals.{group_width, group_bytes, grouped_bytes, integer_groups, fraction_groups, digits_size}
use Rattle.binlog_decimal.specs.DecimalGroups.{IsCut, bytes_in, digits_in, low_digits, ungrouped_digits}

pub below-append : (base : ℕ) (xs ys : List ℕ) → AllBelowBase base xs → AllBelowBase base ys → AllBelowBase base (xs ++ ys)
below-append base [] ys a b = b
below-append base (x ∷ xs) ys a b = (a.0, below-append base xs ys a.1 b)

pub below-front : (base : ℕ) (xs ys : List ℕ) → AllBelowBase base (xs ++ ys) → AllBelowBase base xs
below-front base [] ys a = tt
below-front base (x ∷ xs) ys a = (a.0, below-front base xs ys a.1)

pub below-back : (base : ℕ) (xs ys : List ℕ) → AllBelowBase base (xs ++ ys) → AllBelowBase base ys
below-back base [] ys a = a
below-back base (x ∷ xs) ys a = below-back base xs ys a.1

pub length-low_digits : (base count n : ℕ) → length (low_digits base count n) ≡ count
length-low_digits base zero n = refl
length-low_digits base (suc count) n =
    let e = length-append (low_digits base count (n / base)) ((n % base) ∷ []) in
    let h = length-low_digits base count (n / base) in
    omega (arith, e, h)

pub below-low_digits : (base count n : ℕ) → 0 < base → AllBelowBase base (low_digits base count n)
below-low_digits base zero n some = tt
below-low_digits base (suc count) n some = below-append base (low_digits base count (n / base)) ((n % base) ∷ []) (below-low_digits base count (n / base) some) (mod-lt n some, tt)

pub number-low_digits : (base count n : ℕ) → 0 < base → n < base ^ count → number_from_digits base (low_digits base count n) ≡ n
number-low_digits base zero n some low = omega (arith, pow-zero base)
number-low_digits base (suc count) n some low =
    let high : n / base < base ^ count = div_below n base (base ^ count) some (subst (λ (p : ℕ). n < p) (pow-suc base count) low) in
    let h = number-low_digits base count (n / base) some high in
    number_push base (low_digits base count (n / base)) (n % base) ∙ ap (λ (m : ℕ). m * base + n % base) h ∙ div-add-mod' n base

-- two lists of digits of the same length that form the same number are the same
pub same_after : (base m n : ℕ) (ds es : List ℕ) → length ds ≡ length es → AllBelowBase base ds → AllBelowBase base es → number_from_digits_after base m ds ≡ number_from_digits_after base n es → (m ≡ n) × (ds ≡ es)
same_after base m n [] [] long a b e = (e, refl)
same_after base m n [] (x ∷ es) long a b e = absurd (omega arith)
same_after base m n (x ∷ ds) [] long a b e = absurd (omega arith)
same_after base m n (x ∷ ds) (y ∷ es) long a b e =
    let h = same_after base (m * base + x) (n * base + y) ds es (omega arith) a.1 b.1 e in
    let quotient : m ≡ n = sym (div-mul-add m base x a.0) ∙ ap (λ (k : ℕ). k / base) h.0 ∙ div-mul-add n base y b.0 in
    let rest : x ≡ y = sym (mod-mul-add m base x a.0) ∙ ap (λ (k : ℕ). k % base) h.0 ∙ mod-mul-add n base y b.0 in
    (quotient, cc (rest, h.1))

pub same_digits : (base : ℕ) (ds es : List ℕ) → length ds ≡ length es → AllBelowBase base ds → AllBelowBase base es → number_from_digits base ds ≡ number_from_digits base es → ds ≡ es
same_digits base ds es long a b e = (same_after base 0 0 ds es long a b e).1

-- ---- the bytes of a group

shifted : (k n : ℕ) → byte_at (suc k) n ≡ byte_at k (n / 256)
shifted zero n = refl
shifted (suc k) n = ap (λ (m : ℕ). m % 256) (ap (λ (p : ℕ). n / p) (pow-succ' 256 (suc k)) ∙ sym (div-div-eq-div-mul n 256 (256 ^ suc k)))

pub bytes-push : (k n : ℕ) → bytes_high_first (suc k) n ≡ bytes_high_first k (n / 256) ++ (n % 256) ∷ []
bytes-push zero n = refl
bytes-push (suc k) n = ap (λ (l : List ℕ). byte_at (suc k) n ∷ l) (bytes-push k n) ∙ ap (λ (b : ℕ). b ∷ (bytes_high_first k (n / 256) ++ (n % 256) ∷ [])) (shifted k n)

pub bytes-low_digits : (k n : ℕ) → bytes_high_first k n ≡ low_digits 256 k n
bytes-low_digits zero n = refl
bytes-low_digits (suc k) n = bytes-push k n ∙ ap (λ (l : List ℕ). l ++ (n % 256) ∷ []) (bytes-low_digits k (n / 256))

-- the number of a group fits the group's bytes
pow-fits : (k : ℕ) → k < 10 → 10 ^ k ≤ 256 ^ group_width k
pow-fits zero h = lit≤ tt
pow-fits (suc zero) h = lit≤ tt
pow-fits (suc (suc zero)) h = lit≤ tt
pow-fits (suc (suc (suc zero))) h = lit≤ tt
pow-fits (suc (suc (suc (suc zero)))) h = lit≤ tt
pow-fits (suc (suc (suc (suc (suc zero))))) h = lit≤ tt
pow-fits (suc (suc (suc (suc (suc (suc zero)))))) h = lit≤ tt
pow-fits (suc (suc (suc (suc (suc (suc (suc zero))))))) h = lit≤ tt
pow-fits (suc (suc (suc (suc (suc (suc (suc (suc zero)))))))) h = lit≤ tt
pow-fits (suc (suc (suc (suc (suc (suc (suc (suc (suc zero))))))))) h = lit≤ tt
pow-fits (suc (suc (suc (suc (suc (suc (suc (suc (suc (suc k)))))))))) h = absurd (omega arith)

-- the number in a group's bytes is the number that the group's digits form
pub number-group_bytes : (ds : List ℕ) → AllBelowBase 10 ds → length ds < 10 → number_from_digits 256 (group_bytes ds) ≡ number_from_digits 10 ds
number-group_bytes ds below most =
    let w = group_width (length ds) in
    let n = number_from_digits 10 ds in
    let low : n < 256 ^ w = omega (arith, number_lt 10 ds below, pow-fits (length ds) most) in
    ap (number_from_digits 256) (bytes-low_digits w n) ∙ number-low_digits 256 w n (omega arith) low

pub below-group_bytes : (ds : List ℕ) → AllBelowBase 256 (group_bytes ds)
below-group_bytes ds =
    let w = group_width (length ds) in
    let n = number_from_digits 10 ds in
    subst (AllBelowBase 256) (sym (bytes-low_digits w n)) (below-low_digits 256 w n (omega arith))

pub length-group_bytes : (ds : List ℕ) → length (group_bytes ds) ≡ group_width (length ds)
length-group_bytes ds = length-bytes_high_first (group_width (length ds)) (number_from_digits 10 ds)

pub cut-nil : IsCut [] [] []
unfolding grouped_bytes
cut-nil = record { below = tt; count = refl; grouping = refl }

-- digits as a single group
pub cut-group : (size : ℕ) (bytes digits : List ℕ) → AllBelowBase 10 digits → length digits ≡ size → group_bytes digits ≡ bytes → IsCut (size ∷ []) bytes digits
unfolding grouped_bytes
cut-group size bytes digits below long is = record {
  below = below;
  count = omega arith;
  grouping = rw (take_all size digits (omega arith)) (append-nil (group_bytes digits) ∙ is);
}

pub group-cut : (size : ℕ) (bytes digits : List ℕ) → IsCut (size ∷ []) bytes digits → group_bytes digits ≡ bytes
unfolding grouped_bytes
group-cut size bytes digits h =
    let long : length digits ≤ size = omega (arith, h.count) in
    sym (ap group_bytes (take_all size digits long)) ∙ sym (append-nil (group_bytes (take size digits))) ∙ h.grouping

-- the bytes of two lists of groups, one after the other
pub grouped_bytes-append : (a b ds es : List ℕ) → length ds ≡ digits_in a → grouped_bytes (a ++ b) (ds ++ es) ≡ grouped_bytes a ds ++ grouped_bytes b es
unfolding grouped_bytes
grouped_bytes-append [] b [] es long = refl
grouped_bytes-append [] b (d ∷ ds) es long = absurd (omega arith)
grouped_bytes-append (size ∷ a) b ds es long =
    let front : size ≤ length ds = omega arith in
    let back : length (drop size ds) ≡ digits_in a = omega (arith, length-drop size ds) in
    rw (take-append-le size ds es front, drop-append-le size ds es front)
    (ap (λ (l : List ℕ). group_bytes (take size ds) ++ l) (grouped_bytes-append a b (drop size ds) es back) ∙ sym (append_assoc (group_bytes (take size ds)) (grouped_bytes a (drop size ds)) (grouped_bytes b es)))

pub digits_in-append : (a b : List ℕ) → digits_in (a ++ b) ≡ digits_in a + digits_in b
digits_in-append [] b = omega arith
digits_in-append (size ∷ a) b = omega (arith, digits_in-append a b)

pub bytes_in-append : (a b : List ℕ) → bytes_in (a ++ b) ≡ bytes_in a + bytes_in b
bytes_in-append [] b = omega arith
bytes_in-append (size ∷ a) b = omega (arith, bytes_in-append a b)

pub length-grouped_bytes : (sizes ds : List ℕ) → length ds ≡ digits_in sizes → length (grouped_bytes sizes ds) ≡ bytes_in sizes
unfolding grouped_bytes
length-grouped_bytes [] ds long = refl
length-grouped_bytes (size ∷ sizes) ds long =
    let front : length (take size ds) ≡ size = length-take-le size ds (omega arith) in
    let group = length-group_bytes (take size ds) in
    let rest = length-grouped_bytes sizes (drop size ds) (omega (arith, length-drop size ds)) in
    let all = length-append (group_bytes (take size ds)) (grouped_bytes sizes (drop size ds)) in
    let width : group_width (length (take size ds)) ≡ group_width size = ap group_width front in
    omega (arith, group, rest, all, width)

pub cut-length : (sizes bytes digits : List ℕ) → IsCut sizes bytes digits → length bytes ≡ bytes_in sizes
cut-length sizes bytes digits h = ap length (sym h.grouping) ∙ length-grouped_bytes sizes digits h.count

pub cut-append : (a b x y ds es : List ℕ) → IsCut a x ds → IsCut b y es → IsCut (a ++ b) (x ++ y) (ds ++ es)
cut-append a b x y ds es h k = record {
  below = below-append 10 ds es h.below k.below;
  count = omega (arith, length-append ds es, digits_in-append a b, h.count, k.count);
  grouping = grouped_bytes-append a b ds es h.count ∙ ap (λ (l : List ℕ). l ++ grouped_bytes b es) h.grouping ∙ ap (λ (l : List ℕ). x ++ l) k.grouping;
}

-- if two lists are equal, so are their parts when the first parts have the same length
pub parts_of_same : (x y u v : List ℕ) → length x ≡ length u → x ++ y ≡ u ++ v → (x ≡ u) × (y ≡ v)
parts_of_same [] y [] v long e = (refl, e)
parts_of_same [] y (b ∷ u) v long e = absurd (omega arith)
parts_of_same (a ∷ x) y [] v long e = absurd (omega arith)
parts_of_same (a ∷ x) y (b ∷ u) v long e =
    let rest : x ++ y ≡ u ++ v = cc in
    let h = parts_of_same x y u v (omega arith) rest in
    let first : a ≡ b = cc in
    (cc (first, h.0), h.1)

pub cut-parts : (a b x y ds : List ℕ) → length x ≡ bytes_in a → IsCut (a ++ b) (x ++ y) ds → IsCut a x (take (digits_in a) ds) × IsCut b y (drop (digits_in a) ds)
cut-parts a b x y ds long h =
    let n = digits_in a in
    let both : take n ds ++ drop n ds ≡ ds = take-append-drop n ds in
    let within : n ≤ length ds = omega (arith, h.count, digits_in-append a b) in
    let front : length (take n ds) ≡ n = length-take-le n ds within in
    let back : length (drop n ds) ≡ digits_in b = omega (arith, length-drop n ds, h.count, digits_in-append a b) in
    let below : AllBelowBase 10 (take n ds ++ drop n ds) = subst (AllBelowBase 10) (sym both) h.below in
    let bytes : grouped_bytes a (take n ds) ++ grouped_bytes b (drop n ds) ≡ x ++ y = sym (grouped_bytes-append a b (take n ds) (drop n ds) front) ∙ ap (grouped_bytes (a ++ b)) both ∙ h.grouping in
    let parts = parts_of_same (grouped_bytes a (take n ds)) (grouped_bytes b (drop n ds)) x y (length-grouped_bytes a (take n ds) front ∙ sym long) bytes in (
      record { below = below-front 10 (take n ds) (drop n ds) below; count = front; grouping = parts.0 },
      record { below = below-back 10 (take n ds) (drop n ds) below; count = back; grouping = parts.1 },
    )

pub length-ungrouped_digits : (sizes bytes : List ℕ) → length (ungrouped_digits sizes bytes) ≡ digits_in sizes
unfolding ungrouped_digits
length-ungrouped_digits [] bytes = refl
length-ungrouped_digits (size ∷ sizes) bytes =
    let group = low_digits 10 size (number_from_digits 256 (take (group_width size) bytes)) in
    let rest = ungrouped_digits sizes (drop (group_width size) bytes) in
    omega (arith, length-append group rest, length-low_digits 10 size (number_from_digits 256 (take (group_width size) bytes)), length-ungrouped_digits sizes (drop (group_width size) bytes))

pub below-ungrouped_digits : (sizes bytes : List ℕ) → AllBelowBase 10 (ungrouped_digits sizes bytes)
unfolding ungrouped_digits
below-ungrouped_digits [] bytes = tt
below-ungrouped_digits (size ∷ sizes) bytes =
    below-append 10 (low_digits 10 size (number_from_digits 256 (take (group_width size) bytes))) (ungrouped_digits sizes (drop (group_width size) bytes))
    (below-low_digits 10 size (number_from_digits 256 (take (group_width size) bytes)) (omega arith)) (below-ungrouped_digits sizes (drop (group_width size) bytes))

-- the digits of a group are read back from the number in its bytes
pub low_digits-group_bytes : (size : ℕ) (ds : List ℕ) → size < 10 → AllBelowBase 10 ds → length ds ≡ size → low_digits 10 size (number_from_digits 256 (group_bytes ds)) ≡ ds
low_digits-group_bytes size ds most below long =
    let n = number_from_digits 10 ds in
    let held : number_from_digits 256 (group_bytes ds) ≡ n = number-group_bytes ds below (omega arith) in
    let low : n < 10 ^ size = subst (λ (k : ℕ). n < 10 ^ k) long (number_lt 10 ds below) in
    ap (low_digits 10 size) held ∙ same_digits 10 (low_digits 10 size n) ds (length-low_digits 10 size n ∙ sym long) (below-low_digits 10 size n (omega arith)) below (number-low_digits 10 size n (omega arith) low)

pub ungrouped_digits-grouped_bytes : (sizes ds rest : List ℕ) → AllBelowBase 10 sizes → AllBelowBase 10 ds → length ds ≡ digits_in sizes → ungrouped_digits sizes (grouped_bytes sizes ds ++ rest) ≡ ds
unfolding ungrouped_digits grouped_bytes
ungrouped_digits-grouped_bytes [] [] rest most below long = refl
ungrouped_digits-grouped_bytes [] (d ∷ ds) rest most below long = absurd (omega arith)
ungrouped_digits-grouped_bytes (size ∷ sizes) ds rest most below long =
    let front : length (take size ds) ≡ size = length-take-le size ds (omega arith) in
    let back : length (drop size ds) ≡ digits_in sizes = omega (arith, length-drop size ds) in
    let all : take size ds ++ drop size ds ≡ ds = take-append-drop size ds in
    let both : AllBelowBase 10 (take size ds ++ drop size ds) = subst (AllBelowBase 10) (sym all) below in
    let group = group_bytes (take size ds) in
    let others = grouped_bytes sizes (drop size ds) in
    let width : length group ≡ group_width size = length-group_bytes (take size ds) ∙ ap group_width front in
    let regrouped : (group ++ others) ++ rest ≡ group ++ (others ++ rest) = append_assoc group others rest in
    rw (regrouped, take_at group (others ++ rest) (group_width size) width, drop_at group (others ++ rest) (group_width size) width, low_digits-group_bytes size (take size ds) most.0 (below-front 10 (take size ds) (drop size ds) both) front, ungrouped_digits-grouped_bytes sizes (drop size ds) rest most.1 (below-back 10 (take size ds) (drop size ds) both) back) all

-- ---- the first bit of groups is 0

raised_by : (base n : ℕ) (ds : List ℕ) → n * base ^ length ds ≤ number_from_digits_after base n ds
raised_by base n [] = omega (arith, ap (λ (p : ℕ). n * p) (pow-zero base))
raised_by base n (d ∷ ds) =
    let h = raised_by base (n * base + d) ds in
    let more : n * base * base ^ length ds ≤ (n * base + d) * base ^ length ds = mul-le-mul_right (base ^ length ds) (omega arith) in
    let same : n * base ^ suc (length ds) ≡ n * base * base ^ length ds = ap (λ (p : ℕ). n * p) (pow-succ' base (length ds)) ∙ sym (mul_assoc n base (base ^ length ds)) in
    omega (arith, h, more, same)

low_first : (w byte : ℕ) (bytes : List ℕ) → length bytes ≡ w → number_from_digits 256 (byte ∷ bytes) < 128 * 256 ^ w → byte < 128
low_first w byte bytes long low =
    let from_zero : 0 * 256 + byte ≡ byte = omega arith in
    let same : number_from_digits 256 (byte ∷ bytes) ≡ number_from_digits_after 256 byte bytes = ap (λ (n : ℕ). number_from_digits_after 256 n bytes) from_zero in
    let h : byte * 256 ^ length bytes ≤ number_from_digits_after 256 byte bytes = raised_by 256 byte bytes in
    let at_w : byte * 256 ^ w ≤ number_from_digits_after 256 byte bytes = subst (λ (v : ℕ). byte * 256 ^ v ≤ number_from_digits_after 256 byte bytes) long h in
    elim (cases_lt byte 128) [
      | inl l ↦ l
      | inr l ↦ let more : 128 * 256 ^ w ≤ byte * 256 ^ w = mul-le-mul_right (256 ^ w) l in absurd (omega (arith, more, at_w, low, same))
    ]

pow-low : (k : ℕ) → 0 < k → k < 10 → 10 ^ k ≤ 128 * 256 ^ (group_width k - 1)
pow-low zero some h = absurd (omega arith)
pow-low (suc zero) some h = lit≤ tt
pow-low (suc (suc zero)) some h = lit≤ tt
pow-low (suc (suc (suc zero))) some h = lit≤ tt
pow-low (suc (suc (suc (suc zero)))) some h = lit≤ tt
pow-low (suc (suc (suc (suc (suc zero))))) some h = lit≤ tt
pow-low (suc (suc (suc (suc (suc (suc zero)))))) some h = lit≤ tt
pow-low (suc (suc (suc (suc (suc (suc (suc zero))))))) some h = lit≤ tt
pow-low (suc (suc (suc (suc (suc (suc (suc (suc zero)))))))) some h = lit≤ tt
pow-low (suc (suc (suc (suc (suc (suc (suc (suc (suc zero))))))))) some h = lit≤ tt
pow-low (suc (suc (suc (suc (suc (suc (suc (suc (suc (suc k)))))))))) some h = absurd (omega arith)

low_group : (ds bytes : List ℕ) → group_bytes ds ≡ bytes → AllBelowBase 10 ds → length ds < 10 → slice_index bytes 0 < 128
low_group ds [] is below most = omega arith
low_group ds (byte ∷ bytes) is below most =
    let width : length (byte ∷ bytes) ≡ group_width (length ds) = ap length (sym is) ∙ length-group_bytes ds in
    let some : 0 < length ds = omega (arith, width) in
    let long : length bytes ≡ group_width (length ds) - 1 = omega (arith, width) in
    let held : number_from_digits 256 (byte ∷ bytes) ≡ number_from_digits 10 ds = ap (number_from_digits 256) (sym is) ∙ number-group_bytes ds below most in
    low_first (group_width (length ds) - 1) byte bytes long (omega (arith, held, number_lt 10 ds below, pow-low (length ds) some most))

first_of : (xs ys : List ℕ) → slice_index xs 0 < 128 → slice_index ys 0 < 128 → slice_index (xs ++ ys) 0 < 128
first_of [] ys a b = b
first_of (x ∷ xs) ys a b = a

pub low-grouped_bytes : (sizes ds : List ℕ) → AllBelowBase 10 sizes → AllBelowBase 10 ds → length ds ≡ digits_in sizes → slice_index (grouped_bytes sizes ds) 0 < 128
unfolding grouped_bytes
low-grouped_bytes [] ds most below long = omega arith
low-grouped_bytes (size ∷ sizes) ds most below long =
    let front : length (take size ds) ≡ size = length-take-le size ds (omega arith) in
    let back : length (drop size ds) ≡ digits_in sizes = omega (arith, length-drop size ds) in
    let both : AllBelowBase 10 (take size ds ++ drop size ds) = subst (AllBelowBase 10) (sym (take-append-drop size ds)) below in
    first_of (group_bytes (take size ds)) (grouped_bytes sizes (drop size ds))
    (low_group (take size ds) (group_bytes (take size ds)) refl (below-front 10 (take size ds) (drop size ds) both) (omega arith))
    (low-grouped_bytes sizes (drop size ds) most.1 (below-back 10 (take size ds) (drop size ds) both) back)

pub below-grouped_bytes : (sizes ds : List ℕ) → AllBelowBase 256 (grouped_bytes sizes ds)
unfolding grouped_bytes
below-grouped_bytes [] ds = tt
below-grouped_bytes (size ∷ sizes) ds = below-append 256 (group_bytes (take size ds)) (grouped_bytes sizes (drop size ds)) (below-group_bytes (take size ds)) (below-grouped_bytes sizes (drop size ds))

-- ---- the groups of whole decimals

nines : (n : ℕ) → AllBelowBase 10 (replicate n 9)
nines zero = tt
nines (suc n) = (omega arith, nines n)

pub digits_in-nines : (n : ℕ) → digits_in (replicate n 9) ≡ 9 * n
digits_in-nines zero = refl
digits_in-nines (suc n) = omega (arith, digits_in-nines n)

pub bytes_in-nines : (n : ℕ) → bytes_in (replicate n 9) ≡ 4 * n
bytes_in-nines zero = refl
bytes_in-nines (suc n) = omega (arith, bytes_in-nines n)

pub integer_groups-small : (n : ℕ) → AllBelowBase 10 (integer_groups n)
integer_groups-small n = (omega arith, nines (n / 9))

pub fraction_groups-small : (n : ℕ) → AllBelowBase 10 (fraction_groups n)
fraction_groups-small n = below-append 10 (replicate (n / 9) 9) ((n % 9) ∷ []) (nines (n / 9)) (omega arith, tt)

pub digits_in-integer : (n : ℕ) → digits_in (integer_groups n) ≡ n
digits_in-integer n = omega (arith, digits_in-nines (n / 9))

pub digits_in-fraction : (n : ℕ) → digits_in (fraction_groups n) ≡ n
digits_in-fraction n = omega (arith, digits_in-append (replicate (n / 9) 9) ((n % 9) ∷ []), digits_in-nines (n / 9))

pub bytes_in-integer : (n : ℕ) → bytes_in (integer_groups n) ≡ digits_size n
bytes_in-integer n = omega (arith, bytes_in-nines (n / 9))

pub bytes_in-fraction : (n : ℕ) → bytes_in (fraction_groups n) ≡ digits_size n
bytes_in-fraction n = omega (arith, bytes_in-append (replicate (n / 9) 9) ((n % 9) ∷ []), bytes_in-nines (n / 9))
