-- The steps of the loops over digits and bytes of decimals.
use borrow.Rule.Slice.PartMut.{put_mid}
use Rattle.std.proofs.lemmas.Slice.{take-put_mid}
use Rattle.std.proofs.Common.{take-add, ◌≡◌, ℕ, zero, suc, ◌+◌, ◌-◌, ◌*◌, ◌/◌, ◌%◌, ◌^◌, ◌<◌, ◌≤◌, Bool, true, false, List, [], ◌∷◌, ◌++◌, length, get_or, take, drop, set, map, replicate, Result, Ok, Err, refl, sym, ap, subst, ◌∙◌, append_assoc, append-nil, arith}
use Rattle.std.specs.Prelude.{slice_index, ◌==◌}
use Rattle.std.specs.Int.{bytes_high_first}
use Rattle.std.specs.List.{list_all}
use Rattle.std.specs.Int.Digits.{AllBelowBase, number_from_digits}
use Rattle.byteorder.specs.Endian.{big_bytes}
use Rattle.std.proofs.Math.Dec.{eqb-suc-zero}
use Rattle.std.proofs.Math.Nat.{pow-le-pow_right}
use Rattle.std.proofs.lemmas.Int.Digits.{number_more, number_lt}
use Rattle.std.proofs.lemmas.List.{drop-set, length-set, length-take-le, length-drop, take_all, take-append-drop, drop_all, drop_more, take_more, set_at, get_or_at, map-append, length-map}
use Rattle.binlog_base.specs.declared.fault.Fault.{Fault}
use Rattle.binlog_decimal.specs.Decimals.{group_width, group_bytes, integer_groups, without_zero_groups}
use Rattle.binlog_decimal.specs.DecimalGroups.{low_digits, IsCut, bytes_in, digits_in}
use Rattle.binlog_decimal.specs.Lemmas.DecimalGroups.{below-front, below-back, length-low_digits, below-low_digits, number-low_digits, bytes-low_digits, same_digits, number-group_bytes, cut-group, group-cut, cut-append, cut-parts, cut-length, bytes_in-nines}
use Rattle.binlog_decimal.specs.DecimalReads.{Unpacks}

-- ---- numbers of digits

pub below-take : (base i : ℕ) (ds : List ℕ) → AllBelowBase base ds → AllBelowBase base (take i ds)
below-take base i ds h = below-front base (take i ds) (drop i ds) (subst (AllBelowBase base) (sym (take-append-drop i ds)) h)

pub below-drop : (base i : ℕ) (ds : List ℕ) → AllBelowBase base ds → AllBelowBase base (drop i ds)
below-drop base i ds h = below-back base (take i ds) (drop i ds) (subst (AllBelowBase base) (sym (take-append-drop i ds)) h)

-- bytes are below 256
pub below-bytes : (xs : List ℕ) → ((k : ℕ) → slice_index xs k < 256) → AllBelowBase 256 xs
below-bytes [] h = tt
below-bytes (x ∷ xs) h = (h 0, below-bytes xs (λ k. h (suc k)))

next_below : (i : ℕ) (ds : List ℕ) → i < length ds → AllBelowBase 10 ds → length ds ≤ 9 → number_from_digits 10 (take i ds) * 10 + get_or ds i 0 < 2 ^ 32
next_below i ds within below few =
    let more = number_more 10 ds i within in
    let low = number_lt 10 (take (i + 1) ds) (below-take 10 (i + 1) ds below) in
    let long : length (take (i + 1) ds) ≤ 9 = omega (arith, few, length-take-le (i + 1) ds (omega arith)) in
    let power : 10 ^ length (take (i + 1) ds) ≤ 10 ^ 9 = pow-le-pow_right (omega arith) long in
    omega (arith, more, low, power)

-- with one more digit, the number still has 32 bits
pub number-step : (i n : ℕ) (ds : List ℕ) → n ≡ number_from_digits 10 (take i ds) → i < length ds → AllBelowBase 10 ds → length ds ≤ 9 → n * 10 + get_or ds i 0 < 2 ^ 32
number-step i n ds is within below few = subst (λ (m : ℕ). m * 10 + get_or ds i 0 < 2 ^ 32) (sym is) (next_below i ds within below few)

-- two digits that are written at once
pair-low : (left : ℕ) → left % 10 ≡ left % 100 % 10
pair-low left = omega arith

pair-high : (left : ℕ) → left / 10 % 10 ≡ left % 100 / 10
pair-high left = omega arith

pair-rest : (left : ℕ) → left / 10 / 10 ≡ left / 100
pair-rest left = omega arith

low_digits-pair : (k left : ℕ) → low_digits 10 (suc (suc k)) left ≡ low_digits 10 k (left / 100) ++ (left % 100 / 10) ∷ (left % 100 % 10) ∷ []
low_digits-pair k left =
    let front = low_digits 10 k (left / 100) in
    let high = left % 100 / 10 in
    ap (λ (n : ℕ). low_digits 10 k n ++ (left / 10 % 10) ∷ [] ++ (left % 10) ∷ []) (pair-rest left)
    ∙ ap (λ (n : ℕ). front ++ n ∷ [] ++ (left % 10) ∷ []) (pair-high left)
    ∙ ap (λ (n : ℕ). front ++ high ∷ [] ++ n ∷ []) (pair-low left)
    ∙ append_assoc front (high ∷ []) ((left % 100 % 10) ∷ [])

pub pair-written : (k left : ℕ) (ds : List ℕ) → k + 2 ≤ length ds → low_digits 10 (k + 2) left ++ drop (k + 2) ds ≡ low_digits 10 k (left / 100) ++ drop k (set (set ds (k + 1) (left % 100 % 10)) k (left % 100 / 10))
pair-written k left ds room =
    let high = left % 100 / 10 in
    let low = left % 100 % 10 in
    let front = low_digits 10 k (left / 100) in
    let one = set ds (k + 1) low in
    let count : k + 2 ≡ suc (suc k) = omega arith in
    let next : k + 1 + 1 ≡ k + 2 = omega arith in
    let two : drop k (set one k high) ≡ high ∷ drop (k + 1) one = drop-set one k high (omega (arith, room, length-set ds (k + 1) low)) in
    let last : drop (k + 1) one ≡ low ∷ drop (k + 2) ds = drop-set ds (k + 1) low (omega (arith, room)) ∙ ap (λ (n : ℕ). low ∷ drop n ds) next in
    ap (λ (n : ℕ). low_digits 10 n left ++ drop (k + 2) ds) count
    ∙ ap (λ (l : List ℕ). l ++ drop (k + 2) ds) (low_digits-pair k left)
    ∙ append_assoc front (high ∷ low ∷ []) (drop (k + 2) ds)
    ∙ sym (ap (λ (l : List ℕ). front ++ l) (two ∙ ap (λ (l : List ℕ). high ∷ l) last))

-- ---- bytes that are mapped in place

-- item i is replaced by that of a mapped list; `zs` is what the list was before
pub placed-more : (f : ℕ → ℕ) (xs zs ys : List ℕ) (i : ℕ) → i < length xs → length zs ≡ length xs → ys ≡ map f (take i xs) ++ drop i zs → set ys i (f (get_or xs i 0)) ≡ map f (take (i + 1) xs) ++ drop (i + 1) zs
placed-more f xs zs ys i within same is =
    let x = get_or xs i 0 in
    let z = get_or zs i 0 in
    let front : length (map f (take i xs)) ≡ i = length-map (take i xs) f ∙ length-take-le i xs (omega arith) in
    let split : ys ≡ map f (take i xs) ++ z ∷ drop (i + 1) zs = is ∙ ap (λ (l : List ℕ). map f (take i xs) ++ l) (drop_more zs i 0 (omega (arith, same, within))) in
    let written : set ys i (f x) ≡ map f (take i xs) ++ f x ∷ drop (i + 1) zs =
    ap (λ (l : List ℕ). set l i (f x)) split ∙ set_at (map f (take i xs)) z (drop (i + 1) zs) (f x) i front in
    let taken : map f (take (i + 1) xs) ≡ map f (take i xs) ++ f x ∷ [] = ap (map f) (take_more xs i 0 within) ∙ map-append f (take i xs) (x ∷ []) in
    written ∙ sym (ap (λ (l : List ℕ). l ++ drop (i + 1) zs) taken ∙ append_assoc (map f (take i xs)) (f x ∷ []) (drop (i + 1) zs))

pub placed-all : (f : ℕ → ℕ) (xs zs ys : List ℕ) (i : ℕ) → length xs ≤ i → length zs ≡ length xs → ys ≡ map f (take i xs) ++ drop i zs → ys ≡ map f xs
placed-all f xs zs ys i all same is =
    is ∙ ap (λ (l : List ℕ). map f l ++ drop i zs) (take_all i xs all) ∙ ap (λ (l : List ℕ). map f xs ++ l) (drop_all i zs (omega (arith, same, all))) ∙ append-nil (map f xs)

pub mapped-more : (f : ℕ → ℕ) (xs ys : List ℕ) (i : ℕ) → i < length xs → ys ≡ map f (take i xs) ++ drop i xs → set ys i (f (get_or ys i 0)) ≡ map f (take (i + 1) xs) ++ drop (i + 1) xs
mapped-more f xs ys i within is =
    let x = get_or xs i 0 in
    let front : length (map f (take i xs)) ≡ i = length-map (take i xs) f ∙ length-take-le i xs (omega arith) in
    let split : ys ≡ map f (take i xs) ++ x ∷ drop (i + 1) xs = is ∙ ap (λ (l : List ℕ). map f (take i xs) ++ l) (drop_more xs i 0 within) in
    let here : get_or ys i 0 ≡ x = ap (λ (l : List ℕ). get_or l i 0) split ∙ get_or_at (map f (take i xs)) x (drop (i + 1) xs) 0 i front in
    ap (λ (y : ℕ). set ys i (f y)) here ∙ placed-more f xs xs ys i within refl is

pub mapped-all : (f : ℕ → ℕ) (xs ys : List ℕ) (i : ℕ) → length xs ≤ i → ys ≡ map f (take i xs) ++ drop i xs → ys ≡ map f xs
mapped-all f xs ys i all is = placed-all f xs xs ys i all refl is

-- ---- groups that are all zeros

abbrev all_zeros : List ℕ → Bool
all_zeros ds = list_all (λ d. d == 0) ds

pub zeros_stop : (size : ℕ) (sizes ds : List ℕ) → all_zeros (take size ds) ≡ false → without_zero_groups (size ∷ sizes) ds ≡ ds
unfolding without_zero_groups
zeros_stop size sizes ds h = rw h refl

pub zeros_more : (size : ℕ) (sizes ds : List ℕ) → all_zeros (take size ds) ≡ true → without_zero_groups (size ∷ sizes) ds ≡ without_zero_groups sizes (drop size ds)
unfolding without_zero_groups
zeros_more size sizes ds h = rw h refl

pub zeros_end : (ds : List ℕ) → without_zero_groups [] ds ≡ ds
unfolding without_zero_groups
zeros_end ds = refl

-- full groups of nine digits: the first, and those after it
pub nines-of : (xs rest : List ℕ) → 9 ≤ length xs → rest ≡ drop 9 xs → replicate {A = ℕ} (length xs / 9) 9 ≡ 9 ∷ replicate {A = ℕ} (length rest / 9) 9
nines-of xs rest some is =
    let long : length rest ≡ length xs - 9 = ap length is ∙ length-drop 9 xs in
    let count : length xs / 9 ≡ suc (length rest / 9) = omega arith in
    ap (λ (n : ℕ). replicate {A = ℕ} n 9) count

pub trim-stop : (ds front : List ℕ) (r : Bool) → front ≡ take (length ds % 9) ds → r ≡ all_zeros front → r ≡ false → ds ≡ without_zero_groups (integer_groups (length ds)) ds
trim-stop ds front r is zeros other = sym (zeros_stop (length ds % 9) (replicate (length ds / 9) 9) ds (sym (zeros ∙ ap all_zeros is) ∙ other))

pub trim-start : (ds front left : List ℕ) (r : Bool) → front ≡ take (length ds % 9) ds → left ≡ drop (length ds % 9) ds → r ≡ all_zeros front → r ≡ true → (9 * (length left / 9) ≡ length left) × (without_zero_groups (replicate (length left / 9) 9) left ≡ without_zero_groups (integer_groups (length ds)) ds)
trim-start ds front left r is rest zeros same =
    let long : length left ≡ length ds - length ds % 9 = ap length rest ∙ length-drop (length ds % 9) ds in
    let count : length left / 9 ≡ length ds / 9 = omega arith in
    (omega arith, ap (λ (n : ℕ). without_zero_groups (replicate n 9) left) count ∙ ap (without_zero_groups (replicate (length ds / 9) 9)) rest ∙ sym (zeros_more (length ds % 9) (replicate (length ds / 9) 9) ds (sym (zeros ∙ ap all_zeros is) ∙ same)))

pub trim-here : (left front : List ℕ) (r : Bool) → 9 ≤ length left → front ≡ take 9 left → r ≡ all_zeros front → r ≡ false → without_zero_groups (replicate (length left / 9) 9) left ≡ left
trim-here left front r some is zeros other =
    ap (λ (sizes : List ℕ). without_zero_groups sizes left) (nines-of left (drop 9 left) some refl) ∙ zeros_stop 9 (replicate (length (drop 9 left) / 9) 9) left (sym (zeros ∙ ap all_zeros is) ∙ other)

pub trim-step : (left front rest : List ℕ) (r : Bool) → 9 ≤ length left → 9 * (length left / 9) ≡ length left → front ≡ take 9 left → rest ≡ drop 9 left → r ≡ all_zeros front → r ≡ true → (9 * (length rest / 9) ≡ length rest) × (without_zero_groups (replicate (length rest / 9) 9) rest ≡ without_zero_groups (replicate (length left / 9) 9) left)
trim-step left front rest r some whole is after zeros same =
    let long : length rest ≡ length left - 9 = ap length after ∙ length-drop 9 left in
    (omega arith, ap (without_zero_groups (replicate (length rest / 9) 9)) after ∙ sym (ap (λ (sizes : List ℕ). without_zero_groups sizes left) (nines-of left rest some after) ∙ zeros_more 9 (replicate (length rest / 9) 9) left (sym (zeros ∙ ap all_zeros is) ∙ same)))

pub trim-end : (left : List ℕ) → 9 * (length left / 9) ≡ length left → length left < 9 → without_zero_groups (replicate (length left / 9) 9) left ≡ left
trim-end left whole low =
    let none : length left / 9 ≡ 0 = omega arith in
    ap (λ (n : ℕ). without_zero_groups (replicate n 9) left) none ∙ zeros_end left

-- ---- groups that are written

pub last_bytes : (w n : ℕ) → w ≤ 4 → take w (drop (4 - w) (bytes_high_first 4 n)) ≡ bytes_high_first w n
last_bytes zero n h = refl
last_bytes (suc zero) n h = refl
last_bytes (suc (suc zero)) n h = refl
last_bytes (suc (suc (suc zero))) n h = refl
last_bytes (suc (suc (suc (suc zero)))) n h = refl
last_bytes (suc (suc (suc (suc (suc w))))) n h = absurd (omega arith)

-- ---- groups that are read

-- the digits of a group's number are packed in the group's bytes
pub group_bytes-low_digits : (size : ℕ) (bytes : List ℕ) → AllBelowBase 256 bytes → length bytes ≡ group_width size → number_from_digits 256 bytes < 10 ^ size → group_bytes (low_digits 10 size (number_from_digits 256 bytes)) ≡ bytes
group_bytes-low_digits size bytes below long low =
    let n = number_from_digits 256 bytes in
    let w = group_width size in
    let count : length (low_digits 10 size n) ≡ size = length-low_digits 10 size n in
    let held : number_from_digits 10 (low_digits 10 size n) ≡ n = number-low_digits 10 size n (omega arith) low in
    let fits : n < 256 ^ w = subst (λ (k : ℕ). n < 256 ^ k) long (number_lt 256 bytes below) in
    ap (λ (k : ℕ). big_bytes (group_width k) (number_from_digits 10 (low_digits 10 size n))) count ∙ ap (big_bytes w) held ∙ bytes-low_digits w n
    ∙ same_digits 256 (low_digits 256 w n) bytes (length-low_digits 256 w n ∙ sym long) (below-low_digits 256 w n (omega arith)) below (number-low_digits 256 w n (omega arith) fits)

pub group-unpacked : {X : Type 0} (x : X) (bytes digits : List ℕ) (n : ℕ) → AllBelowBase 256 bytes → length bytes ≡ group_width n → number_from_digits 256 bytes < 10 ^ n → digits ≡ low_digits 10 n (number_from_digits 256 bytes) → Unpacks (Ok x) (n ∷ []) bytes digits
group-unpacked x bytes digits n below long low is =
    subst (IsCut (n ∷ []) bytes) (sym is)
    (cut-group n bytes (low_digits 10 n (number_from_digits 256 bytes)) (below-low_digits 10 n (number_from_digits 256 bytes) (omega arith)) (length-low_digits 10 n (number_from_digits 256 bytes)) (group_bytes-low_digits n bytes below long low))

pub group-refused : (size : ℕ) (bytes : List ℕ) → size ≤ 9 → 10 ^ size ≤ number_from_digits 256 bytes → (digits : List ℕ) → IsCut (size ∷ []) bytes digits → ⊥
group-refused size bytes most high digits h =
    let held : number_from_digits 256 bytes ≡ number_from_digits 10 digits = ap (number_from_digits 256) (sym (group-cut size bytes digits h)) ∙ number-group_bytes digits h.below (omega (arith, h.count)) in
    let long : length digits ≡ size = omega (arith, h.count) in
    let low : number_from_digits 10 digits < 10 ^ size = subst (λ (k : ℕ). number_from_digits 10 digits < 10 ^ k) long (number_lt 10 digits h.below) in
    omega (arith, held, low, high)

-- reading two lists of groups, one after the other
pub unpacks-then : {Y : Type 0} (a b x y ds es : List ℕ) (r : Result Y Fault) → IsCut a x ds → Unpacks r b y es → Unpacks r (a ++ b) (x ++ y) (ds ++ es)
unpacks-then a b x y ds es (Ok v) h k = cut-append a b x y ds es h k
unpacks-then a b x y ds es (Err e) h k = (k.0, λ others c. k.1 (drop (digits_in a) others) (cut-parts a b x y others (cut-length a x ds h) c).1)

pub unpacks-stop : (X Y : Type 0) (a b x y ds es : List ℕ) (e : Fault) → length x ≡ bytes_in a → Unpacks {X = X} (Err e) a x ds → Unpacks {X = Y} (Err e) (a ++ b) (x ++ y) es
unpacks-stop X Y a b x y ds es e long h = (h.0, λ others c. h.1 (take (digits_in a) others) (cut-parts a b x y others long c).0)

-- ---- full groups of nine digits, one after the other

nines_more : (k : ℕ) → replicate {A = ℕ} k 9 ++ 9 ∷ [] ≡ replicate {A = ℕ} (k + 1) 9
nines_more zero = refl
nines_more (suc k) =
    let next : suc (k + 1) ≡ suc k + 1 = omega arith in
    ap (λ (l : List ℕ). 9 ∷ l) (nines_more k) ∙ ap (λ (n : ℕ). replicate {A = ℕ} n 9) next

nines_split : (n k : ℕ) → k < n → replicate {A = ℕ} n 9 ≡ replicate {A = ℕ} k 9 ++ (9 ∷ [] ++ replicate {A = ℕ} (n - k - 1) 9)
nines_split zero k lt = absurd (omega (arith, lt))
nines_split (suc n) zero lt = ap (λ (m : ℕ). 9 ∷ replicate {A = ℕ} m 9) (omega arith)
nines_split (suc n) (suc k) lt = ap (λ (l : List ℕ). 9 ∷ l) (nines_split n k (omega (arith, lt)) ∙ ap (λ (m : ℕ). replicate {A = ℕ} k 9 ++ (9 ∷ replicate {A = ℕ} m 9)) (omega arith))

-- the group at k follows those before it
bytes_more : (k : ℕ) (xs : List ℕ) → 4 * k + 4 ≤ length xs → take (4 * k) xs ++ take 4 (drop (4 * k) xs) ≡ take (4 * (k + 1)) xs
bytes_more k xs le =
    let next : 4 * (k + 1) ≡ 4 * k + 4 = omega arith in
    sym (ap (λ (n : ℕ). take n xs) next ∙ take-add (4 * k) 4 xs)

bytes_split : (k : ℕ) (xs : List ℕ) → xs ≡ take (4 * k) xs ++ (take 4 (drop (4 * k) xs) ++ drop 4 (drop (4 * k) xs))
bytes_split k xs = sym (ap (λ (l : List ℕ). take (4 * k) xs ++ l) (take-append-drop 4 (drop (4 * k) xs)) ∙ take-append-drop (4 * k) xs)

pub nines-next : (k n m : ℕ) (bytes group old digits new : List ℕ) → 4 * k + 4 ≤ length bytes → 9 * k + 9 ≤ length old → n ≡ 9 → group ≡ take 4 (drop (4 * k) bytes) → new ≡ put_mid (9 * k) m old digits
    → IsCut (replicate k 9) (take (4 * k) bytes) (take (9 * k) old) → IsCut (n ∷ []) group digits → IsCut (replicate (k + 1) 9) (take (4 * (k + 1)) bytes) (take (9 * (k + 1)) new)
nines-next k n m bytes group old digits new room space nine is put h g =
    let next : take (9 * (k + 1)) new ≡ take (9 * k) old ++ digits = ap (take (9 * (k + 1))) put ∙ take-put_mid (9 * k) m old digits (9 * (k + 1)) (omega (arith, g.count, nine)) (omega (arith, space)) in
    let all : IsCut (replicate k 9 ++ n ∷ []) (take (4 * k) bytes ++ group) (take (9 * k) old ++ digits) = cut-append (replicate k 9) (n ∷ []) (take (4 * k) bytes) group (take (9 * k) old) digits h g in
    let sizes : replicate {A = ℕ} k 9 ++ n ∷ [] ≡ replicate {A = ℕ} (k + 1) 9 = ap (λ (size : ℕ). replicate {A = ℕ} k 9 ++ size ∷ []) nine ∙ nines_more k in
    let sized : IsCut (replicate (k + 1) 9) (take (4 * k) bytes ++ group) (take (9 * k) old ++ digits) = subst (λ (s : List ℕ). IsCut s (take (4 * k) bytes ++ group) (take (9 * k) old ++ digits)) sizes all in
    let whole : IsCut (replicate (k + 1) 9) (take (4 * (k + 1)) bytes) (take (9 * k) old ++ digits) = subst (λ (x : List ℕ). IsCut (replicate (k + 1) 9) x (take (9 * k) old ++ digits)) (ap (λ (l : List ℕ). take (4 * k) bytes ++ l) is ∙ bytes_more k bytes room) sized in
    subst (IsCut (replicate (k + 1) 9) (take (4 * (k + 1)) bytes)) (sym next) whole

pub nines-stop : (X Y : Type 0) (k n : ℕ) (bytes group digits new : List ℕ) (e : Fault) → 4 * (length bytes / 4) ≡ length bytes → 4 * k + 4 ≤ length bytes → n ≡ 9 → group ≡ take 4 (drop (4 * k) bytes)
    → Unpacks {X = X} (Err e) (n ∷ []) group digits → Unpacks {X = Y} (Err e) (replicate (length bytes / 4) 9) bytes new
nines-stop X Y k n bytes group digits new e whole room nine is h =
    let count = length bytes / 4 in
    let front : length (take (4 * k) bytes) ≡ bytes_in (replicate k 9) = omega (arith, length-take-le (4 * k) bytes (omega (arith, room)), bytes_in-nines k) in
    let width : length group ≡ bytes_in (9 ∷ []) = ap length is ∙ length-take-le 4 (drop (4 * k) bytes) (omega (arith, room, length-drop (4 * k) bytes)) in
    let rest = drop 4 (drop (4 * k) bytes) in
    let later = replicate {A = ℕ} (count - k - 1) 9 in
    let all : take (4 * k) bytes ++ (group ++ rest) ≡ bytes = ap (λ (l : List ℕ). take (4 * k) bytes ++ (l ++ rest)) is ∙ sym (bytes_split k bytes) in
    let sizes : replicate {A = ℕ} count 9 ≡ replicate {A = ℕ} k 9 ++ (9 ∷ [] ++ later) = nines_split count k (omega (arith, whole, room)) in (
      h.0,
      λ others c.
          let cut : IsCut (replicate {A = ℕ} k 9 ++ (9 ∷ [] ++ later)) (take (4 * k) bytes ++ (group ++ rest)) others = subst (λ (s : List ℕ). IsCut s (take (4 * k) bytes ++ (group ++ rest)) others) sizes (subst (λ (x : List ℕ). IsCut (replicate count 9) x others) (sym all) c) in
          let second = (cut-parts (replicate k 9) (9 ∷ [] ++ later) (take (4 * k) bytes) (group ++ rest) others front cut).1 in
          let tail = drop (digits_in (replicate k 9)) others in
          let found : IsCut (9 ∷ []) group (take (digits_in (9 ∷ [])) tail) = (cut-parts (9 ∷ []) later group rest tail width second).0 in
          h.1 (take (digits_in (9 ∷ [])) tail) (subst (λ (size : ℕ). IsCut (size ∷ []) group (take (digits_in (9 ∷ [])) tail)) (sym nine) found),
    )

-- if the test for an empty slice is false, the length is above 0
pub some_left : (n : ℕ) → false ≡ (n == 0) → 0 < n
some_left zero h = absurd cc
some_left (suc n) h = omega arith

pub none_left : (n : ℕ) → true ≡ (n == 0) → n ≡ 0
none_left zero h = refl
none_left (suc n) h = let other = eqb-suc-zero n in absurd cc

-- the last bytes of a big-endian number of four bytes are those of a group
pub group-slice : (w n : ℕ) (ds bytes : List ℕ) → bytes ≡ bytes_high_first 4 n → w ≡ group_width (length ds) → n ≡ number_from_digits 10 ds → take (4 - (4 - w)) (drop (4 - w) bytes) ≡ group_bytes ds
group-slice w n ds bytes is width value =
    let count : 4 - (4 - w) ≡ w = omega arith in
    ap (λ (k : ℕ). take k (drop (4 - w) bytes)) count ∙ ap (λ (l : List ℕ). take w (drop (4 - w) l)) is ∙ last_bytes w n (omega arith)
    ∙ ap (λ (k : ℕ). bytes_high_first k n) width ∙ ap (bytes_high_first (group_width (length ds))) value
