-- Packed forms are made group by group.
use Rattle.std.proofs.Common.{◌≡◌, ℕ, zero, suc, ◌+◌, ◌-◌, ◌/◌, ◌%◌, ◌<◌, List, [], ◌∷◌, ◌++◌, length, take, drop, replicate, refl, sym, ap, ◌∙◌, append-nil, append_assoc, arith}
use Rattle.std.specs.Prelude.{min}
use Rattle.std.proofs.lemmas.List.{length-take-le, length-drop, drop_all}
use Rattle.std.proofs.Math.Seq.{drop-append_seam}
use Rattle.std.proofs.lemmas.Iterator.{YieldsList}
use Rattle.std.proofs.lemmas.Iterator.Consumers.{YieldsList-from_first}
use Rattle.std.proofs.lemmas.Iterator.Search.{cmp_from_yields_List}
use Rattle.std.specs.Ordering.{nat_cmp}
use Rattle.std.specs.declared.cmp.Ordering.{Ordering}
use Rattle.std.specs.Iterator.{YieldsFirstBy, ComparesItemsByCmp}
use Rattle.std.specs.Cmp.Lexicographic.{slice_cmp}
use borrow.Rule.Slice.PartMut.{put_mid}
use Rattle.binlog_decimal.specs.declared.decimal.pack.PackedBytes.{PackedBytes}
use Rattle.binlog_decimal.specs.Workings.DecimalPacking.{packed_left}
use Rattle.binlog_decimal.specs.Decimals.{group_bytes, grouped_bytes, integer_groups, fraction_groups}

-- ---- the bytes of the first group, and of those after it

no_digits : (sizes ds : List ℕ) → grouped_bytes (0 ∷ sizes) ds ≡ grouped_bytes sizes ds
unfolding grouped_bytes
no_digits sizes ds = refl

first_group : (size : ℕ) (sizes ds : List ℕ) → grouped_bytes (size ∷ sizes) ds ≡ group_bytes (take size ds) ++ grouped_bytes sizes (drop size ds)
unfolding grouped_bytes
first_group size sizes ds = refl

nothing : (sizes : List ℕ) (ds : List ℕ) → sizes ≡ [] → grouped_bytes sizes ds ≡ []
unfolding grouped_bytes
nothing sizes ds is = ap (λ (s : List ℕ). grouped_bytes s ds) is

integer_by : (k size : ℕ) (ds : List ℕ) → length ds % 9 ≡ k → 0 < length ds → size ≡ (length ds - 1) % 9 + 1
    → grouped_bytes (integer_groups (length ds)) ds ≡ group_bytes (take size ds) ++ grouped_bytes (integer_groups (length (drop size ds))) (drop size ds)
integer_by zero size ds k some is =
    let rest = drop size ds in
    let size-is : size ≡ 9 = omega (arith, k, some, is) in
    let long : length rest ≡ length ds - 9 = length-drop size ds ∙ ap (λ (s : ℕ). length ds - s) size-is in
    let count : length ds / 9 ≡ suc (length rest / 9) = omega (arith, long, k, some) in
    let whole : length rest % 9 ≡ 0 = omega (arith, long, k, some) in
    ap (λ (r : ℕ). grouped_bytes (r ∷ replicate (length ds / 9) 9) ds) k ∙ no_digits (replicate (length ds / 9) 9) ds
    ∙ ap (λ (n : ℕ). grouped_bytes (replicate n 9) ds) count
    ∙ ap (λ (s : ℕ). grouped_bytes (s ∷ replicate (length rest / 9) 9) ds) (sym size-is)
    ∙ first_group size (replicate (length rest / 9) 9) ds
    ∙ ap (λ (l : List ℕ). group_bytes (take size ds) ++ l) (sym (ap (λ (r : ℕ). grouped_bytes (r ∷ replicate (length rest / 9) 9) rest) whole ∙ no_digits (replicate (length rest / 9) 9) rest))
integer_by (suc j) size ds k some is =
    let rest = drop size ds in
    let size-is : size ≡ length ds % 9 = omega (arith, k, some, is) in
    let long : length rest ≡ length ds - length ds % 9 = length-drop size ds ∙ ap (λ (s : ℕ). length ds - s) size-is in
    let count : length ds / 9 ≡ length rest / 9 = omega (arith, long) in
    let whole : length rest % 9 ≡ 0 = omega (arith, long) in
    ap (λ (s : ℕ). grouped_bytes (s ∷ replicate (length ds / 9) 9) ds) (sym size-is)
    ∙ ap (λ (n : ℕ). grouped_bytes (size ∷ replicate n 9) ds) count
    ∙ first_group size (replicate (length rest / 9) 9) ds
    ∙ ap (λ (l : List ℕ). group_bytes (take size ds) ++ l) (sym (ap (λ (r : ℕ). grouped_bytes (r ∷ replicate (length rest / 9) 9) rest) whole ∙ no_digits (replicate (length rest / 9) 9) rest))

no_integer : (ds : List ℕ) → length ds ≡ 0 → grouped_bytes (integer_groups (length ds)) ds ≡ []
no_integer [] none = no_digits [] [] ∙ nothing [] [] refl
no_integer (d ∷ ds) none = absurd (omega (arith, none))

no_fraction : (ds : List ℕ) → length ds ≡ 0 → grouped_bytes (fraction_groups (length ds)) ds ≡ []
no_fraction [] none = no_digits [] [] ∙ nothing [] [] refl
no_fraction (d ∷ ds) none = absurd (omega (arith, none))

fraction_by : (k size : ℕ) (ds : List ℕ) → length ds / 9 ≡ k → 0 < length ds → size ≡ min (length ds) 9
    → grouped_bytes (fraction_groups (length ds)) ds ≡ group_bytes (take size ds) ++ grouped_bytes (fraction_groups (length (drop size ds))) (drop size ds)
fraction_by zero size ds k some is =
    let rest = drop size ds in
    let size-is : size ≡ length ds % 9 = omega (arith, k, is) in
    let none : length rest ≡ 0 = length-drop size ds ∙ omega (arith, k, size-is) in
    ap (λ (n : ℕ). grouped_bytes (replicate n 9 ++ (length ds % 9) ∷ []) ds) k
    ∙ ap (λ (s : ℕ). grouped_bytes (s ∷ []) ds) (sym size-is)
    ∙ first_group size [] ds
    ∙ ap (λ (l : List ℕ). group_bytes (take size ds) ++ l) (nothing [] rest refl ∙ sym (no_fraction rest none))
fraction_by (suc j) size ds k some is =
    let rest = drop size ds in
    let size-is : size ≡ 9 = omega (arith, k, is) in
    let long : length rest ≡ length ds - 9 = length-drop size ds ∙ ap (λ (s : ℕ). length ds - s) size-is in
    let count : length rest / 9 ≡ j = omega (arith, long, k) in
    let short : length rest % 9 ≡ length ds % 9 = omega (arith, long, k) in
    ap (λ (n : ℕ). grouped_bytes (replicate n 9 ++ (length ds % 9) ∷ []) ds) k
    ∙ ap (λ (s : ℕ). grouped_bytes (s ∷ (replicate j 9 ++ (length ds % 9) ∷ [])) ds) (sym size-is)
    ∙ first_group size (replicate j 9 ++ (length ds % 9) ∷ []) ds
    ∙ ap (λ (n : ℕ). group_bytes (take size ds) ++ grouped_bytes (replicate n 9 ++ (length ds % 9) ∷ []) rest) (sym count)
    ∙ ap (λ (r : ℕ). group_bytes (take size ds) ++ grouped_bytes (replicate (length rest / 9) 9 ++ r ∷ []) rest) (sym short)

abbrev plain : List ℕ → List ℕ → List ℕ
plain integer fraction = grouped_bytes (integer_groups (length integer)) integer ++ grouped_bytes (fraction_groups (length fraction)) fraction

pub integer_step : (size : ℕ) (integer group rest fraction : List ℕ) → 0 < length integer → size ≡ (length integer - 1) % 9 + 1 → group ≡ take size integer → rest ≡ drop size integer
    → plain integer fraction ≡ group_bytes group ++ plain rest fraction
integer_step size integer group rest fraction some is front back =
    ap (λ (l : List ℕ). l ++ grouped_bytes (fraction_groups (length fraction)) fraction)
    (integer_by (length integer % 9) size integer refl some is
    ∙ ap (λ (l : List ℕ). group_bytes l ++ grouped_bytes (integer_groups (length (drop size integer))) (drop size integer)) (sym front)
    ∙ ap (λ (l : List ℕ). group_bytes group ++ grouped_bytes (integer_groups (length l)) l) (sym back))
    ∙ append_assoc (group_bytes group) (grouped_bytes (integer_groups (length rest)) rest) (grouped_bytes (fraction_groups (length fraction)) fraction)

pub fraction_step : (size : ℕ) (integer fraction group rest : List ℕ) → length integer ≡ 0 → 0 < length fraction → size ≡ min (length fraction) 9 → group ≡ take size fraction → rest ≡ drop size fraction
    → plain integer fraction ≡ group_bytes group ++ plain integer rest
fraction_step size integer fraction group rest none some is front back =
    let gone = no_integer integer none in
    ap (λ (l : List ℕ). l ++ grouped_bytes (fraction_groups (length fraction)) fraction) gone
    ∙ fraction_by (length fraction / 9) size fraction refl some is
    ∙ ap (λ (l : List ℕ). group_bytes l ++ grouped_bytes (fraction_groups (length (drop size fraction))) (drop size fraction)) (sym front)
    ∙ ap (λ (l : List ℕ). group_bytes group ++ grouped_bytes (fraction_groups (length l)) l) (sym back)
    ∙ ap (λ (l : List ℕ). group_bytes group ++ (l ++ grouped_bytes (fraction_groups (length rest)) rest)) (sym gone)

pub no_group : (integer fraction : List ℕ) → length integer ≡ 0 → length fraction ≡ 0 → plain integer fraction ≡ []
no_group integer fraction i f = rw (no_integer integer i, no_fraction fraction f) refl

-- the last bytes of four, after they were changed
pub put_last : (start k : ℕ) (xs ys : List ℕ) → start + k ≡ length xs → drop start (put_mid start k xs ys) ≡ ys
put_last start k xs ys is =
    let front : length (take start xs) ≡ start = length-take-le start xs (omega (arith, is)) in
    let none : drop k (drop start xs) ≡ [] = drop_all k (drop start xs) (omega (arith, is, length-drop start xs)) in
    ap (λ (n : ℕ). drop n (put_mid start k xs ys)) (sym front)
    ∙ drop-append_seam (take start xs) (ys ++ drop k (drop start xs))
    ∙ ap (λ (l : List ℕ). ys ++ l) none ∙ append-nil ys

-- ---- packed forms are compared byte by byte

pub packed_order : (mine theirs : PackedBytes) (xs ys : List ℕ) (r : Ordering)
    → ComparesItemsByCmp (YieldsFirstBy (λ (byte : ℕ). byte) packed_left) (λ (x it : PackedBytes). it ≡ x) (YieldsFirstBy (λ (byte : ℕ). byte) packed_left) mine theirs nat_cmp r
    → packed_left mine ≡ xs → packed_left theirs ≡ ys → r ≡ slice_cmp nat_cmp xs ys
packed_order mine theirs xs ys r h one other =
    let rest : (it : PackedBytes) → it ≡ theirs → YieldsList (YieldsFirstBy (λ (byte : ℕ). byte) packed_left) (λ (byte : ℕ). byte) it ys =
    λ it is. YieldsList-from_first (λ (byte : ℕ). byte) packed_left {s = it} ys (ap packed_left is ∙ other) in
    cmp_from_yields_List (λ (x it : PackedBytes). it ≡ x) theirs nat_cmp r h (YieldsList-from_first (λ (byte : ℕ). byte) packed_left {s = mine} xs one) rest (λ x y. refl)
