-- Where no two headers share a byte, there is at most one value for three bytes.
use Rattle.std.proofs.Common.{◌≡◌, ℕ, zero, suc, ◌+◌, ◌-◌, ◌*◌, ◌<◌, ◌≤◌, min, Bool, true, false, cond, ltb, leb, ◌&&◌, List, [], ◌∷◌, ◌++◌, length, Result, Ok, Err, refl, inl, inr, arith}
use Rattle.std.specs.Prelude.{⊤}
use Rattle.std.proofs.lemmas.Bool.{cases_lt}
use Rattle.binlog_base.specs.declared.fault.Fault.{Fault}
use Rattle.binlog_values.specs.JsonbLayout.{header_len}
use Rattle.binlog_values.specs.JsonbValues.{Frame, JsonbValue, scalar, nested, element_at}
use Rattle.binlog_values.specs.JsonbTrees.{entry_key}
use Rattle.binlog_values.specs.JsonbDocuments.{Document, entries, unfold_to, size_of, document_of, weight, weights}
use Rattle.binlog_values.specs.JsonbHeaders.{Span, offset_of, headers, headers_from, Covers, ApartFrom, AreDisjoint, IsWhole}
use Rattle.binlog_values.proofs.JsonbInside.{element_inside}

-- ---- spans within a length that share no byte are no longer than it

sum_below : (ℕ → ℕ) → ℕ → ℕ
sum_below f zero = 0
sum_below f (suc n) = sum_below f n + f n

abbrev on : Span → ℕ → ℕ
on s x = cond (leb s.start x && ltb x (s.start + s.len)) 1 0

abbrev total : List Span → ℕ → ℕ
total [] x = 0
total (s ∷ ss) x = on s x + total ss x

abbrev pub sum_len : List Span → ℕ
sum_len [] = 0
sum_len (s ∷ ss) = s.len + sum_len ss

abbrev pub Within : ℕ → List Span → Type 0
Within n [] = ⊤
Within n (s ∷ ss) = (s.start + s.len ≤ n) × Within n ss

on-inside : (s : Span) (x : ℕ) → s.start ≤ x → x < s.start + s.len → on s x ≡ 1
on-inside s x p q = grind arith

on-before : (s : Span) (x : ℕ) → x < s.start → on s x ≡ 0
on-before s x p = grind arith

on-after : (s : Span) (x : ℕ) → s.start + s.len ≤ x → on s x ≡ 0
on-after s x p = grind arith

sum_below-on : (s : Span) (n : ℕ) → sum_below (on s) n ≡ min n (s.start + s.len) - s.start
unfolding sum_below
sum_below-on s zero = omega arith
sum_below-on s (suc n) =
    elim (cases_lt n s.start) [
      | inl lt ↦ omega (arith, sum_below-on s n, on-before s n lt)
      | inr le ↦ elim (cases_lt n (s.start + s.len)) [
        | inl lt ↦ omega (arith, sum_below-on s n, on-inside s n le lt)
        | inr past ↦ omega (arith, sum_below-on s n, on-after s n past)
      ]
    ]

sum_below-add : (f g : ℕ → ℕ) (n : ℕ) → sum_below (λ x. f x + g x) n ≡ sum_below f n + sum_below g n
unfolding sum_below
sum_below-add f g zero = refl
sum_below-add f g (suc n) = omega (arith, sum_below-add f g n)

sum_below-zero : (n : ℕ) → sum_below (λ _. 0) n ≡ 0
unfolding sum_below
sum_below-zero zero = refl
sum_below-zero (suc n) = omega (arith, sum_below-zero n)

sum_below-one : (f : ℕ → ℕ) → ((x : ℕ) → f x ≤ 1) → (n : ℕ) → sum_below f n ≤ n
unfolding sum_below
sum_below-one f h zero = omega arith
sum_below-one f h (suc n) = omega (arith, sum_below-one f h n, h n)

sum_below-total : (n : ℕ) (ss : List Span) → Within n ss → sum_below (total ss) n ≡ sum_len ss
sum_below-total n [] w = sum_below-zero n
sum_below-total n (s ∷ ss) w = omega (arith, sum_below-add (on s) (total ss) n, sum_below-on s n, sum_below-total n ss w.1, w.0)

total-apart : (s : Span) (us : List Span) (x : ℕ) → ApartFrom s us → Covers s x → total us x ≡ 0
total-apart s [] x a h = refl
total-apart s (u ∷ us) x a h =
    let rest = total-apart s us x a.1 h in
    elim (cases_lt x u.start) [
      | inl lt ↦ omega (arith, rest, on-before u x lt)
      | inr le ↦ elim (cases_lt x (u.start + u.len)) [ inl lt ↦ absurd (a.0 x h (le, lt)) | inr past ↦ omega (arith, rest, on-after u x past) ]
    ]

total-disjoint : (ss : List Span) (x : ℕ) → AreDisjoint ss → total ss x ≤ 1
total-disjoint [] x h = omega arith
total-disjoint (s ∷ ss) x h =
    let rest = total-disjoint ss x h.1 in
    elim (cases_lt x s.start) [
      | inl lt ↦ omega (arith, rest, on-before s x lt)
      | inr le ↦ elim (cases_lt x (s.start + s.len)) [
        | inl lt ↦ omega (arith, total-apart s ss x h.0 (le, lt), on-inside s x le lt)
        | inr past ↦ omega (arith, rest, on-after s x past)
      ]
    ]

pub packed : (n : ℕ) (ss : List Span) → Within n ss → AreDisjoint ss → sum_len ss ≤ n
packed n ss w h = omega (arith, sum_below-total n ss w, sum_below-one (total ss) (λ x. total-disjoint ss x h) n)

-- ---- a header has three bytes and more for each entry

sum_len-append : (xs ys : List Span) → sum_len (xs ++ ys) ≡ sum_len xs + sum_len ys
sum_len-append [] ys = omega arith
sum_len-append (x ∷ xs) ys = omega (arith, sum_len-append xs ys)

header-long : (is_array is_large : Bool) (n : ℕ) → 3 * n ≤ header_len is_array is_large n
header-long true true n = omega arith
header-long true false n = omega arith
header-long false true n = omega arith
header-long false false n = omega arith

entries-heavy : (key : ℕ → Result (List ℕ) Fault) (child : ℕ → Document) (c : Frame) (at : ℕ) → ((at j : ℕ) → 3 * weight (child j) ≤ sum_len (headers at (child j))) → (n i : ℕ)
    → 3 * weights (entries key child n i) ≤ 3 * n + sum_len (headers_from c at i (entries key child n i))
entries-heavy key child c at h zero i = omega arith
entries-heavy key child c at h (suc n) i =
    omega (arith, entries-heavy key child c at h n (suc i), h (at + offset_of c i) i, sum_len-append (headers (at + offset_of c i) (child i)) (headers_from c at (suc i) (entries key child n (suc i))))

heavy : (fuel : ℕ) (r : Result JsonbValue Fault) (at : ℕ) → 3 * weight (unfold_to fuel r) ≤ sum_len (headers at (unfold_to fuel r))
unfolding unfold_to
heavy zero r at = omega arith
heavy (suc fuel) (Err f) at = omega arith
heavy (suc fuel) (Ok (scalar s)) at = omega arith
heavy (suc fuel) (Ok (nested c)) at =
    omega (arith, header-long c.is_array c.is_large c.count, entries-heavy (entry_key c) (λ j. unfold_to fuel (element_at c j)) c at (λ p j. heavy fuel (element_at c j) p) c.count 0)

-- ---- each container is in its parent

Within-append : (n : ℕ) (xs ys : List Span) → Within n xs → Within n ys → Within n (xs ++ ys)
Within-append n [] ys p q = q
Within-append n (x ∷ xs) ys p q = (p.0, Within-append n xs ys p.1 q)

spans-within : (n : ℕ) (key : ℕ → Result (List ℕ) Fault) (child : ℕ → Document) (c : Frame) (at : ℕ) → ((j : ℕ) → Within n (headers (at + offset_of c j) (child j))) → (k i : ℕ) → Within n (headers_from c at i (entries key child k i))
spans-within n key child c at h zero i = tt
spans-within n key child c at h (suc k) i = Within-append n (headers (at + offset_of c i) (child i)) _ (h i) (spans-within n key child c at h k (suc i))

-- what holds of each container at a level holds of the entries' documents
entry-within : (fuel n : ℕ) (c : Frame) (at j : ℕ) → ((d : Frame) (p : ℕ) → IsWhole d → p + length d.bytes ≤ n → Within n (headers p (unfold_to fuel (Ok (nested d))))) → at + length c.bytes ≤ n
    → (r : Result JsonbValue Fault) → element_at c j ≡ r → Within n (headers (at + offset_of c j) (unfold_to fuel r))
unfolding unfold_to
entry-within zero n c at j h room r e = tt
entry-within (suc fuel) n c at j h room (Err f) e = tt
entry-within (suc fuel) n c at j h room (Ok (scalar s)) e = tt
entry-within (suc fuel) n c at j h room (Ok (nested d)) e =
    let l = element_inside c j d e in
    h d (at + offset_of c j) l.whole (omega (arith, l.within))

fits : (fuel n : ℕ) (c : Frame) (at : ℕ) → IsWhole c → at + length c.bytes ≤ n → Within n (headers at (unfold_to fuel (Ok (nested c))))
unfolding unfold_to
fits zero n c at whole room = tt
fits (suc fuel) n c at whole room =
    (omega arith, spans-within n (entry_key c) (λ j. unfold_to fuel (element_at c j)) c at (λ j. entry-within fuel n c at j (λ d p w q. fits fuel n d p w q) room (element_at c j) refl) c.count 0)

pub three_bytes_each : (c : Frame) → IsWhole c → AreDisjoint (headers 0 (document_of (Ok (nested c)))) → 3 * weight (document_of (Ok (nested c))) ≤ length c.bytes
unfolding document_of
three_bytes_each c whole apart =
    let fuel = suc (size_of (Ok (nested c))) in
    omega (arith, heavy fuel (Ok (nested c)) 0, packed (length c.bytes) (headers 0 (unfold_to fuel (Ok (nested c)))) (fits fuel (length c.bytes) c 0 whole (omega arith)) apart)
