-- A container is shorter than the one that it is in, so the count of levels doesn't matter.
use Rattle.std.proofs.Common.{◌≡◌, ℕ, zero, suc, ◌≤◌, List, length, Result, Ok, Err, refl, ap, ap₂, arith}
use Rattle.binlog_base.specs.declared.fault.Fault.{Fault}
use Rattle.binlog_values.specs.JsonbValues.{Frame, JsonbValue, scalar, nested, element_at}
use Rattle.binlog_values.specs.JsonbDocuments.{Document, opened, entry, entries, layer, unfold_to, size_of, document_of}
use Rattle.binlog_values.proofs.JsonbInside.{element_inside}

shorter : (c : Frame) (i : ℕ) (r : Result JsonbValue Fault) → element_at c i ≡ r → size_of r ≤ length c.bytes
shorter c i (Err f) h = omega arith
shorter c i (Ok (scalar s)) h = omega arith
shorter c i (Ok (nested d)) h =
    let l = element_inside c i d h in
    omega (arith, l.later, l.within)

pub element_shorter : (c : Frame) (i : ℕ) → size_of (element_at c i) ≤ length c.bytes
element_shorter c i = shorter c i (element_at c i) refl

-- entries with equal documents are equal
entries_equal : (key : ℕ → Result (List ℕ) Fault) (f g : ℕ → Document) → ((i : ℕ) → f i ≡ g i) → (n i : ℕ) → entries key f n i ≡ entries key g n i
entries_equal key f g h zero i = refl
entries_equal key f g h (suc n) i = ap₂ (entry (key i)) (h i) (entries_equal key f g h n (suc i))

levels_enough : (m n : ℕ) (r : Result JsonbValue Fault) → size_of r ≤ m → size_of r ≤ n → unfold_to (suc m) r ≡ unfold_to (suc n) r
unfolding unfold_to
levels_enough m n (Err f) p q = refl
levels_enough m n (Ok (scalar s)) p q = refl
levels_enough zero n (Ok (nested c)) p q = absurd (omega arith)
levels_enough (suc m) zero (Ok (nested c)) p q = absurd (omega arith)
levels_enough (suc m) (suc n) (Ok (nested c)) p q =
    ap (opened c) (entries_equal _ _ _ (λ i. levels_enough m n (element_at c i) (omega (arith, element_shorter c i)) (omega (arith, element_shorter c i))) c.count 0)

pub document_is : (r : Result JsonbValue Fault) → document_of r ≡ layer document_of r
unfolding document_of unfold_to
document_is (Err f) = refl
document_is (Ok (scalar s)) = refl
document_is (Ok (nested c)) =
    ap (opened c) (entries_equal _ _ _ (λ i. levels_enough (length c.bytes) (size_of (element_at c i)) (element_at c i) (element_shorter c i) (omega arith)) c.count 0)
