-- Reading gives the tree that a value denotes, and each such tree within the limits.
use Rattle.std.proofs.Common.{◌≡◌, ℕ, zero, suc, ◌+◌, ◌-◌, ◌<◌, ◌≤◌, Bool, true, false, cond, ltb, List, Result, Ok, Err, refl, ap, subst, ◌∙◌, add-zero, arith}
use Rattle.binlog_base.specs.declared.fault.Fault.{Fault}
use Rattle.binlog_base.specs.declared.fault.Fault.TheVariants.{TooManyValues}
use Rattle.binlog_values.specs.JsonbValues.{JsonbValue, scalar, nested, Frame, element_at}
use Rattle.binlog_values.specs.JsonbTrees.{tree_scalar, entry_key, Tree, leaf, node, Branches, no_branches, branch, Denotes, DenoteFrom}
use Rattle.binlog_values.specs.JsonbDocuments.{Document, faulty, single, opened, entries_from, entries_of, document_of, weight, weights, depth, depths, found}
use Rattle.binlog_values.specs.Workings.JsonbVisits.{numbered, ◌>>-◌, visit, visits}
use Rattle.binlog_values.proofs.JsonbUnfolding.{document_is}
use Rattle.binlog_values.proofs.JsonbWalk.{found_within}
use Rattle.binlog_values.proofs.JsonbFirstFault.{bound_ok, same_value, same_number, numbered_ok}

-- ---- each tree is given

denotes-value : (t : Tree) (r : Result JsonbValue Fault) → Denotes t r → (v : JsonbValue) × (r ≡ Ok v)
denotes-value (leaf p) r h = (scalar h.0, h.1)
denotes-value (node a bs) r h = (nested h.0, h.1)

mutual
  pub tree-given : (t : Tree) (r : Result JsonbValue Fault) (limit levels n : ℕ) → Denotes t r → depth (document_of r) ≤ levels → n + weight (document_of r) ≤ limit
      → visit limit levels n (document_of r) ≡ Ok (t, n + weight (document_of r))
  tree-given (leaf p) r limit levels n h deep room = rw (h.1, document_is (Ok (scalar h.0)), h.2, add-zero) refl
  tree-given (node a bs) r limit levels n h deep room =
      let d : document_of r ≡ opened h.0 (entries_of h.0) = ap document_of h.1 ∙ document_is (Ok (nested h.0)) in
      let deep' : depth (opened h.0 (entries_of h.0)) ≤ levels = rw d at deep in
      let room' : n + weight (opened h.0 (entries_of h.0)) ≤ limit = rw d at room in
      let one : levels ≡ suc (levels - 1) = omega arith in
      let inner : visits limit (levels - 1) n (entries_of h.0) ≡ Ok (bs, n + weights (entries_of h.0)) = branches-given bs h.0 0 h.0.count limit (levels - 1) n h.3 (omega arith) (omega arith) room' in
      rw (d, one, inner) (ap (λ (b : Bool). Ok (node b bs, n + weights (entries_of h.0))) h.2)

  pub branches-given : (bs : Branches) (c : Frame) (i k limit levels n : ℕ) → DenoteFrom bs c i → i + k ≡ c.count → depths (entries_from c i k) ≤ levels → n + weights (entries_from c i k) ≤ limit
      → visits limit levels n (entries_from c i k) ≡ Ok (bs, n + weights (entries_from c i k))
  branches-given no_branches c i zero limit levels n h all deep room = rw add-zero refl
  branches-given no_branches c i (suc k) limit levels n h all deep room = absurd (omega arith)
  branches-given (branch key t bs) c i zero limit levels n h all deep room = absurd (omega arith)
  branches-given (branch key t bs) c i (suc k) limit levels n h all deep room =
      let v = denotes-value t (element_at c i) h.2 in
      let here : found limit (suc n) (entry_key c i) (document_of (element_at c i)) ≡ Ok key = found_within limit (suc n) (entry_key c i) (element_at c i) key v.0 h.1 v.1 (omega arith) in
      let first : visit limit levels (suc n) (document_of (element_at c i)) ≡ Ok (t, suc n + weight (document_of (element_at c i))) = tree-given t (element_at c i) limit levels (suc n) h.2 (omega arith) (omega arith) in
      let others : visits limit levels (suc n + weight (document_of (element_at c i))) (entries_from c (suc i) k) ≡ Ok (bs, suc n + weight (document_of (element_at c i)) + weights (entries_from c (suc i) k)) =
      branches-given bs c (suc i) k limit levels (suc n + weight (document_of (element_at c i))) h.3 (omega arith) (omega arith) (omega arith) in
      rw (here, first, others) (ap (λ (m : ℕ). Ok (branch key t bs, m)) (omega arith))

-- ---- what is given is the tree

guarded-ok : {A : Type 0} (b : Bool) (f : Fault) (r : Result A Fault) (x : A) → cond b (Err f) r ≡ Ok x → r ≡ Ok x
guarded-ok true f r x e = absurd cc
guarded-ok false f r x e = e

found-key : (limit n : ℕ) (key : Result (List ℕ) Fault) (d : Document) (k : List ℕ) → found limit n key d ≡ Ok k → key ≡ Ok k
found-key limit n (Err f) d k e = absurd cc
found-key limit n (Ok x) (faulty f) k e = absurd cc
found-key limit n (Ok x) (single s) k e = guarded-ok (ltb limit n) TooManyValues (Ok x) k e
found-key limit n (Ok x) (opened c es) k e = guarded-ok (ltb limit n) TooManyValues (Ok x) k e

-- what a walk below levels gives
Given : ℕ → Type 0
Given levels = (limit n : ℕ) (r : Result JsonbValue Fault) (t : Tree) (m : ℕ) → visit limit levels n (document_of r) ≡ Ok (t, m) → Denotes t r × (depth (document_of r) ≤ levels)

branches-found : (levels : ℕ) → Given levels → (k i limit n : ℕ) (c : Frame) (bs : Branches) (m : ℕ) → i + k ≡ c.count → visits limit levels n (entries_from c i k) ≡ Ok (bs, m)
    → DenoteFrom bs c i × (depths (entries_from c i k) ≤ levels)
unfolding Given
branches-found levels given zero i limit n c bs m all e =
    let none : c.count ≡ i = omega arith in
    (subst (λ (x : Branches). DenoteFrom x c i) (same_number no_branches bs n m e).0 none, omega arith)
branches-found levels given (suc k) i limit n c bs m all e =
    let d = document_of (element_at c i) in
    let es = entries_from c (suc i) k in
    let a = bound_ok (numbered (suc n) (found limit (suc n) (entry_key c i) d)) (λ x. visit limit levels (suc n) d >>- λ t. visits limit levels t.1 es >>- λ cs. Ok (branch x.0 t.0 cs.0, cs.1)) (bs, m) e in
    let b = bound_ok (visit limit levels (suc n) d) (λ t. visits limit levels t.1 es >>- λ cs. Ok (branch a.0.0 t.0 cs.0, cs.1)) (bs, m) a.2 in
    let o = bound_ok (visits limit levels b.0.1 es) (λ cs. Ok (branch a.0.0 b.0.0 cs.0, cs.1)) (bs, m) b.2 in
    let key = found-key limit (suc n) (entry_key c i) d a.0.0 (numbered_ok (suc n) (found limit (suc n) (entry_key c i) d) a.0.0 a.0.1 a.1).0 in
    let here = given limit (suc n) (element_at c i) b.0.0 b.0.1 b.1 in
    let rest = branches-found levels given k (suc i) limit b.0.1 c o.0.0 o.0.1 (omega arith) o.1 in
    let within : i < c.count = omega arith in
    (subst (λ (x : Branches). DenoteFrom x c i) (same_number (branch a.0.0 b.0.0 o.0.0) bs o.0.1 m o.2).0 (within, key, here.0, rest.0), omega (arith, here.1, rest.1))

pub tree-found : (levels limit n : ℕ) (r : Result JsonbValue Fault) (t : Tree) (m : ℕ) → visit limit levels n (document_of r) ≡ Ok (t, m) → Denotes t r × (depth (document_of r) ≤ levels)
unfolding Given
tree-found levels limit n (Err f) t m e =
    let e' : visit limit levels n (faulty f) ≡ Ok (t, m) = rw (document_is (Err f)) at e in
    absurd cc
tree-found levels limit n (Ok (scalar s)) t m e =
    let e' : visit limit levels n (single s) ≡ Ok (t, m) = rw (document_is (Ok (scalar s))) at e in
    let p = bound_ok (tree_scalar s) (λ q. Ok (leaf q)) t (numbered_ok n (tree_scalar s >>- λ q. Ok (leaf q)) t m e').0 in
    let is : leaf p.0 ≡ t = same_value (leaf p.0) t p.2 in
    let d : depth (document_of (Ok (scalar s))) ≡ 0 = ap depth (document_is (Ok (scalar s))) in
    (subst (λ (x : Tree). Denotes x (Ok (scalar s))) is (s, refl, p.1), omega arith)
tree-found zero limit n (Ok (nested c)) t m e =
    let e' : visit limit zero n (opened c (entries_of c)) ≡ Ok (t, m) = rw (document_is (Ok (nested c))) at e in
    absurd cc
tree-found (suc v) limit n (Ok (nested c)) t m e =
    let e' : visit limit (suc v) n (opened c (entries_of c)) ≡ Ok (t, m) = rw (document_is (Ok (nested c))) at e in
    let b = bound_ok (visits limit v n (entries_of c)) (λ bs. Ok (node c.is_array bs.0, bs.1)) (t, m) e' in
    let inner = branches-found v (tree-found v) c.count 0 limit n c b.0.0 b.0.1 (omega arith) b.1 in
    let d : depth (document_of (Ok (nested c))) ≡ suc (depths (entries_of c)) = ap depth (document_is (Ok (nested c))) in
    (subst (λ (x : Tree). Denotes x (Ok (nested c))) (same_number (node c.is_array b.0.0) t b.0.1 m b.2).0 (c, refl, refl, inner.0), omega (arith, inner.1))
