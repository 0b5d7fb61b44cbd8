-- Reading stops at the first position in document order that has a fault, and with its number.
use Rattle.std.proofs.Common.{◌≡◌, ℕ, zero, suc, ◌+◌, Bool, true, false, leb, List, [], ◌∷◌, ◌++◌, length, Option, Some, None, option_map, Result, Ok, Err, refl, sym, ap, ◌∙◌, arith}
use Rattle.std.proofs.lemmas.Bool.{le-ltb}
use Rattle.std.proofs.lemmas.List.{length-append}
use Rattle.std.specs.Result.{result_err}
use Rattle.std.specs.Option.{option_or}
use Rattle.binlog_base.specs.declared.fault.Fault.{Fault}
use Rattle.binlog_values.specs.JsonbTrees.{TreeScalar, tree_scalar, Tree, leaf, node, Branches, no_branches, branch}
use Rattle.binlog_values.specs.JsonbDocuments.{Document, faulty, single, opened, Entries, no_entries, entry, weight, weights, Position, inside, inside_from, positions, found, in_limit, fault_inside, fault_at, first_fault}
use Rattle.binlog_values.specs.Workings.JsonbVisits.{Numbered, numbered, ◌>>-◌, visit, visits}

-- ---- results

pub bound_ok : {A B E : Type 0} (r : Result A E) (f : A → Result B E) (y : B) → (r >>- f) ≡ Ok y → (x : A) × (r ≡ Ok x) × (f x ≡ Ok y)
bound_ok (Ok x) f y e = (x, refl, e)
bound_ok (Err d) f y e = absurd cc

abbrev pub done : {A E : Type 0} → A → Result A E
done x = Ok x

ok_is : {A E : Type 0} (x y : A) → done {E = E} x ≡ done y → x ≡ y
ok_is x y e = cc

pub same_value : {A E : Type 0} (x y : A) → done {E = E} x ≡ done y → x ≡ y
same_value x y e = ok_is x y e

pub same_number : {A E : Type 0} (x y : A) (m n : ℕ) → done {A = A × ℕ} {E = E} (x, m) ≡ done (y, n) → (x ≡ y) × (n ≡ m)
same_number {A = A} x y m n e =
    let p = ok_is (x, m) (y, n) e in
    (ap (λ (q : A × ℕ). q.0) p, sym (ap (λ (q : A × ℕ). q.1) p))

pub numbered_ok : {A : Type 0} (n : ℕ) (r : Result A Fault) (x : A) (m : ℕ) → numbered n r ≡ Ok (x, m) → (r ≡ Ok x) × (m ≡ n)
numbered_ok {A = A} n (Ok y) x m e =
    let s = same_number y x n m e in
    (ap (λ (z : A). Ok z) s.0, s.1)
numbered_ok n (Err f) x m e = absurd cc

result_err-map : {A B E : Type 0} (f : A → B) (r : Result A E) → result_err (r >>- λ x. Ok (f x)) ≡ result_err r
result_err-map f (Ok x) = refl
result_err-map f (Err e) = refl

-- ---- numbers

mutual
  pub visit-number : (d : Document) (limit levels n : ℕ) (t : Tree) (m : ℕ) → visit limit levels n d ≡ Ok (t, m) → m ≡ n + weight d
  visit-number (faulty f) limit levels n t m e = absurd cc
  visit-number (single s) limit levels n t m e = omega (arith, (numbered_ok n (tree_scalar s >>- λ p. Ok (leaf p)) t m e).1)
  visit-number (opened c es) limit zero n t m e = absurd cc
  visit-number (opened c es) limit (suc v) n t m e =
      let b = bound_ok (visits limit v n es) (λ bs. Ok (node c.is_array bs.0, bs.1)) (t, m) e in
      omega (arith, visits-number es limit v n b.0.0 b.0.1 b.1, (same_number (node c.is_array b.0.0) t b.0.1 m b.2).1)

  pub visits-number : (es : Entries) (limit levels n : ℕ) (bs : Branches) (m : ℕ) → visits limit levels n es ≡ Ok (bs, m) → m ≡ n + weights es
  visits-number no_entries limit levels n bs m e = omega (arith, (same_number no_branches bs n m e).1)
  visits-number (entry key d es) limit levels n bs m e =
      let a = bound_ok (numbered (suc n) (found limit (suc n) key d)) (λ k. visit limit levels (suc n) d >>- λ t. visits limit levels t.1 es >>- λ cs. Ok (branch k.0 t.0 cs.0, cs.1)) (bs, m) e in
      let b = bound_ok (visit limit levels (suc n) d) (λ t. visits limit levels t.1 es >>- λ cs. Ok (branch a.0.0 t.0 cs.0, cs.1)) (bs, m) a.2 in
      let c = bound_ok (visits limit levels b.0.1 es) (λ cs. Ok (branch a.0.0 b.0.0 cs.0, cs.1)) (bs, m) b.2 in
      omega (arith, visit-number d limit levels (suc n) b.0.0 b.0.1 b.1, visits-number es limit levels b.0.1 c.0.0 c.0.1 c.1, (same_number (branch a.0.0 b.0.0 c.0.0) bs c.0.1 m c.2).1)

-- ---- positions

mutual
  pub length-inside : (d : Document) (path : List ℕ) → length (inside path d) ≡ weight d
  length-inside (faulty f) path = refl
  length-inside (single s) path = refl
  length-inside (opened c es) path = length-inside_from es path 0

  pub length-inside_from : (es : Entries) (path : List ℕ) (i : ℕ) → length (inside_from path i es) ≡ weights es
  length-inside_from no_entries path i = refl
  length-inside_from (entry k d es) path i =
      omega (arith, length-append (inside (path ++ i ∷ []) d) (inside_from path (suc i) es), length-inside d (path ++ i ∷ []), length-inside_from es path (suc i))

option_or-assoc : {A : Type 0} (x y z : Option A) → option_or x (option_or y z) ≡ option_or (option_or x y) z
option_or-assoc None y z = refl
option_or-assoc (Some x) y z = refl

first_fault-append : (limit n : ℕ) (ps qs : List Position) → first_fault limit n (ps ++ qs) ≡ option_or (first_fault limit n ps) (first_fault limit (n + length ps) qs)
first_fault-append limit n [] qs = ap (λ (k : ℕ). first_fault limit k qs) (omega arith)
first_fault-append limit n (p ∷ ps) qs =
    let head : Option (Fault × ℕ) = option_map (λ f. (f, n)) (fault_at limit n p) in
    ap (λ (r : Option (Fault × ℕ)). option_or head r) (first_fault-append limit (suc n) ps qs ∙ ap (λ (k : ℕ). option_or (first_fault limit (suc n) ps) (first_fault limit k qs)) (omega arith))
    ∙ option_or-assoc head (first_fault limit (suc n) ps) (first_fault limit (n + length (p ∷ ps)) qs)

-- ---- the walk

scalar_fault : (n : ℕ) (r : Result TreeScalar Fault) → result_err (numbered n (r >>- λ p. Ok (leaf p))) ≡ option_or (option_map (λ f. (f, n)) (result_err r)) None
scalar_fault n (Ok p) = refl
scalar_fault n (Err f) = refl

abbrev entry_done : List ℕ → Tree → Branches × ℕ → Branches × ℕ
entry_done k t bs = (branch k t bs.0, bs.1)

abbrev node_done : Bool → Branches × ℕ → Tree × ℕ
node_done a bs = (node a bs.0, bs.1)

-- what is read of a value, and of the entries after it
after_value : (k : List ℕ) (r : Numbered Tree) (rest : ℕ → Numbered Branches) (x y z : Option (Fault × ℕ)) → result_err r ≡ option_or x y → ((t : Tree) (m : ℕ) → r ≡ Ok (t, m) → result_err (rest m) ≡ z)
    → result_err {T = Branches × ℕ} (r >>- λ t. rest t.1 >>- λ bs. Ok (branch k t.0 bs.0, bs.1)) ≡ option_or x (option_or y z)
after_value k (Err e) rest x y z h later = ap (λ (o : Option (Fault × ℕ)). option_or o z) h ∙ sym (option_or-assoc x y z)
after_value k (Ok t) rest x y z h later =
    result_err-map (λ (bs : Branches × ℕ). entry_done k t.0 bs) (rest t.1) ∙ later t.0 t.1 refl ∙ ap (λ (o : Option (Fault × ℕ)). option_or o z) h ∙ sym (option_or-assoc x y z)

-- the position itself first
after_found : (n : ℕ) (f : Result (List ℕ) Fault) (next : List ℕ → Numbered Branches) (own : Option Fault) (later : Option (Fault × ℕ)) → ((k : List ℕ) → f ≡ Ok k → result_err (next k) ≡ option_or (option_map (λ g. (g, n)) own) later)
    → result_err (numbered n f >>- λ k. next k.0) ≡ option_or (option_map (λ g. (g, n)) (option_or (result_err f) own)) later
after_found n (Err e) next own later h = refl
after_found n (Ok k) next own later h = h k refl

mutual
  pub visit-first : (d : Document) (limit levels n : ℕ) (path : List ℕ) → levels + length path ≡ 100
      → result_err (visit limit levels n d) ≡ option_or (option_map (λ f. (f, n)) (fault_inside (length path) d)) (first_fault limit (suc n) (inside path d))
  visit-first (faulty f) limit levels n path h = refl
  visit-first (single s) limit levels n path h = scalar_fault n (tree_scalar s)
  visit-first (opened c es) limit zero n path h =
      let deep : leb 100 (length path) ≡ true = grind arith in
      rw deep refl
  visit-first (opened c es) limit (suc v) n path h =
      let room : leb 100 (length path) ≡ false = grind arith in
      rw room (result_err-map (λ (bs : Branches × ℕ). node_done c.is_array bs) (visits limit v n es) ∙ visits-first es limit v n path 0 (omega arith))

  pub visits-first : (es : Entries) (limit levels n : ℕ) (path : List ℕ) (i : ℕ) → levels + suc (length path) ≡ 100
      → result_err (visits limit levels n es) ≡ first_fault limit (suc n) (inside_from path i es)
  visits-first no_entries limit levels n path i h = refl
  visits-first (entry key d es) limit levels n path i h =
      let inner = path ++ i ∷ [] in
      let level : length inner ≡ suc (length path) = omega (arith, length-append path (i ∷ [])) in
      let next : List ℕ → Numbered Branches = λ k. visit limit levels (suc n) d >>- λ t. visits limit levels t.1 es >>- λ bs. Ok (branch k t.0 bs.0, bs.1) in
      let later = first_fault limit (suc (suc n)) (inside inner d ++ inside_from path (suc i) es) in
      let split : later ≡ option_or (first_fault limit (suc (suc n)) (inside inner d)) (first_fault limit (suc (suc n) + weight d) (inside_from path (suc i) es)) =
      first_fault-append limit (suc (suc n)) (inside inner d) (inside_from path (suc i) es)
      ∙ ap (λ (k : ℕ). option_or (first_fault limit (suc (suc n)) (inside inner d)) (first_fault limit (suc (suc n) + k) (inside_from path (suc i) es))) (length-inside d inner) in
      after_found (suc n) (found limit (suc n) key d) next (fault_inside (length inner) d) later (λ k e.
      after_value k (visit limit levels (suc n) d) (λ m. visits limit levels m es) (option_map (λ f. (f, suc n)) (fault_inside (length inner) d)) (first_fault limit (suc (suc n)) (inside inner d)) (first_fault limit (suc (suc n) + weight d) (inside_from path (suc i) es))
      (visit-first d limit levels (suc n) inner (omega arith))
      (λ t m is. visits-first es limit levels m path (suc i) h ∙ ap (λ (k : ℕ). first_fault limit k (inside_from path (suc i) es)) (omega (arith, visit-number d limit levels (suc n) t m is)))
      ∙ ap (λ (r : Option (Fault × ℕ)). option_or (option_map (λ f. (f, suc n)) (fault_inside (length inner) d)) r) (sym split))

root_in_limit : (limit : ℕ) → in_limit limit 0 (Ok []) ≡ Ok []
root_in_limit limit = rw (le-ltb limit 0 (omega arith)) refl

pub walk_first : (limit : ℕ) (d : Document) → result_err (visit limit 100 0 d) ≡ first_fault limit 0 (positions d)
walk_first limit (faulty f) = refl
walk_first limit (single s) = rw root_in_limit (visit-first (single s) limit 100 0 [] refl)
walk_first limit (opened c es) = rw root_in_limit (visit-first (opened c es) limit 100 0 [] refl)
