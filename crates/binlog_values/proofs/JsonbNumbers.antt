-- The number of a position, by its container's.
use Rattle.std.proofs.Common.{◌≡◌, ℕ, zero, suc, ◌+◌, ◌<◌, ◌≤◌, List, [], ◌∷◌, ◌++◌, length, Option, Some, None, option_map, Result, Ok, refl, sym, ap, ap₂, subst, ◌∙◌, inl, inr, ◌⊎◌, arith}
use Rattle.std.specs.Prelude.{slice_get}
use Rattle.std.proofs.lemmas.Bool.{cases_lt, lt-ltb, le-ltb}
use Rattle.std.proofs.lemmas.List.{append_assoc}
use Rattle.std.specs.Option.{option_or}
use Rattle.binlog_base.specs.declared.fault.Fault.{Fault}
use Rattle.binlog_values.specs.JsonbDocuments.{Document, faulty, single, opened, Entries, no_entries, entry, weight, Position, inside, inside_from, positions, entries, document_of, fault_at, first_fault}
use Rattle.binlog_values.specs.JsonbValues.{element_at}
use Rattle.binlog_values.specs.JsonbTrees.{entry_key}
use Rattle.binlog_values.specs.JsonbLaws.{IsPosition, entries_in, entry_in, weight_before, IsEntry, NumbersAddUp, PositionsAreEntries, EntriesArePositions, PathsAreOne, EntriesAreElements, PositionsAreValues, FaultsAreAtNumbers, FaultsAreFirst}
use Rattle.binlog_values.proofs.JsonbFirstFault.{length-inside}

-- ---- lists

some_is : {A : Type 0} (x y : A) → Some x ≡ Some y → x ≡ y
some_is x y e = cc

get-left : {A : Type 0} (xs ys : List A) (n : ℕ) (x : A) → slice_get xs n ≡ Some x → slice_get (xs ++ ys) n ≡ Some x
get-left [] ys n x h = absurd cc
get-left (y ∷ xs) ys zero x h = h
get-left (y ∷ xs) ys (suc n) x h = get-left xs ys n x h

get-right : {A : Type 0} (xs ys : List A) (n k : ℕ) (x : A) → n ≡ length xs + k → slice_get ys k ≡ Some x → slice_get (xs ++ ys) n ≡ Some x
get-right [] ys n k x is h = subst (λ (m : ℕ). slice_get ys m ≡ Some x) (omega arith) h
get-right (y ∷ xs) ys zero k x is h = absurd (omega arith)
get-right (y ∷ xs) ys (suc n) k x is h = get-right xs ys n k x (omega arith) h

get-split : {A : Type 0} (xs ys : List A) (n : ℕ) (x : A) → slice_get (xs ++ ys) n ≡ Some x
    → (slice_get xs n ≡ Some x) ⊎ ((k : ℕ) × (n ≡ length xs + k) × (slice_get ys k ≡ Some x))
get-split [] ys n x h = inr (n, omega arith, h)
get-split (y ∷ xs) ys zero x h = inl h
get-split (y ∷ xs) ys (suc n) x h =
    elim (get-split xs ys n x h) [
      | inl l ↦ inl l
      | inr r ↦ inr (r.0, omega (arith, r.1), r.2)
    ]

-- ---- the number by the path

-- the number of the position that a path leads to from the root, the least that it can be
abbrev mutual
  number : Document → List ℕ → ℕ
  number d [] = 0
  number (faulty f) (i ∷ path) = 0
  number (single s) (i ∷ path) = 0
  number (opened c es) (i ∷ path) = 1 + weight_before es i + number_from es i path

  number_from : Entries → ℕ → List ℕ → ℕ
  number_from no_entries i path = 0
  number_from (entry k d es) zero path = number d path
  number_from (entry k d es) (suc i) path = number_from es i path

number-root : (d : Document) → number d [] ≡ 0
number-root (faulty f) = refl
number-root (single s) = refl
number-root (opened c es) = refl

-- the path goes on from the base, and the rest of it leads to the number
record Numbered (d : Document) (base : List ℕ) (n : ℕ) (p : Position) : Type 0 where
  rest : List ℕ
  path : p.path ≡ base ++ rest
  number : n ≡ number d rest

record NumberedFrom (es : Entries) (base : List ℕ) (j n : ℕ) (p : Position) : Type 0 where
  index : ℕ
  rest : List ℕ
  path : p.path ≡ base ++ (j + index) ∷ rest
  number : n ≡ weight_before es index + number_from es index rest

mutual
  number-inside : (d : Document) (base : List ℕ) (n : ℕ) (p : Position) → slice_get (inside base d) n ≡ Some p → Numbered d base (suc n) p
  number-inside (faulty f) base n p h = absurd cc
  number-inside (single s) base n p h = absurd cc
  number-inside (opened c es) base n p h =
      let r = numbers-from es base 0 n p h in
      record {
        rest = r.index ∷ r.rest;
        path = r.path ∙ ap (λ (i : ℕ). base ++ i ∷ r.rest) (omega arith);
        number = omega (arith, r.number);
      }

  numbers-from : (es : Entries) (base : List ℕ) (j n : ℕ) (p : Position) → slice_get (inside_from base j es) n ≡ Some p → NumberedFrom es base j n p
  numbers-from no_entries base j n p h = absurd cc
  numbers-from (entry k d es) base j zero p h =
      let is : base ++ j ∷ [] ≡ p.path = ap (λ (q : Position). q.path) (some_is _ p h) in
      record {
        index = 0;
        rest = [];
        path = sym is ∙ ap (λ (i : ℕ). base ++ i ∷ []) (omega arith);
        number = omega (arith, number-root d);
      }
  numbers-from (entry k d es) base j (suc n) p h =
      elim (get-split (inside (base ++ j ∷ []) d) (inside_from base (suc j) es) n p h) [
        | inl l ↦
            let r = number-inside d (base ++ j ∷ []) n p l in
            record {
              index = 0;
              rest = r.rest;
              path = r.path ∙ append_assoc base (j ∷ []) r.rest ∙ ap (λ (i : ℕ). base ++ i ∷ r.rest) (omega arith);
              number = omega (arith, r.number);
            }
        | inr s ↦
            let r = numbers-from es base (suc j) s.0 p s.2 in
            record {
              index = suc r.index;
              rest = r.rest;
              path = r.path ∙ ap (λ (i : ℕ). base ++ i ∷ r.rest) (omega arith);
              number = omega (arith, r.number, s.1, length-inside d (base ++ j ∷ []));
            }
      ]

number_is : (d : Document) (n : ℕ) (p : Position) → IsPosition d n p → n ≡ number d p.path
number_is d zero p h =
    let is : [] ≡ p.path = ap (λ (q : Position). q.path) (some_is _ p h) in
    sym (number-root d) ∙ ap (number d) is
number_is d (suc n) p h =
    let r = number-inside d [] n p h in
    r.number ∙ ap (number d) (sym r.path)

pub one_path : PathsAreOne
one_path d m n p q h k same = number_is d m p h ∙ ap (number d) same ∙ sym (number_is d n q k)

-- ---- the positions of entries

abbrev found_at : List ℕ → Result (List ℕ) Fault × Document → Option Position
found_at path e = Some (record { path = path; key = e.0; value = e.1 })

entry_there : (es : Entries) (base : List ℕ) (j i : ℕ) (q : Position) → entry_in es i ≡ Some (q.key, q.value) → q.path ≡ base ++ (j + i) ∷ [] → slice_get (inside_from base j es) (weight_before es i) ≡ Some q
entry_there no_entries base j i q h path = absurd cc
entry_there (entry k d es) base j zero q h path =
    let same = some_is (k, d) (q.key, q.value) h in
    let here : base ++ j ∷ [] ≡ q.path = ap (λ (i : ℕ). base ++ i ∷ []) (omega arith) ∙ sym path in
    ap₂ found_at here same
entry_there (entry k d es) base j (suc i) q h path =
    let first : Position = record { path = base ++ j ∷ []; key = k; value = d } in
    let rest = entry_there es base (suc j) i q h (path ∙ ap (λ (i : ℕ). base ++ i ∷ []) (omega arith)) in
    get-right (first ∷ inside (base ++ j ∷ []) d) (inside_from base (suc j) es) (1 + weight d + weight_before es i) (weight_before es i) q (omega (arith, length-inside d (base ++ j ∷ []))) rest

entry_first : (d : Document) (base : List ℕ) (i : ℕ) (q : Position) → entry_in (entries_in d) i ≡ Some (q.key, q.value) → q.path ≡ base ++ i ∷ [] → slice_get (inside base d) (weight_before (entries_in d) i) ≡ Some q
entry_first (faulty f) base i q h path = absurd cc
entry_first (single s) base i q h path = absurd cc
entry_first (opened c es) base i q h path = entry_there es base 0 i q h (path ∙ ap (λ (i : ℕ). base ++ i ∷ []) (omega arith))

-- the number of the entry of a position with number n
abbrev entry_number : ℕ → Position → ℕ → ℕ
entry_number n p i = n + 1 + weight_before (entries_in p.value) i

at_number : {A : Type 0} (xs : List A) (m n : ℕ) (x : A) → m ≡ n → slice_get xs m ≡ Some x → slice_get xs n ≡ Some x
at_number xs m n x e h = subst (λ (k : ℕ). slice_get xs k ≡ Some x) e h

mutual
  entry-inside : (d : Document) (base : List ℕ) (n : ℕ) (p : Position) (i : ℕ) (q : Position) → slice_get (inside base d) n ≡ Some p → IsEntry p i q → slice_get (inside base d) (entry_number n p i) ≡ Some q
  entry-inside (faulty f) base n p i q h e = absurd cc
  entry-inside (single s) base n p i q h e = absurd cc
  entry-inside (opened c es) base n p i q h e = entry-from es base 0 n p i q h e

  entry-from : (es : Entries) (base : List ℕ) (j n : ℕ) (p : Position) (i : ℕ) (q : Position) → slice_get (inside_from base j es) n ≡ Some p → IsEntry p i q → slice_get (inside_from base j es) (entry_number n p i) ≡ Some q
  entry-from no_entries base j n p i q h e = absurd cc
  entry-from (entry k d es) base j zero p i q h e =
      let first : Position = record { path = base ++ j ∷ []; key = k; value = d } in
      let is : p ≡ first = sym (some_is first p h) in
      let e' : IsEntry first i q = subst (λ (x : Position). IsEntry x i q) is e in
      let there = get-left (inside (base ++ j ∷ []) d) (inside_from base (suc j) es) (weight_before (entries_in d) i) q (entry_first d (base ++ j ∷ []) i q e'.0 e'.1) in
      let number : suc (weight_before (entries_in d) i) ≡ entry_number 0 p i = subst (λ (x : Position). suc (weight_before (entries_in d) i) ≡ entry_number 0 x i) (sym is) (omega arith) in
      at_number (inside_from base j (entry k d es)) (suc (weight_before (entries_in d) i)) (entry_number 0 p i) q number there
  entry-from (entry k d es) base j (suc n) p i q h e =
      let first : Position = record { path = base ++ j ∷ []; key = k; value = d } in
      elim (get-split (inside (base ++ j ∷ []) d) (inside_from base (suc j) es) n p h) [
        | inl l ↦
            let there = get-left (inside (base ++ j ∷ []) d) (inside_from base (suc j) es) (entry_number n p i) q (entry-inside d (base ++ j ∷ []) n p i q l e) in
            at_number (inside_from base j (entry k d es)) (suc (entry_number n p i)) (entry_number (suc n) p i) q (omega arith) there
        | inr s ↦
            get-right (first ∷ inside (base ++ j ∷ []) d) (inside_from base (suc j) es) (entry_number (suc n) p i) (entry_number s.0 p i) q (omega (arith, s.1, length-inside d (base ++ j ∷ []))) (entry-from es base (suc j) s.0 p i q s.2 e)
      ]

entry_position : (d : Document) (m i : ℕ) (p q : Position) → IsPosition d m p → IsEntry p i q → IsPosition d (entry_number m p i) q
entry_position d zero i p q h e =
    let root : Position = record { path = []; key = Ok []; value = d } in
    let is : p ≡ root = sym (some_is root p h) in
    let e' : IsEntry root i q = subst (λ (x : Position). IsEntry x i q) is e in
    let number : suc (weight_before (entries_in d) i) ≡ entry_number 0 p i = subst (λ (x : Position). suc (weight_before (entries_in d) i) ≡ entry_number 0 x i) (sym is) (omega arith) in
    at_number (positions d) (suc (weight_before (entries_in d) i)) (entry_number 0 p i) q number (entry_first d [] i q e'.0 e'.1)
entry_position d (suc m) i p q h e =
    at_number (positions d) (suc (entry_number m p i)) (entry_number (suc m) p i) q (omega arith) (entry-inside d [] m p i q h e)

pub entries_positions : EntriesArePositions
entries_positions d m i p q h e = (entry_number m p i, entry_position d m i p q h e)

pub numbers_add : NumbersAddUp
numbers_add d m n i p q h k e = one_path d n (entry_number m p i) q q k (entry_position d m i p q h e) refl

-- ---- each position is that of an entry

abbrev Here : Entries → ℕ → List ℕ → Position → Type 0
Here es j base q = (i : ℕ) × (entry_in es i ≡ Some (q.key, q.value)) × (q.path ≡ base ++ (j + i) ∷ [])

abbrev Deeper : List Position → Position → Type 0
Deeper ps q = (m : ℕ) × (i : ℕ) × (p : Position) × (slice_get ps m ≡ Some p) × IsEntry p i q

mutual
  whose-inside : (d : Document) (base : List ℕ) (n : ℕ) (q : Position) → slice_get (inside base d) n ≡ Some q → Here (entries_in d) 0 base q ⊎ Deeper (inside base d) q
  whose-inside (faulty f) base n q h = absurd cc
  whose-inside (single s) base n q h = absurd cc
  whose-inside (opened c es) base n q h = whose-from es base 0 n q h

  whose-from : (es : Entries) (base : List ℕ) (j n : ℕ) (q : Position) → slice_get (inside_from base j es) n ≡ Some q → Here es j base q ⊎ Deeper (inside_from base j es) q
  whose-from no_entries base j n q h = absurd cc
  whose-from (entry k d es) base j zero q h =
      let first : Position = record { path = base ++ j ∷ []; key = k; value = d } in
      let is : first ≡ q = some_is first q h in
      inl (0, ap (λ (x : Position). Some (x.key, x.value)) is, sym (ap (λ (x : Position). x.path) is) ∙ ap (λ (i : ℕ). base ++ i ∷ []) (omega arith))
  whose-from (entry k d es) base j (suc n) q h =
      let first : Position = record { path = base ++ j ∷ []; key = k; value = d } in
      let within = inside (base ++ j ∷ []) d in
      let later = inside_from base (suc j) es in
      elim (get-split within later n q h) [
        | inl l ↦ elim (whose-inside d (base ++ j ∷ []) n q l) [
          | inl a ↦ inr (0, a.0, first, refl, (a.1, a.2 ∙ ap (λ (i : ℕ). base ++ j ∷ [] ++ i ∷ []) (omega arith)))
          | inr b ↦ inr (suc b.0, b.1, b.2, get-left within later b.0 b.2 b.3, b.4)
        ]
        | inr s ↦ elim (whose-from es base (suc j) s.0 q s.2) [
          | inl a ↦ inl (suc a.0, a.1, a.2 ∙ ap (λ (i : ℕ). base ++ i ∷ []) (omega arith))
          | inr b ↦ inr (length (first ∷ within) + b.0, b.1, b.2, get-right (first ∷ within) later (length (first ∷ within) + b.0) b.0 b.2 refl b.3, b.4)
        ]
      ]

pub positions_entries : PositionsAreEntries
positions_entries d n q h =
    elim (whose-inside d [] n q h) [
      | inl a ↦ (0, a.0, record { path = []; key = Ok []; value = d }, refl, (a.1, a.2 ∙ ap (λ (i : ℕ). i ∷ []) (omega arith)))
      | inr b ↦ (suc b.0, b.1, b.2, b.3, b.4)
    ]

pub positions_values : PositionsAreValues
positions_values d = omega (arith, length-inside d [])

-- ---- entries and elements

entry_below : (key : ℕ → Result (List ℕ) Fault) (value : ℕ → Document) (n j i : ℕ) → i < n → entry_in (entries key value n j) i ≡ Some (key (j + i), value (j + i))
entry_below key value zero j i lt = absurd (omega arith)
entry_below key value (suc n) j zero lt = ap (λ (k : ℕ). Some (key k, value k)) (omega arith)
entry_below key value (suc n) j (suc i) lt =
    entry_below key value n (suc j) i (omega arith) ∙ ap (λ (k : ℕ). Some (key k, value k)) (omega arith)

entry_past : (key : ℕ → Result (List ℕ) Fault) (value : ℕ → Document) (n j i : ℕ) → n ≤ i → entry_in (entries key value n j) i ≡ None
entry_past key value zero j i le = refl
entry_past key value (suc n) j zero le = absurd (omega arith)
entry_past key value (suc n) j (suc i) le = entry_past key value n (suc j) i (omega arith)

pub entries_elements : EntriesAreElements
entries_elements c i =
    let value : ℕ → Document = λ k. document_of (element_at c k) in
    elim (cases_lt i c.count) [
      | inl lt ↦
          let b = lt-ltb i c.count lt in
          rw b (entry_below (entry_key c) value c.count 0 i lt ∙ ap (λ (k : ℕ). Some (entry_key c k, value k)) (omega arith))
      | inr le ↦
          let b = le-ltb i c.count le in
          rw b (entry_past (entry_key c) value c.count 0 i le)
    ]

-- ---- the first fault

-- no position before index k has a fault; the first has number n
abbrev NoneBefore : ℕ → ℕ → ℕ → List Position → Type 0
NoneBefore limit n k ps = (l : ℕ) (p : Position) → l < k → slice_get ps l ≡ Some p → fault_at limit (n + l) p ≡ None

-- the position of number m has the fault, and none before it has one
record IsFirst (limit n m : ℕ) (ps : List Position) (f : Fault) : Type 0 where
  index : ℕ
  position : Position
  number : m ≡ n + index
  there : slice_get ps index ≡ Some position
  fault : fault_at limit m position ≡ Some f
  before : NoneBefore limit n index ps

none_more : (limit n k : ℕ) (p : Position) (ps : List Position) → fault_at limit n p ≡ None → NoneBefore limit (suc n) k ps → NoneBefore limit n (suc k) (p ∷ ps)
none_more limit n k p ps e later zero q lt h =
    subst (λ (x : Position). fault_at limit (n + 0) x ≡ None) (some_is p q h) (ap (λ (j : ℕ). fault_at limit j p) (omega arith) ∙ e)
none_more limit n k p ps e later (suc l) q lt h = ap (λ (j : ℕ). fault_at limit j q) (omega arith) ∙ later l q (omega (arith, lt)) h

first_split : (limit n m : ℕ) (p : Position) (ps : List Position) (f : Fault) (o : Option Fault) → fault_at limit n p ≡ o → option_or (option_map (λ g. (g, n)) o) (first_fault limit (suc n) ps) ≡ Some (f, m)
    → (first_fault limit (suc n) ps ≡ Some (f, m) → IsFirst limit (suc n) m ps f) → IsFirst limit n m (p ∷ ps) f
first_split limit n m p ps f (Some g) e h later =
    let same = some_is (g, n) (f, m) h in
    let number : n ≡ m = ap (λ (x : Fault × ℕ). x.1) same in
    let fault : g ≡ f = ap (λ (x : Fault × ℕ). x.0) same in
    record {
      index = 0;
      position = p;
      number = omega arith;
      there = refl;
      fault = subst (λ (k : ℕ). fault_at limit k p ≡ Some f) number (e ∙ ap (λ (x : Fault). Some x) fault);
      before = λ l q lt s. absurd (omega (arith, lt));
    }
first_split limit n m p ps f None e h later =
    let r = later h in
    record {
      index = suc r.index;
      position = r.position;
      number = omega (arith, r.number);
      there = r.there;
      fault = r.fault;
      before = none_more limit n r.index p ps e r.before;
    }

first_is : (limit n m : ℕ) (ps : List Position) (f : Fault) → first_fault limit n ps ≡ Some (f, m) → IsFirst limit n m ps f
first_is limit n m [] f h = absurd cc
first_is limit n m (p ∷ ps) f h = first_split limit n m p ps f (fault_at limit n p) refl h (first_is limit (suc n) m ps f)

pub faults_at_numbers : FaultsAreAtNumbers
faults_at_numbers limit n d f h =
    let r = first_is limit 0 n (positions d) f h in
    let number : r.index ≡ n = omega (arith, r.number) in
    (r.position, at_number (positions d) r.index n r.position number r.there, r.fault)

pub faults_first : FaultsAreFirst
faults_first limit m n d f p h lt k =
    let r = first_is limit 0 n (positions d) f h in
    ap (λ (j : ℕ). fault_at limit j p) (omega arith) ∙ r.before m p (omega (arith, r.number, lt)) k
