-- Where the fault of a limit comes, and where any other.
use Rattle.std.proofs.Common.{◌≡◌, ◌≢◌, ℕ, zero, suc, ◌+◌, ◌<◌, ◌≤◌, Bool, true, false, true≢false, List, [], ◌∷◌, ◌++◌, length, Option, Some, None, Result, Ok, Err, refl, sym, ap, subst, ◌∙◌, inl, inr, ◌⊎◌, arith}
use Rattle.std.specs.Prelude.{⊤, Any, nat_lt, nat_le, if◌then◌else◌, option_map}
use Rattle.std.proofs.lemmas.Bool.{ltb-true, leb-true}
use Rattle.std.proofs.lemmas.List.{length-append}
use Rattle.std.specs.Result.{result_err}
use Rattle.std.specs.Option.{option_or}
use Rattle.binlog_base.specs.declared.fault.Fault.{Fault}
use Rattle.binlog_base.specs.declared.fault.Fault.TheVariants.{UnexpectedEof, TooManyValues, NestingTooDeep}
use Rattle.binlog_base.specs.Faults.{IsOfBytes, OfBytes}
use Rattle.binlog_base.specs.Lemmas.Faults.{fault_of_bytes}
use Rattle.binlog_values.specs.JsonbValues.{JsonbValue, scalar, nested, Frame, key_at, element_at}
use Rattle.binlog_values.specs.JsonbTrees.{TreeScalar, tree_scalar, entry_key}
use Rattle.binlog_values.specs.JsonbDocuments.{Document, faulty, single, opened, entries, unfold_to, size_of, document_of, weight, depth, depths, Position, inside, inside_from, positions, fault_inside, fault_at, first_fault}
use Rattle.binlog_values.specs.JsonbParsed.{HasFault}
use Rattle.binlog_values.specs.Lemmas.JsonbValues.{element_of_bytes, key_of_bytes}
use Rattle.binlog_values.proofs.JsonbFirstFault.{length-inside}
use Rattle.binlog_values.proofs.JsonbScalars.{scalar_of_bytes}

-- ---- the position that has the first fault

abbrev some : Fault × ℕ → Option (Fault × ℕ)
some x = Some x

abbrev one : Fault → Option Fault
one f = Some f

some_is : (x y : Fault × ℕ) → some x ≡ some y → x ≡ y
some_is x y e = cc

one_is : (f g : Fault) → one f ≡ one g → f ≡ g
one_is f g e = cc

-- one of the positions has the property
abbrev SomeOf : (Position → Type 0) → List Position → Type 0
SomeOf P [] = ⊥
SomeOf P (p ∷ ps) = P p ⊎ SomeOf P ps

any_of : (P : Position → Type 0) (ps : List Position) → SomeOf P ps → Any P ps
any_of P [] h = absurd h
any_of P (p ∷ ps) (inl here) = (zero, p, omega arith, refl, here)
any_of P (p ∷ ps) (inr later) = let a = any_of P ps later in (suc a.0, a.1, omega (arith, a.2), a.3, a.4)

-- it has that fault with its number, which is below the count of the positions
At : ℕ → Fault → ℕ → Position → Type 0
At limit f m p = fault_at limit m p ≡ Some f

by_fault : (limit n : ℕ) (p : Position) (ps : List Position) (o : Option Fault) (f : Fault) (m : ℕ) → fault_at limit n p ≡ o → (first_fault limit (suc n) ps ≡ Some (f, m) → SomeOf (At limit f m) ps × (m < suc n + length ps))
    → option_or (option_map (λ g. (g, n)) o) (first_fault limit (suc n) ps) ≡ Some (f, m) → SomeOf (At limit f m) (p ∷ ps) × (m < n + suc (length ps))
unfolding At
by_fault limit n p ps None f m is h e =
    let r = h e in
    (inr r.0, omega (arith, r.1))
by_fault limit n p ps (Some g) f m is h e =
    let same = some_is (g, n) (f, m) e in
    let fault : g ≡ f = ap (λ (q : Fault × ℕ). q.0) same in
    let number : n ≡ m = ap (λ (q : Fault × ℕ). q.1) same in
    (inl (subst (λ (k : ℕ). fault_at limit k p ≡ Some f) number (is ∙ ap one fault)), omega (arith, number))

first_at : (limit n : ℕ) (ps : List Position) (f : Fault) (m : ℕ) → first_fault limit n ps ≡ Some (f, m) → SomeOf (At limit f m) ps × (m < n + length ps)
first_at limit n [] f m e = absurd cc
first_at limit n (p ∷ ps) f m e = by_fault limit n p ps (fault_at limit n p) f m refl (first_at limit (suc n) ps f m) e

pub number_within : (limit : ℕ) (d : Document) (f : Fault) (m : ℕ) → first_fault limit 0 (positions d) ≡ Some (f, m) → m ≤ weight d
number_within limit d f m e = omega (arith, (first_at limit 0 (positions d) f m e).1, length-inside d [])

-- ---- the cases of a position's fault

-- that of its key or its value, that of the limit on values, or that of the limit on containers
abbrev Cause : ℕ → ℕ → Position → Fault → Type 0
Cause limit n p f = HasFault f p ⊎ (((f ≡ TooManyValues) × (limit < n)) ⊎ ((f ≡ NestingTooDeep) × (100 ≤ length p.path) × (0 < depth p.value)))

-- the limit on values, and then what is inside
limited : (limit n : ℕ) (k : List ℕ) (b : Bool) (own : Option Fault) (f : Fault) → nat_lt limit n ≡ b → option_or (result_err {E = Fault} (if b then Err TooManyValues else Ok k)) own ≡ Some f → ((f ≡ TooManyValues) × (limit < n)) ⊎ (own ≡ Some f)
limited limit n k true own f is e = inl (sym (one_is TooManyValues f e), ltb-true limit n is)
limited limit n k false own f is e = inr e

too_deep : (b : Bool) (level : ℕ) (f : Fault) → nat_le 100 level ≡ b → (if b then one NestingTooDeep else None) ≡ Some f → (f ≡ NestingTooDeep) × (100 ≤ level)
too_deep true level f is e = (sym (one_is NestingTooDeep f e), leb-true 100 level is)
too_deep false level f is e = absurd cc

causes : (limit n : ℕ) (path : List ℕ) (key : Result (List ℕ) Fault) (d : Document) (f : Fault) → fault_at limit n (record { path = path; key = key; value = d }) ≡ Some f → Cause limit n (record { path = path; key = key; value = d }) f
causes limit n path (Err g) d f e = inl (inl (ap (λ (x : Fault). Err x) (one_is g f e)))
causes limit n path (Ok k) (faulty g) f e = inl (inr e)
causes limit n path (Ok k) (single s) f e =
    elim (limited limit n k (nat_lt limit n) (result_err (tree_scalar s)) f refl e) [
      | inl many ↦ inr (inl many)
      | inr own ↦ inl (inr own)
    ]
causes limit n path (Ok k) (opened c es) f e =
    elim (limited limit n k (nat_lt limit n) (fault_inside (length path) (opened c es)) f refl e) [
      | inl many ↦ inr (inl many)
      | inr own ↦ let w = too_deep (nat_le 100 (length path)) (length path) f refl own in inr (inr (w.0, w.1, omega arith))
    ]

-- ---- what holds of every position of a document

abbrev AllOf : (Position → Type 0) → List Position → Type 0
AllOf P [] = ⊤
AllOf P (p ∷ ps) = P p × AllOf P ps

all_append : (P : Position → Type 0) (ps qs : List Position) → AllOf P ps → AllOf P qs → AllOf P (ps ++ qs)
all_append P [] qs a b = b
all_append P (p ∷ ps) qs a b = (a.0, all_append P ps qs a.1 b)

both : (P Q : Position → Type 0) (ps : List Position) → SomeOf P ps → AllOf Q ps → (p : Position) × P p × Q p
both P Q [] h a = absurd h
both P Q (p ∷ ps) h a = elim h [
  | inl here ↦ (p, here, a.0)
  | inr later ↦ both P Q ps later a.1
]

-- its own fault is one that bytes can have, and what is inside it is nested no deeper than the whole
record Sound (n : ℕ) (p : Position) : Type 0 where
  own : (f : Fault) → HasFault f p → IsOfBytes f
  low : length p.path + depth p.value ≤ n

value_of_bytes : (fuel : ℕ) (r : Result JsonbValue Fault) → OfBytes r → (f : Fault) → fault_inside 0 (unfold_to fuel r) ≡ Some f → IsOfBytes f
unfolding unfold_to
value_of_bytes zero r h f e = subst IsOfBytes (one_is UnexpectedEof f e) refl
value_of_bytes (suc fuel) (Err g) h f e = subst IsOfBytes (one_is g f e) h
value_of_bytes (suc fuel) (Ok (scalar s)) h f e = faulty_scalar (tree_scalar s) (scalar_of_bytes s) f e
  where
    faulty_scalar : (r : Result TreeScalar Fault) → OfBytes r → (f : Fault) → result_err r ≡ Some f → IsOfBytes f
    faulty_scalar (Ok p) h f e = absurd cc
    faulty_scalar (Err g) h f e = subst IsOfBytes (one_is g f e) h
value_of_bytes (suc fuel) (Ok (nested c)) h f e = absurd cc

entry_of_bytes : (b : Bool) (r : Result (List ℕ) Fault) → OfBytes r → OfBytes (if b then Ok [] else r)
entry_of_bytes true r h = tt
entry_of_bytes false r h = h

own_of_bytes : (fuel : ℕ) (path : List ℕ) (key : Result (List ℕ) Fault) (r : Result JsonbValue Fault) → OfBytes key → OfBytes r → (f : Fault) → HasFault f (record { path = path; key = key; value = unfold_to fuel r }) → IsOfBytes f
own_of_bytes fuel path key r k v f h = elim h [
  | inl e ↦ fault_of_bytes key f k e
  | inr e ↦ value_of_bytes fuel r v f e
]

-- what holds of all that is inside the value of an entry
Inside : ℕ → Type 0
Inside fuel = (r : Result JsonbValue Fault) → OfBytes r → (path : List ℕ) (n : ℕ) → length path + depth (unfold_to fuel r) ≤ n → AllOf (Sound n) (inside path (unfold_to fuel r))

entries_sound : (fuel : ℕ) → Inside fuel → (c : Frame) (path : List ℕ) (n k i : ℕ) → suc (length path) + depths (entries (entry_key c) (λ j. unfold_to fuel (element_at c j)) k i) ≤ n
    → AllOf (Sound n) (inside_from path i (entries (entry_key c) (λ j. unfold_to fuel (element_at c j)) k i))
unfolding Inside
entries_sound fuel each c path n zero i low = tt
entries_sound fuel each c path n (suc k) i low =
    let d = unfold_to fuel (element_at c i) in
    let inner = path ++ i ∷ [] in
    let level : length inner ≡ suc (length path) = omega (arith, length-append path (i ∷ [])) in
    let here : length inner + depth d ≤ n = omega (arith, level, low) in
    let position : Position = record { path = inner; key = entry_key c i; value = d } in
    let sound : Sound n position = record { own = own_of_bytes fuel inner (entry_key c i) (element_at c i) (entry_of_bytes c.is_array (key_at c i) (key_of_bytes c i)) (element_of_bytes c i); low = here } in
    let rest = entries_sound fuel each c path n k (suc i) (omega (arith, low)) in
    (sound, all_append (Sound n) (inside inner d) _ (each (element_at c i) (element_of_bytes c i) inner n here) rest)

inside_sound : (fuel : ℕ) → Inside fuel
unfolding Inside unfold_to
inside_sound zero r h path n low = tt
inside_sound (suc fuel) (Err f) h path n low = tt
inside_sound (suc fuel) (Ok (scalar s)) h path n low = tt
inside_sound (suc fuel) (Ok (nested c)) h path n low = entries_sound fuel (inside_sound fuel) c path n c.count 0 (omega (arith, low))

all_sound : (v : JsonbValue) → AllOf (Sound (depth (document_of (Ok v)))) (positions (document_of (Ok v)))
unfolding document_of Inside
all_sound v =
    let fuel = suc (size_of (Ok v)) in
    let d = unfold_to fuel (Ok v) in
    (record { own = own_of_bytes fuel [] (Ok []) (Ok v) tt tt; low = omega arith }, inside_sound fuel (Ok v) tt [] (depth d) (omega arith))

-- ---- the three kinds of faults

abbrev first : ℕ → JsonbValue → Option (Fault × ℕ)
first limit v = first_fault limit 0 (positions (document_of (Ok v)))

pub nesting_is_deep : (limit : ℕ) (v : JsonbValue) (m : ℕ) → first limit v ≡ Some (NestingTooDeep, m) → 100 < depth (document_of (Ok v))
unfolding At
nesting_is_deep limit v m e =
    let w = both (At limit NestingTooDeep m) (Sound (depth (document_of (Ok v)))) (positions (document_of (Ok v))) (first_at limit 0 (positions (document_of (Ok v))) NestingTooDeep m e).0 (all_sound v) in
    elim (causes limit m w.0.path w.0.key w.0.value NestingTooDeep w.1) [
      | inl own ↦ absurd (true≢false (sym (w.2.own NestingTooDeep own)))
      | inr limits ↦ elim limits [ inl many ↦ absurd cc | inr deep ↦ omega (arith, deep.1, deep.2, w.2.low) ]
    ]

pub values_are_many : (limit : ℕ) (v : JsonbValue) (m : ℕ) → first limit v ≡ Some (TooManyValues, m) → limit < weight (document_of (Ok v))
unfolding At
values_are_many limit v m e =
    let w = both (At limit TooManyValues m) (Sound (depth (document_of (Ok v)))) (positions (document_of (Ok v))) (first_at limit 0 (positions (document_of (Ok v))) TooManyValues m e).0 (all_sound v) in
    elim (causes limit m w.0.path w.0.key w.0.value TooManyValues w.1) [
      | inl own ↦ absurd (true≢false (sym (w.2.own TooManyValues own)))
      | inr limits ↦ elim limits [ inl many ↦ omega (arith, many.1, number_within limit (document_of (Ok v)) TooManyValues m e) | inr deep ↦ absurd cc ]
    ]

some_has : (limit m : ℕ) (f : Fault) (ps : List Position) → f ≢ NestingTooDeep → f ≢ TooManyValues → SomeOf (At limit f m) ps → SomeOf (HasFault f) ps
unfolding At
some_has limit m f [] deep many h = absurd h
some_has limit m f (p ∷ ps) deep many h = elim h [
  | inl here ↦ elim (causes limit m p.path p.key p.value f here) [
    | inl own ↦ inl own
    | inr limits ↦ elim limits [ inl is ↦ absurd (many is.0) | inr is ↦ absurd (deep is.0) ]
  ]
  | inr later ↦ inr (some_has limit m f ps deep many later)
]

pub other_is_own : (limit : ℕ) (v : JsonbValue) (f : Fault) (m : ℕ) → first limit v ≡ Some (f, m) → f ≢ NestingTooDeep → f ≢ TooManyValues → Any (HasFault f) (positions (document_of (Ok v)))
other_is_own limit v f m e deep many =
    any_of (HasFault f) (positions (document_of (Ok v))) (some_has limit m f (positions (document_of (Ok v))) deep many (first_at limit 0 (positions (document_of (Ok v))) f m e).0)
