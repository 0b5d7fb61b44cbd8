-- The containers of a document are in the bytes of its root, and have their headers.
use Rattle.std.proofs.Common.{◌≡◌, ℕ, zero, suc, ◌+◌, ◌*◌, ◌≤◌, Bool, true, false, List, [], ◌∷◌, ◌++◌, length, Some, Result, Ok, Err, refl, sym, ap, subst, ◌∙◌, inl, inr, arith}
use Rattle.std.specs.Prelude.{slice_get}
use Rattle.std.proofs.lemmas.List.{append_assoc, append-nil, length-append}
use Rattle.binlog_base.specs.declared.fault.Fault.{Fault}
use Rattle.binlog_values.specs.JsonbLayout.{header_len}
use Rattle.binlog_values.specs.JsonbValues.{Frame, container, JsonbValue, scalar, nested, value, typed_value, json, element_at}
use Rattle.binlog_values.specs.JsonbTrees.{entry_key}
use Rattle.binlog_values.specs.JsonbDocuments.{opened, Entries, entries, unfold_to, size_of, document_of, Position, inside, inside_from}
use Rattle.binlog_values.specs.JsonbHeaders.{offset_of, IsWhole}
use Rattle.binlog_values.specs.JsonbLaws.{IsPartOf, ContainersAreInParents, ContainersAreShorter, ContainersAreInRoots, RootsAreInDocuments, HeadersAreLong, ContainersAreWhole, RootsAreWhole, InnerContainersAreWhole}
use Rattle.binlog_values.specs.declared.jsonb.types.JsonbType.{JsonbType}
use Rattle.binlog_values.specs.Lemmas.JsonbValues.{exact_value}
use Rattle.binlog_values.proofs.JsonbInside.{Fits, value_fits, element_inside}

-- ---- an entry's container

pub in_parents : ContainersAreInParents
in_parents c d i h = let l = element_inside c i d h in l.part

pub shorter : ContainersAreShorter
shorter c d i h = let l = element_inside c i d h in omega (arith, l.later, l.within)

-- ---- parts of parts

part_itself : (x : List ℕ) → IsPartOf x x
part_itself x = (0, ([], [], sym (append-nil x), refl))

part_of_part : (x y z : List ℕ) → IsPartOf x y → IsPartOf y z → IsPartOf x z
part_of_part x y z p q =
    let b = p.1.0 in
    let a = p.1.1 in
    let b' = q.1.0 in
    let a' = q.1.1 in
    let whole : z ≡ b' ++ b ++ x ++ (a ++ a') = q.1.2 ∙ ap (λ (w : List ℕ). b' ++ w ++ a') p.1.2 ∙ simp append_assoc in
    (q.0 + p.0, (b' ++ b, a ++ a', whole, omega (arith, length-append b' b, p.1.3, q.1.3)))

-- ---- all that is inside

abbrev done : JsonbValue → Result JsonbValue Fault
done v = Ok v

some_is : {A : Type 0} (x y : A) → Some x ≡ Some y → x ≡ y
some_is x y e = cc

-- the property holds of each position
EachHas : (Position → Type 0) → List Position → Type 0
EachHas P ps = (n : ℕ) (p : Position) → slice_get ps n ≡ Some p → P p

each-nil : (P : Position → Type 0) → EachHas P []
unfolding EachHas
each-nil P n p e = absurd cc

each-cons : (P : Position → Type 0) (p : Position) (ps : List Position) → P p → EachHas P ps → EachHas P (p ∷ ps)
unfolding EachHas
each-cons P p ps h hs zero q e = subst P (some_is p q e) h
each-cons P p ps h hs (suc n) q e = hs n q e

each-append : (P : Position → Type 0) (ps qs : List Position) → EachHas P ps → EachHas P qs → EachHas P (ps ++ qs)
unfolding EachHas
each-append P [] qs h k = k
each-append P (p ∷ ps) qs h k =
    each-cons P p (ps ++ qs) (h zero p refl) (each-append P ps qs (λ n. h (suc n)) k)

-- a container at a position is in these bytes, and has its header
HasPlace : List ℕ → Position → Type 0
HasPlace bytes p = (d : Frame) (es : Entries) → p.value ≡ opened d es → IsPartOf d.bytes bytes × IsWhole d

-- what is read is no container, or one that is in these bytes
abbrev ReadIn : List ℕ → Result JsonbValue Fault → Type 0
ReadIn bytes r = (c : Frame) → r ≡ Ok (nested c) → IsPartOf c.bytes bytes

unfolded_is : (fuel : ℕ) (r : Result JsonbValue Fault) (d : Frame) (es : Entries) → unfold_to fuel r ≡ opened d es → r ≡ Ok (nested d)
unfolding unfold_to
unfolded_is zero r d es h = absurd cc
unfolded_is (suc fuel) (Err f) d es h = absurd cc
unfolded_is (suc fuel) (Ok (scalar s)) d es h = absurd cc
unfolded_is (suc fuel) (Ok (nested c)) d es h = cc

entry_in_bytes : (bytes : List ℕ) (c : Frame) → IsPartOf c.bytes bytes → (j : ℕ) (d : Frame) → element_at c j ≡ Ok (nested d) → IsPartOf d.bytes bytes × IsWhole d
entry_in_bytes bytes c h j d e =
    let l = element_inside c j d e in
    (part_of_part d.bytes c.bytes bytes (offset_of c j, l.part) h, l.whole)

entries-have : (bytes : List ℕ) (fuel : ℕ) (c : Frame) → IsPartOf c.bytes bytes → ((r : Result JsonbValue Fault) (path : List ℕ) → ReadIn bytes r → EachHas (HasPlace bytes) (inside path (unfold_to fuel r)))
    → (k j i : ℕ) (path : List ℕ) → EachHas (HasPlace bytes) (inside_from path i (entries (entry_key c) (λ x. unfold_to fuel (element_at c x)) k j))
unfolding EachHas HasPlace
entries-have bytes fuel c h below zero j i path = each-nil (HasPlace bytes)
entries-have bytes fuel c h below (suc k) j i path =
    let value = unfold_to fuel (element_at c j) in
    each-cons (HasPlace bytes) (record { path = path ++ i ∷ []; key = entry_key c j; value = value }) _ (λ d es e. entry_in_bytes bytes c h j d (unfolded_is fuel (element_at c j) d es e))
    (each-append (HasPlace bytes) (inside (path ++ i ∷ []) value) _ (below (element_at c j) (path ++ i ∷ []) (λ d e. (entry_in_bytes bytes c h j d e).0)) (entries-have bytes fuel c h below k (suc j) (suc i) path))

inside-has : (bytes : List ℕ) (fuel : ℕ) (r : Result JsonbValue Fault) (path : List ℕ) → ReadIn bytes r → EachHas (HasPlace bytes) (inside path (unfold_to fuel r))
unfolding unfold_to EachHas
inside-has bytes zero r path h = each-nil (HasPlace bytes)
inside-has bytes (suc fuel) (Err f) path h = each-nil (HasPlace bytes)
inside-has bytes (suc fuel) (Ok (scalar s)) path h = each-nil (HasPlace bytes)
inside-has bytes (suc fuel) (Ok (nested c)) path h = entries-have bytes fuel c (h c refl) (inside-has bytes fuel) c.count 0 0 path

same_container : (c d : Frame) → done (nested c) ≡ done (nested d) → c ≡ d
same_container c d e = cc

root_is : (root d : Frame) (es : Entries) → document_of (Ok (nested root)) ≡ opened d es → root ≡ d
unfolding document_of
root_is root d es h =
    let e = unfolded_is (suc (size_of (Ok (nested root)))) (Ok (nested root)) d es h in
    cc

inner : (root : Frame) → EachHas (HasPlace root.bytes) (inside [] (document_of (Ok (nested root))))
unfolding document_of
inner root = inside-has root.bytes (suc (size_of (Ok (nested root)))) (Ok (nested root)) [] (λ c e. subst (λ (x : Frame). IsPartOf x.bytes root.bytes) (same_container root c e) (part_itself root.bytes))

pub in_root : ContainersAreInRoots
unfolding EachHas HasPlace
in_root root d es zero p h e =
    let is : document_of (Ok (nested root)) ≡ opened d es = ap (λ (q : Position). q.value) (some_is _ p h) ∙ e in
    subst (λ (x : Frame). IsPartOf x.bytes root.bytes) (root_is root d es is) (part_itself root.bytes)
in_root root d es (suc n) p h e = (inner root n p h d es e).0

pub inner_whole : InnerContainersAreWhole
unfolding EachHas HasPlace
inner_whole root d es zero p whole h e =
    let is : document_of (Ok (nested root)) ≡ opened d es = ap (λ (q : Position). q.value) (some_is _ p h) ∙ e in
    subst IsWhole (root_is root d es is) whole
inner_whole root d es (suc n) p whole h e = (inner root n p h d es e).1

-- ---- the root

spelled_fits : (t : JsonbType) (x : List ℕ) (v : JsonbValue) → (value t).spells x v → Fits x v
spelled_fits t x v h =
    subst (λ (y : List ℕ). Fits y v) (append-nil x) (value_fits t (x ++ []) v [] ((exact_value t).complete x [] v h))

root_found : (bytes : List ℕ) (root : Frame) → json.spells bytes (nested root) → IsPartOf root.bytes bytes × IsWhole root
unfolding json typed_value
root_found bytes root h =
    elim h [
      | inl none ↦ absurd cc
      | inr some ↦
          let n = some.1 in
          let t = n.5 in
          let v = t.5 in
          let is : nested root ≡ v.0 = v.5.5.1 in
          let f : Fits v.1 (nested root) = subst (Fits v.1) (sym is) (spelled_fits t.0 v.1 v.0 v.4) in
          let b = n.1 ++ t.1 in
          let a = f.0 ++ v.2 in
          let parts : n.1 ++ (t.1 ++ (root.bytes ++ f.0 ++ v.2)) ≡ b ++ root.bytes ++ a = simp append_assoc in
          let value : v.1 ++ v.2 ≡ root.bytes ++ f.0 ++ v.2 = ap (λ (r : List ℕ). r ++ v.2) f.1 in
          let typed : t.1 ++ t.2 ≡ t.1 ++ (root.bytes ++ f.0 ++ v.2) = ap (λ (r : List ℕ). t.1 ++ r) (v.3 ∙ value) in
          let whole : bytes ≡ n.1 ++ (t.1 ++ (root.bytes ++ f.0 ++ v.2)) = n.3 ∙ ap (λ (r : List ℕ). n.1 ++ r) (t.3 ∙ typed) in
          ((length b, (b, a, whole ∙ parts, refl)), f.2)
    ]

pub root_inside : RootsAreInDocuments
root_inside bytes root h = (root_found bytes root h).0

pub root_whole : RootsAreWhole
root_whole bytes root h = (root_found bytes root h).1

-- ---- headers

long : (is_array is_large : Bool) (n : ℕ) → 4 + 3 * n ≤ header_len is_array is_large n
long true true n = omega arith
long true false n = omega arith
long false true n = omega arith
long false false n = omega arith

pub headers_long : HeadersAreLong
headers_long c = long c.is_array c.is_large c.count

pub read_whole : ContainersAreWhole
unfolding container
read_whole a l bytes c h =
    subst IsWhole (sym h.0) (subst (λ (d : Frame). header_len a l d.count ≤ length bytes) h.0 h.2)
