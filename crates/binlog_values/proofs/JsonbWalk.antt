-- The steps of reading a document, as the code takes them.
use Rattle.std.proofs.Common.{◌≡◌, ℕ, suc, ◌+◌, ◌-◌, ◌<◌, ◌≤◌, add-one, Bool, true, false, List, [], ◌∷◌, ◌++◌, Result, Ok, Err, Global, String, string_bytes, string_cmp, Ordering, Less, Equal, Greater, refl, sym, ap, ◌∙◌, arith, rules}
use Rattle.std.specs.Prelude.{IsOk, ⊤}
use Rattle.std.specs.BTreeMap.{insert_entry}
use Rattle.std.specs.Ordering.{match_ordering}
use Rattle.std.specs.Str.{IsUtf8, is_utf8}
use Rattle.std.specs.Str.Lossy.{utf8_lossy}
use Rattle.std.proofs.lemmas.Bool.{le-ltb}
use Rattle.std.proofs.lemmas.Str.{is_utf8-from_IsUtf8, IsUtf8-from_is_utf8}
use Rattle.binlog_base.specs.declared.fault.Fault.{Fault}
use Rattle.binlog_base.specs.declared.fault.Fault.TheVariants.{InvalidUtf8, NestingTooDeep, TooManyValues}
use Rattle.binlog_values.specs.declared.jsonb.dom.JsonDom.{JsonDom, the_lemmas}
use Rattle.binlog_values.specs.declared.jsonb.dom.JsonDom.TheVariants as doms
use Rattle.binlog_values.specs.declared.jsonb.dom.JsonScalar.{JsonScalar}
use Rattle.binlog_values.specs.JsonbValues.{Scalar, Text, JsonbValue, scalar, nested, Frame, element_at}
use Rattle.binlog_values.specs.JsonbTrees.{TreeScalar, tree_scalar, text, text_scalar, entry_key, Tree, leaf, node, Branches, no_branches, branch, Data, plain, Items, no_items, item, Members, put, merged, merged_items, merged_into}
use Rattle.binlog_values.specs.JsonbDocuments.{entries_from, entries_of, document_of, in_limit, found}
use Rattle.binlog_values.specs.Workings.JsonbVisits.{Numbered, numbered, ◌>>-◌, visit, visits, append, with_front, IsEntryFault}
use Rattle.binlog_values.specs.JsonbDoms.{Meets, IsTree, IsScalarOf, IsChecked, scalar_view, dom_view, items_view, members_view}
use Rattle.binlog_values.specs.JsonbContainers.{IsScalar}
use Rattle.binlog_values.proofs.JsonbUnfolding.{document_is}

-- ---- text

pub text_is : (bytes : List ℕ) → IsUtf8 bytes → text_scalar bytes ≡ Ok (text bytes)
text_is bytes h = rw (is_utf8-from_IsUtf8 bytes h) refl

text_cases : (bytes : List ℕ) (b : Bool) → is_utf8 bytes ≡ b → (IsUtf8 bytes → ⊥) → b ≡ false
text_cases bytes true e h = absurd (h (IsUtf8-from_is_utf8 bytes e))
text_cases bytes false e h = refl

pub text_refused : (bytes : List ℕ) → (IsUtf8 bytes → ⊥) → text_scalar bytes ≡ Err InvalidUtf8
text_refused bytes h = rw (text_cases bytes (is_utf8 bytes) refl h) refl

pub checked_text : (bytes : List ℕ) → IsUtf8 bytes → IsOk (tree_scalar (Text bytes))
unfolding tree_scalar
checked_text bytes h = rw (text_is bytes h) refl

pub unchecked_text : (bytes : List ℕ) → (IsUtf8 bytes → ⊥) → tree_scalar (Text bytes) ≡ Err InvalidUtf8
unfolding tree_scalar
unchecked_text bytes h = text_refused bytes h

-- ---- one position

pub found_fault : (limit n : ℕ) (key : Result (List ℕ) Fault) (r : Result JsonbValue Fault) (f : Fault) → IsEntryFault f key r → found limit n key (document_of r) ≡ Err f
found_fault limit n (Err k) r f h = ap (λ (x : Fault). Err x) (sym h)
found_fault limit n (Ok k) r f h = rw (h, document_is (Err f)) refl

found_value : (limit n : ℕ) (k : List ℕ) (v : JsonbValue) → found limit n (Ok k) (document_of (Ok v)) ≡ in_limit limit n (Ok k)
found_value limit n k (scalar s) = rw (document_is (Ok (scalar s))) refl
found_value limit n k (nested c) = rw (document_is (Ok (nested c))) refl

pub found_over : (limit n : ℕ) (key : Result (List ℕ) Fault) (r : Result JsonbValue Fault) (k : List ℕ) (v : JsonbValue) → key ≡ Ok k → r ≡ Ok v → limit < n → found limit n key (document_of r) ≡ Err TooManyValues
found_over limit n key r k v e h lt = rw (e, h, found_value limit n k v) (grind arith)

pub found_within : (limit n : ℕ) (key : Result (List ℕ) Fault) (r : Result JsonbValue Fault) (k : List ℕ) (v : JsonbValue) → key ≡ Ok k → r ≡ Ok v → n ≤ limit → found limit n key (document_of r) ≡ Ok k
found_within limit n key r k v e h le = rw (e, h, found_value limit n k v, le-ltb limit n le) refl

-- ---- one value

pub visit-scalar : (limit levels n : ℕ) (s : Scalar) → visit limit levels n (document_of (Ok (scalar s))) ≡ numbered n (tree_scalar s >>- λ p. Ok (leaf p))
visit-scalar limit levels n s = rw (document_is (Ok (scalar s))) refl

pub visit-deep : (limit n : ℕ) (c : Frame) → visit limit 0 n (document_of (Ok (nested c))) ≡ Err (NestingTooDeep, n)
visit-deep limit n c = rw (document_is (Ok (nested c))) refl

pub visit-container : (limit levels n : ℕ) (c : Frame) → 0 < levels → visit limit levels n (document_of (Ok (nested c))) ≡ (visits limit (levels - 1) n (entries_of c) >>- λ bs. Ok (node c.is_array bs.0, bs.1))
visit-container limit levels n c lt =
    let one : levels ≡ suc (levels - 1) = omega arith in
    let inner : visit limit (suc (levels - 1)) n (document_of (Ok (nested c))) ≡ (visits limit (levels - 1) n (entries_of c) >>- λ bs. Ok (node c.is_array bs.0, bs.1)) = rw (document_is (Ok (nested c))) refl in
    ap (λ (v : ℕ). visit limit v n (document_of (Ok (nested c)))) one ∙ inner

pub dom-Scalar : (p : JsonScalar) → dom_view (doms.Scalar p) ≡ plain (scalar_view p)
dom-Scalar p = search (rules, the_lemmas)

-- ---- one entry after another

pub append-none : (bs : Branches) → append bs no_branches ≡ bs
append-none no_branches = refl
append-none (branch k t bs) = ap (branch k t) (append-none bs)

pub append-append : (xs ys zs : Branches) → append (append xs ys) zs ≡ append xs (append ys zs)
append-append no_branches ys zs = refl
append-append (branch k t xs) ys zs = ap (branch k t) (append-append xs ys zs)

regroup : (front : Branches) (k : List ℕ) (t : Tree) (r : Numbered Branches) → with_front front (r >>- λ bs. Ok (branch k t bs.0, bs.1)) ≡ with_front (append front (branch k t no_branches)) r
regroup front k t (Ok x) = ap (λ (bs : Branches). Ok (bs, x.1)) (sym (append-append front (branch k t no_branches) x.0))
regroup front k t (Err e) = refl

pub one_left : (count i : ℕ) → i < count → count - i ≡ suc (count - (i + 1))
one_left count i lt = omega arith

pub goes_on : (limit levels n after : ℕ) (c : Frame) (i : ℕ) (front : Branches) (k : List ℕ) (t : Tree) (m : ℕ) → i < c.count → after ≡ n + 1
    → found limit after (entry_key c i) (document_of (element_at c i)) ≡ Ok k → visit limit levels after (document_of (element_at c i)) ≡ Ok (t, m)
    → with_front front (visits limit levels n (entries_from c i (c.count - i))) ≡ with_front (append front (branch k t no_branches)) (visits limit levels m (entries_from c (i + 1) (c.count - (i + 1))))
goes_on limit levels n after c i front k t m lt next e h =
    let s : after ≡ suc n = omega arith in
    let e' : found limit (suc n) (entry_key c i) (document_of (element_at c i)) ≡ Ok k = rw (← s) e in
    let h' : visit limit levels (suc n) (document_of (element_at c i)) ≡ Ok (t, m) = rw (← s) h in
    rw (one_left c.count i lt, e', h', add-one) (regroup front k t (visits limit levels m (entries_from c (suc i) (c.count - suc i))))

pub refused : (limit levels n after : ℕ) (c : Frame) (i : ℕ) (front : Branches) (f : Fault) → i < c.count → after ≡ n + 1
    → found limit after (entry_key c i) (document_of (element_at c i)) ≡ Err f
    → with_front front (visits limit levels n (entries_from c i (c.count - i))) ≡ Err (f, after)
refused limit levels n after c i front f lt next e =
    let s : after ≡ suc n = omega arith in
    let e' : found limit (suc n) (entry_key c i) (document_of (element_at c i)) ≡ Err f = rw (← s) e in
    rw (one_left c.count i lt, s, e') refl

pub refused_inside : (limit levels n after : ℕ) (c : Frame) (i : ℕ) (front : Branches) (k : List ℕ) (f : Fault) (m : ℕ) → i < c.count → after ≡ n + 1
    → found limit after (entry_key c i) (document_of (element_at c i)) ≡ Ok k → visit limit levels after (document_of (element_at c i)) ≡ Err (f, m)
    → with_front front (visits limit levels n (entries_from c i (c.count - i))) ≡ Err (f, m)
refused_inside limit levels n after c i front k f m lt next e h =
    let s : after ≡ suc n = omega arith in
    let e' : found limit (suc n) (entry_key c i) (document_of (element_at c i)) ≡ Ok k = rw (← s) e in
    let h' : visit limit levels (suc n) (document_of (element_at c i)) ≡ Err (f, m) = rw (← s) h in
    rw (one_left c.count i lt, e', h') refl

pub is_done : (limit levels n : ℕ) (c : Frame) (i : ℕ) (front : Branches) → c.count ≤ i → with_front front (visits limit levels n (entries_from c i (c.count - i))) ≡ Ok (front, n)
is_done limit levels n c i front le =
    let k : c.count - i ≡ 0 = omega arith in
    rw k (ap (λ (bs : Branches). Ok (bs, n)) (append-none front))

-- ---- scalars

pub err_scalar : (limit levels n : ℕ) (r v : JsonbValue) (f : Fault) → v ≡ r → IsScalar v → IsScalarOf (Err f) v → Meets IsTree (Err f) n (visit limit levels n (document_of (Ok r)))
err_scalar limit levels n r (scalar s) f e h p =
    λ not. rw (← e, visit-scalar limit levels n s, p not) refl
err_scalar limit levels n r (nested c) f e h p = absurd h

pub ok_scalar : (limit levels n : ℕ) (r v : JsonbValue) (p : JsonScalar) → v ≡ r → IsScalar v → IsScalarOf (Ok p) v → Meets IsTree (Ok (doms.Scalar p)) n (visit limit levels n (document_of (Ok r)))
ok_scalar limit levels n r (scalar s) p e h is =
    (leaf (scalar_view p), dom-Scalar p, rw (← e, visit-scalar limit levels n s, is) refl)
ok_scalar limit levels n r (nested c) p e h is = absurd h

-- a scalar that was checked is one of a tree, or its fault is met
pub checked_scalar : (limit levels n : ℕ) (s : Scalar) (r : Result (Unit {0}) Fault) → IsChecked r (tree_scalar s) → Meets (λ u t. ⊤) r n (visit limit levels n (document_of (Ok (scalar s))))
checked_scalar limit levels n s (Ok u) is = by (tree_scalar s) refl is
  where
    by : (x : Result TreeScalar Fault) → tree_scalar s ≡ x → IsOk x → (t : Tree) × ⊤ × (visit limit levels n (document_of (Ok (scalar s))) ≡ Ok (t, n))
    by (Ok p) e ok = (leaf p, tt, rw (visit-scalar limit levels n s, e) refl)
    by (Err f) e ok = absurd (let bad : false ≡ true = ok in cc)
checked_scalar limit levels n s (Err f) is = λ not. rw (visit-scalar limit levels n s, is not) refl

-- ---- the entries

front_none : (r : Numbered Branches) → r ≡ with_front no_branches r
front_none (Ok x) = refl
front_none (Err e) = refl

pub starts : (limit levels n : ℕ) (c : Frame) → visits limit levels n (entries_of c) ≡ with_front no_branches (visits limit levels n (entries_from c 0 (c.count - 0)))
starts limit levels n c =
    let k : c.count - 0 ≡ c.count = omega arith in
    rw k (front_none (visits limit levels n (entries_of c)))

abbrev push : Items → Data → Items
push no_items d = item d no_items
push (item e ds) d = item e (push ds d)

items_view-append : (xs : List JsonDom) (d : JsonDom) → items_view (xs ++ d ∷ []) ≡ push (items_view xs) (dom_view d)
items_view-append [] d = refl
items_view-append (x ∷ xs) d = ap (item (dom_view x)) (items_view-append xs d)

merged_items-append : (front : Branches) (k : List ℕ) (t : Tree) → merged_items (append front (branch k t no_branches)) ≡ push (merged_items front) (merged t)
merged_items-append no_branches k t = refl
merged_items-append (branch l u front) k t = ap (item (merged u)) (merged_items-append front k t)

pub items_view-push : (xs : List JsonDom) (front : Branches) (d : JsonDom) (k : List ℕ) (t : Tree) → items_view xs ≡ merged_items front → dom_view d ≡ merged t → items_view (xs ++ d ∷ []) ≡ merged_items (append front (branch k t no_branches))
items_view-push xs front d k t e h = items_view-append xs d ∙ rw (e, h) (sym (merged_items-append front k t))

pub merged_into-append : (ms : Members) (front : Branches) (k : List ℕ) (t : Tree) → merged_into ms (append front (branch k t no_branches)) ≡ put (utf8_lossy k) (merged t) (merged_into ms front)
merged_into-append ms no_branches k t = refl
merged_into-append ms (branch l u front) k t = merged_into-append (put (utf8_lossy l) (merged u) ms) front k t

members_view-match : (o : Ordering) (a b c : List (String Global × JsonDom)) → members_view (match_ordering o a b c) ≡ match_ordering o (members_view a) (members_view b) (members_view c)
members_view-match Less a b c = refl
members_view-match Equal a b c = refl
members_view-match Greater a b c = refl

pub members_view-insert : (es : List (String Global × JsonDom)) (k : String Global) (d : JsonDom) → members_view (insert_entry string_cmp es k d) ≡ put (string_bytes k) (dom_view d) (members_view es)
members_view-insert [] k d = refl
members_view-insert (e ∷ es) k d = members_view-match (string_cmp k e.0) _ _ _ ∙ rw (members_view-insert es k d) refl
