-- Documents that are written from their bytes.
use Rattle.std.proofs.Common.{◌≡◌, ℕ, zero, suc, ◌+◌, ◌<◌, ◌≤◌, ℤ, List, [], ◌∷◌, ◌++◌, Result, Ok, Err, Ordering, Less, Equal, Greater, refl, sym, ap, subst, ◌∙◌, arith, add-zero}
use Rattle.std.specs.Prelude.{String, string_bytes, string_cmp, length, Bool, true, false, if◌then◌else◌}
use Rattle.std.specs.BTreeMap.{insert_entry}
use Rattle.std.specs.Ordering.{match_ordering}
use Rattle.std.specs.Str.Lossy.{utf8_lossy}
use Rattle.std.specs.declared.alloc.Global.{Global}
use Rattle.binlog_base.specs.declared.fault.Fault.{Fault}
use Rattle.binlog_values.specs.JsonbValues.{Frame, Scalar, Null, Boolean, I16, U16, I32, U32, I64, U64, F64, Text, JsonbValue, scalar, nested, element_at, key_at, count_in, is_array}
use Rattle.binlog_values.specs.JsonbTrees.{TreeScalar, null, boolean, int, uint, double, text, tree_scalar, entry_key, Tree, leaf, node, Branches, no_branches, branch, Data, plain, Members, no_members, member, put, merged, merged_items, merged_into, Denotes, DenoteFrom}
use Rattle.binlog_values.specs.JsonbDocuments.{size_of, depth, weight}
use Rattle.binlog_values.specs.JsonbContainers.{IsScalar}
use Rattle.binlog_values.specs.JsonbDoms.{dom_view, IsTree}
use Rattle.binlog_values.specs.JsonbParsed.{IsWithinLimits}
use Rattle.binlog_values.specs.declared.jsonb.dom.JsonDom.{JsonDom}
use Rattle.std.specs.Str.{is_utf8}
use Rattle.std.specs.Prelude.{Some, None, nat_lt, not, ◌&&◌, OnOk, IfErr}
use Rattle.std.proofs.lemmas.Bool.{lt-ltb}
use Rattle.binlog_base.specs.Items.{result_map}
use Rattle.binlog_values.specs.JsonbElements.{elem_in, key_in}
use Rattle.std.proofs.lemmas.Str.{IsUtf8-from_is_utf8, utf8_lossy-IsUtf8}
use Rattle.binlog_base.specs.declared.fault.Fault.TheVariants.{Memory, InvalidUtf8}
use Rattle.binlog_values.specs.Workings.JsonbVisits.{append}
use Rattle.binlog_values.proofs.JsonbUnfolding.{element_shorter, document_is}
use Rattle.binlog_values.proofs.JsonbWalk.{merged_into-append}
use Rattle.json.specs.Json as json
use Rattle.json.specs.Json.{Json}
use Rattle.json.specs.Token.{Token}
use Rattle.json.specs.Tree.{json_tokens}
use Rattle.json_line.specs.Written.{Written, Writes}
use Rattle.row_json.specs.Wrote.{Wrote, Named}
use Rattle.row_json.proofs.Steps.{token_wrote}
use Rattle.row_json.specs.Documents.{IsScalarJson, IsDataJson, AreItems, AreMembers}
use Rattle.row_json.specs.Workings.Walked.{OfValue, OfElement, OfEntries, OfKey, AreIndexed, WroteTree, IsMemory}

-- ---- the first entries

-- the first n entries
abbrev pub first_of : ℕ → Branches → Branches
first_of zero bs = no_branches
first_of (suc n) no_branches = no_branches
first_of (suc n) (branch key t bs) = branch key t (first_of n bs)

-- entry i of those that a container's entries denote: its key and its tree
pub record Nth (c : Frame) (bs : Branches) (k i : ℕ) : Type 0 where
  pub key : List ℕ
  pub tree : Tree
  pub is_key : entry_key c i ≡ Ok key
  pub denotes : Denotes tree (element_at c i)
  pub one_more : first_of (suc k) bs ≡ append (first_of k bs) (branch key tree no_branches)

nth_from : (k i : ℕ) (bs : Branches) (c : Frame) → DenoteFrom bs c i → i + k < c.count → Nth c bs k (i + k)
nth_from zero i no_branches c h lt = absurd (omega (arith, h, lt))
nth_from zero i (branch key t bs) c h lt =
    let at : i ≡ i + zero = sym (add-zero i) in
    record { key = key; tree = t; is_key = subst (λ (n : ℕ). entry_key c n ≡ Ok key) at h.1; denotes = subst (λ (n : ℕ). Denotes t (element_at c n)) at h.2; one_more = refl }
nth_from (suc k) i no_branches c h lt = absurd (omega (arith, h, lt))
nth_from (suc k) i (branch key t bs) c h lt =
    let r = nth_from k (suc i) bs c h.3 (omega (arith, lt)) in
    let at : suc i + k ≡ i + suc k = omega arith in
    record {
      key = r.key;
      tree = r.tree;
      is_key = subst (λ (n : ℕ). entry_key c n ≡ Ok r.key) at r.is_key;
      denotes = subst (λ (n : ℕ). Denotes r.tree (element_at c n)) at r.denotes;
      one_more = ap (branch key t) r.one_more;
    }

pub nth : (k : ℕ) (bs : Branches) (c : Frame) → DenoteFrom bs c 0 → k < c.count → Nth c bs k k
nth k bs c h lt =
    let at : 0 + k ≡ k = omega arith in
    subst (λ (i : ℕ). Nth c bs k i) at (nth_from k 0 bs c h (omega (arith, lt)))

all_from : (k i : ℕ) (bs : Branches) (c : Frame) → DenoteFrom bs c i → i + k ≡ c.count → first_of k bs ≡ bs
all_from zero i no_branches c h all = refl
all_from zero i (branch key t bs) c h all = absurd (omega (arith, h.0, all))
all_from (suc k) i no_branches c h all = absurd (omega (arith, h, all))
all_from (suc k) i (branch key t bs) c h all = ap (branch key t) (all_from k (suc i) bs c h.3 (omega (arith, all)))

pub all_of : (k : ℕ) (bs : Branches) (c : Frame) → DenoteFrom bs c 0 → k ≡ c.count → first_of k bs ≡ bs
all_of k bs c h all = all_from k 0 bs c h (omega (arith, all))

-- ---- items

pub items_more : (bs : Branches) (key : List ℕ) (t : Tree) (js : List Json) (j : Json) → AreItems (merged_items bs) js → IsDataJson (merged t) j → AreItems (merged_items (append bs (branch key t no_branches))) (js ++ j ∷ [])
items_more no_branches key t js j are is = (j, [], is, refl, ap (λ (l : List Json). l ++ j ∷ []) are)
items_more (branch k u bs) key t js j are is =
    (are.0, are.1 ++ j ∷ [], are.2, items_more bs key t are.1 j are.3 is, ap (λ (l : List Json). l ++ j ∷ []) are.4)

-- ---- members

abbrev pub Entry : Type 0
Entry = String Global × ℕ

-- members, and then one more
abbrev pub snoc : Members → List ℕ → Data → Members
snoc no_members k d = member k d no_members
snoc (member l e ms) k d = member l e (snoc ms k d)

pub members_more : (ms : Members) (k : List ℕ) (d : Data) (js : List Named) (j : Json) → AreMembers ms js → IsDataJson d j → AreMembers (snoc ms k d) (js ++ (k, j) ∷ [])
members_more no_members k d js j are is = (j, [], is, refl, ap (λ (l : List Named). l ++ (k, j) ∷ []) are)
members_more (member l e ms) k d js j are is =
    (are.0, are.1 ++ (k, j) ∷ [], are.2, members_more ms k d are.1 j are.3 is, ap (λ (l : List Named). l ++ (k, j) ∷ []) are.4)

-- the last one that is kept
pub record Last (c : Frame) (es : List Entry) (e : Entry) (ms : Members) : Type 0 where
  pub front : Members
  pub tree : Tree
  pub are : AreIndexed c es front
  pub within : e.1 < c.count
  pub denotes : Denotes tree (element_at c e.1)
  pub whole : ms ≡ snoc front (string_bytes e.0) (merged tree)

pub last : (c : Frame) (es : List Entry) (e : Entry) (ms : Members) → AreIndexed c (es ++ e ∷ []) ms → Last c es e ms
last c [] e no_members h = absurd h
last c [] e (member k d no_members) h =
    record { front = no_members; tree = h.2.0; are = tt; within = h.1; denotes = h.2.1; whole = ap (λ (b : List ℕ). member b d no_members) (sym h.0) ∙ ap (λ (x : Data). member (string_bytes e.0) x no_members) h.2.2 }
last c [] e (member k d (member l f ms)) h = absurd h.3
last c (x ∷ es) e no_members h = absurd h
last c (x ∷ es) e (member k d ms) h =
    let r = last c es e ms h.3 in
    record { front = member k d r.front; tree = r.tree; are = (h.0, h.1, h.2, r.are); within = r.within; denotes = r.denotes; whole = ap (member k d) r.whole }

kept_match : (c : Frame) (o : Ordering) (es fs gs : List Entry) (ms ns os : Members) → AreIndexed c es ms → AreIndexed c fs ns → AreIndexed c gs os → AreIndexed c (match_ordering o es fs gs) (match_ordering o ms ns os)
kept_match c Less es fs gs ms ns os x y z = x
kept_match c Equal es fs gs ms ns os x y z = y
kept_match c Greater es fs gs ms ns os x y z = z

-- one more is kept, in its place, or in that of an equal key
pub kept_more : (c : Frame) (es : List Entry) (name : String Global) (i : ℕ) (ms : Members) (t : Tree) → AreIndexed c es ms → i < c.count → Denotes t (element_at c i) → AreIndexed c (insert_entry string_cmp es name i) (put (string_bytes name) (merged t) ms)
kept_more c [] name i no_members t h lt den = (refl, lt, (t, den, refl), tt)
kept_more c [] name i (member k d ms) t h lt den = absurd h
kept_more c (e ∷ es) name i no_members t h lt den = absurd h
kept_more c (e ∷ es) name i (member k d ms) t h lt den =
    subst (λ (l : List ℕ). AreIndexed c (insert_entry string_cmp (e ∷ es) name i) (put (string_bytes name) (merged t) (member l d ms))) h.0
    (kept_match c (string_cmp name e.0) _ _ _ _ _ _ (refl, lt, (t, den, refl), (refl, h.1, h.2, h.3)) (refl, lt, (t, den, refl), h.3) (refl, h.1, h.2, kept_more c es name i ms t h.3 lt den))

-- the first entries of an object, of which one more is kept
pub kept_next : (c : Frame) (bs : Branches) (k : ℕ) (n : Nth c bs k k) (es : List Entry) (name : String Global) → AreIndexed c es (merged_into no_members (first_of k bs)) → k < c.count → string_bytes name ≡ utf8_lossy n.key
    → AreIndexed c (insert_entry string_cmp es name k) (merged_into no_members (first_of (suc k) bs))
kept_next c bs k n es name h lt named =
    let m = ap (merged_into no_members) n.one_more ∙ merged_into-append no_members (first_of k bs) n.key n.tree in
    subst (λ (x : Members). AreIndexed c (insert_entry string_cmp es name k) x) (sym m)
    (subst (λ (l : List ℕ). AreIndexed c (insert_entry string_cmp es name k) (put l (merged n.tree) (merged_into no_members (first_of k bs)))) named (kept_more c es name k (merged_into no_members (first_of k bs)) n.tree h lt n.denotes))

-- ---- the measure

-- an element is smaller than its container
pub smaller : (c : Frame) (i : ℕ) (v : JsonbValue) → element_at c i ≡ Ok v → size_of (Ok v) < size_of (Ok (nested c))
smaller c i v is =
    let le : size_of (Ok v) ≤ length c.bytes = subst (λ (r : Result JsonbValue Fault). size_of r ≤ length c.bytes) is (element_shorter c i) in
    omega (arith, le)

-- ---- scalars

-- what a scalar denotes: a leaf
pub leaf_of : (s : Scalar) (t : Tree) → Denotes t (Ok (scalar s)) → (p : TreeScalar) × (t ≡ leaf p) × (tree_scalar s ≡ Ok p)
leaf_of s (leaf p) h =
    let same : h.0 ≡ s = cc in
    (p, refl, subst (λ (x : Scalar). tree_scalar x ≡ Ok p) same h.2)
leaf_of s (node a bs) h = absurd cc

scalar_within : (s : Scalar) → IsWithinLimits (scalar s)
scalar_within s =
    let d = document_is (Ok (scalar s)) in
    (omega (arith, ap depth d), omega (arith, ap weight d))

text_cases : (bytes : List ℕ) (p : TreeScalar) (b : Bool) → is_utf8 bytes ≡ b → tree_scalar (Text bytes) ≡ Ok p → (p ≡ text bytes) × (utf8_lossy bytes ≡ bytes)
unfolding tree_scalar
text_cases bytes p true utf8 is =
    let got : Ok (text bytes) ≡ Ok p = subst (λ (b : Bool). (if b then Ok (text bytes) else Err InvalidUtf8) ≡ Ok p) utf8 is in
    let same : text bytes ≡ p = cc in
    (sym same, utf8_lossy-IsUtf8 bytes (IsUtf8-from_is_utf8 bytes utf8))
text_cases bytes p false utf8 is = absurd (let bad : Err InvalidUtf8 ≡ Ok p = subst (λ (b : Bool). (if b then Ok (text bytes) else Err InvalidUtf8) ≡ Ok p) utf8 is in cc)

-- a string was written
pub wrote_string : (bytes : List ℕ) (v : JsonbValue) (old new : Written) → v ≡ scalar (Text bytes) → Wrote (λ j. j ≡ json.string (utf8_lossy bytes)) old new → OfValue v (WroteTree old new)
wrote_string bytes v old new is w = λ t denoted.
    let l = leaf_of (Text bytes) t (subst (λ (x : JsonbValue). Denotes t (Ok x)) is denoted) in
    let s = text_cases bytes l.0 (is_utf8 bytes) refl l.2 in
    subst (λ (x : Tree). Wrote (IsDataJson (merged x)) old new) (sym (l.1 ∙ ap leaf s.0))
    (record { value = w.value; is = w.is ∙ ap json.string s.1; adds = w.adds })

-- a scalar that has this in its tree was written
pub wrote_plain : (s : Scalar) (p : TreeScalar) (v : JsonbValue) (old new : Written) → v ≡ scalar s → tree_scalar s ≡ Ok p → Wrote (IsScalarJson p) old new → OfValue v (WroteTree old new)
wrote_plain s p v old new is plainly wrote = λ t denoted.
    let l = leaf_of s t (subst (λ (x : JsonbValue). Denotes t (Ok x)) is denoted) in
    let same : p ≡ l.0 = cc in
    subst (λ (x : Tree). Wrote (IsDataJson (merged x)) old new) (sym (l.1 ∙ ap leaf (sym same))) wrote

-- the same for one that is a single token
pub wrote_token : {E : Type 0} {r : Unit {0}} (s : Scalar) (p : TreeScalar) (v : JsonbValue) (old new : Written) (token : Token) (j : Json) → v ≡ scalar s → tree_scalar s ≡ Ok p → json_tokens j ≡ token ∷ [] → Writes {E = E} (Ok r) old new token → IsScalarJson p j → OfValue v (WroteTree old new)
wrote_token {r = r} s p v old new token j is plainly one wrote shown = wrote_plain s p v old new is plainly (token_wrote (Ok r) old new token j (IsScalarJson p) one wrote shown)

-- what the plain scalars are in a tree
pub of_null : tree_scalar Null ≡ Ok null
unfolding tree_scalar
of_null = refl

pub of_boolean : (b : Bool) → tree_scalar (Boolean b) ≡ Ok (boolean b)
unfolding tree_scalar
of_boolean b = refl

pub of_i16 : (n : ℤ) → tree_scalar (I16 n) ≡ Ok (int n)
unfolding tree_scalar
of_i16 n = refl

pub of_u16 : (n : ℕ) → tree_scalar (U16 n) ≡ Ok (uint n)
unfolding tree_scalar
of_u16 n = refl

pub of_i32 : (n : ℤ) → tree_scalar (I32 n) ≡ Ok (int n)
unfolding tree_scalar
of_i32 n = refl

pub of_u32 : (n : ℕ) → tree_scalar (U32 n) ≡ Ok (uint n)
unfolding tree_scalar
of_u32 n = refl

pub of_i64 : (n : ℤ) → tree_scalar (I64 n) ≡ Ok (int n)
unfolding tree_scalar
of_i64 n = refl

pub of_u64 : (n : ℕ) → tree_scalar (U64 n) ≡ Ok (uint n)
unfolding tree_scalar
of_u64 n = refl

pub of_f64 : (bits : ℕ) → tree_scalar (F64 bits) ≡ Ok (double bits)
unfolding tree_scalar
of_f64 bits = refl

-- a scalar's tree was written
pub wrote_leaf : (v : JsonbValue) (dom : JsonDom) (old new : Written) → IsScalar v → ((t : Tree) → Denotes t (Ok v) → IsWithinLimits v → IsTree dom t) → ((s : TreeScalar) → dom_view dom ≡ plain s → Wrote (IsScalarJson s) old new) → OfValue v (WroteTree old new)
wrote_leaf (nested c) dom old new single given wrote = absurd single
wrote_leaf (scalar s) dom old new single given wrote = λ t denoted.
    let l = leaf_of s t denoted in
    let is : dom_view dom ≡ plain l.0 = given t denoted (scalar_within s) ∙ ap merged l.1 in
    subst (λ (x : Tree). Wrote (IsDataJson (merged x)) old new) (sym l.1) (wrote l.0 is)

-- a scalar can't be read only for want of memory
pub refused_leaf : (v : JsonbValue) (f : Fault) → IsScalar v → ((t : Tree) → Denotes t (Ok v) → IsWithinLimits v → f ≡ Memory) → OfValue v (λ t. IsMemory f)
refused_leaf (nested c) f single given = absurd single
refused_leaf (scalar s) f single given = λ t denoted. given t denoted (scalar_within s)

-- ---- keys and elements by their indexes

pick_key : (a b : Bool) (r : Result (List ℕ) Fault) (key : List ℕ) → a ≡ false → b ≡ true → r ≡ Ok key → (if not a && b then result_map Some r else Ok None) ≡ Ok (Some key)
pick_key false true r key x y e = ap (result_map Some) e
pick_key true b r key x y e = absurd cc
pick_key false false r key x y e = absurd cc

pick_element : (b : Bool) (r : Result JsonbValue Fault) (u : JsonbValue) → b ≡ true → r ≡ Ok u → (if b then result_map Some r else Ok None) ≡ Ok (Some u)
pick_element true r u x e = ap (result_map Some) e
pick_element false r u x e = absurd cc

-- the key that an object has at an index
pub key_is : (v : JsonbValue) (i : ℕ) (c : Frame) (key : List ℕ) → v ≡ nested c → c.is_array ≡ false → i < c.count → entry_key c i ≡ Ok key → key_in v i ≡ Ok (Some key)
key_is v i c key is flat lt found =
    let there : key_at c i ≡ Ok key = subst (λ (b : Bool). (if b then Ok [] else key_at c i) ≡ Ok key) flat found in
    ap (λ (x : JsonbValue). key_in x i) is ∙ pick_key c.is_array (nat_lt i c.count) (key_at c i) key flat (lt-ltb i c.count lt) there

pub key_of : (v : JsonbValue) (i : ℕ) (k : List ℕ) (P : List ℕ → Type 0) → Ok (Some k) ≡ key_in v i → P k → OfKey v i P
key_of v i k P e holds = λ c is flat lt key found.
    let both : Ok (Some k) ≡ Ok (Some key) = e ∙ key_is v i c key is flat lt found in
    let same : k ≡ key = cc in
    subst P same holds

-- what the element at an index denotes
denoted_value : (t : Tree) (r : Result JsonbValue Fault) → Denotes t r → (v : JsonbValue) × (r ≡ Ok v)
denoted_value (leaf p) r h = (scalar h.0, h.1)
denoted_value (node a bs) r h = (nested h.0, h.1)

-- the element that a container has at an index
pub element_is : (v : JsonbValue) (i : ℕ) (c : Frame) (t : Tree) → v ≡ nested c → i < c.count → Denotes t (element_at c i) → (u : JsonbValue) × (elem_in v i ≡ Ok (Some u)) × Denotes t (Ok u) × (element_at c i ≡ Ok u)
element_is v i c t is lt denoted =
    let u = denoted_value t (element_at c i) denoted in
    (u.0, ap (λ (x : JsonbValue). elem_in x i) is ∙ pick_element (nat_lt i c.count) (element_at c i) u.0 (lt-ltb i c.count lt) u.1, subst (λ (r : Result JsonbValue Fault). Denotes t r) u.1 denoted, u.1)

pub no_element_fault : (v : JsonbValue) (i : ℕ) (f : Fault) → Err f ≡ elem_in v i → OfElement v i (λ t. IsMemory f)
no_element_fault v i f e = λ c is lt t denoted.
    let u = element_is v i c t is lt denoted in
    absurd (let bad : Err f ≡ Ok (Some u.0) = e ∙ u.1 in cc)

-- an element that is there is smaller than what it is in
pub smaller_element : (v u : JsonbValue) (i : ℕ) → Ok (Some u) ≡ elem_in v i → size_of (Ok u) < size_of (Ok v)
smaller_element (scalar s) u i e = absurd cc
smaller_element (nested c) u i e = by (element_at c i) (nat_lt i c.count) refl refl e
  where
    by : (r : Result JsonbValue Fault) (b : Bool) → element_at c i ≡ r → nat_lt i c.count ≡ b → Ok (Some u) ≡ (if b then result_map Some r else Ok None) → size_of (Ok u) < size_of (Ok (nested c))
    by (Ok w) true is lt same = let here : w ≡ u = cc in smaller c i u (is ∙ ap (λ (x : JsonbValue). Ok x) here)
    by (Err f) true is lt same = absurd cc
    by r false is lt same = absurd cc

pub on_ok : {A E : Type 0} (r : Result A E) (P Q : Type 0) → (P → Q) → OnOk r P → OnOk r Q
on_ok (Ok a) P Q to h = to h
on_ok (Err e) P Q to h = tt

pub on_err : {A E : Type 0} (r : Result A E) (P Q : E → Type 0) → ((e : E) → P e → Q e) → IfErr r P → IfErr r Q
on_err (Ok a) P Q to h = tt
on_err (Err e) P Q to h = to e h

-- ---- containers

-- what holds of a container's entries holds of its tree
pub container_value : (v : JsonbValue) (count : ℕ) (b : Bool) (P : Tree → Type 0) → count_in v ≡ Some count → is_array v ≡ b → OfEntries v count (λ c bs. c.is_array ≡ b → P (node b bs)) → OfValue v P
container_value (scalar s) count b P some is h = λ t denoted. absurd cc
container_value (nested c) count b P some is h = by
  where
    by : (t : Tree) → Denotes t (Ok (nested c)) → P t
    by (leaf p) denoted = absurd (let bad : Ok (nested c) ≡ Ok (scalar denoted.0) = denoted.1 in cc)
    by (node a bs) denoted =
        let both : Ok (nested c) ≡ Ok (nested denoted.0) = denoted.1 in
        let same : denoted.0 ≡ c = cc in
        let kind : b ≡ a = sym is ∙ (ap (λ (x : Frame). x.is_array) (sym same) ∙ denoted.2) in
        let all : count ≡ c.count = cc in
        subst (λ (d : Bool). P (node d bs)) kind (h c refl all bs (subst (λ (x : Frame). DenoteFrom bs x 0) same denoted.3) is)

-- one of the entries that are kept
pub kept_at : (c : Frame) (es : List Entry) (e : Entry) (fs : List Entry) (ms : Members) → AreIndexed c (es ++ e ∷ fs) ms → (e.1 < c.count) × ((t : Tree) × Denotes t (element_at c e.1))
kept_at c [] e fs no_members h = absurd h
kept_at c [] e fs (member k d ms) h = (h.1, (h.2.0, h.2.1))
kept_at c (x ∷ es) e fs no_members h = absurd h
kept_at c (x ∷ es) e fs (member k d ms) h = kept_at c es e fs ms h.3
