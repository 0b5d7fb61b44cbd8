-- How many rows of each table were counted.
use Rattle.std.proofs.Common.{◌≡◌, ◌<◌, ◌≤◌, ◌+◌, ℕ, Bool, true, false, ◌⊎◌, inl, inr, List, [], ◌∷◌, ◌++◌, map, length, cond, if◌then◌else◌, codes, Option, Some, None, Result, Ok, Err, refl, sym, ap, subst, ◌∙◌, arith, append_assoc}
use Rattle.std.specs.Prelude.{◌&&◌, ◌||◌, not, bytes_eq, MatchOption, OnOk}
use Rattle.std.specs.declared.cmp.Ordering.{Ordering}
use Rattle.std.specs.declared.cmp.Ordering.TheVariants.{Less, Equal, Greater}
use Rattle.std.specs.Ordering.{is_eq, nat_cmp, ordering_then, match_ordering}
use Rattle.std.specs.Cmp.Lexicographic.{slice_cmp, bytes_decides, nat_list_eq_equiv}
use Rattle.std.specs.List.{AllByRecursion, list_any, sum_by, flat_map}
use Rattle.std.specs.List.Sorted.{IsStrictlySortedBy}
use Rattle.std.specs.Map.{lookup, values_of}
use Rattle.std.specs.Option.{is_some, unwrap_or}
use Rattle.std.specs.BTreeMap.{insert_entry}
use Rattle.std.specs.Io.KnownBytes.{Appends, Keeps}
use Rattle.std.proofs.KnownBytes.{Appends-nil, Appends-trans, Appends-kept}
use Rattle.std.proofs.lemmas.List.{flat_map_more, map-append}
use Rattle.std.proofs.lemmas.List.Sums.{sum_by_push, sum_by-cons}
use Rattle.std.proofs.lemmas.Map.Text.{is_eq-slice_cmp}
use Rattle.changed_rows.specs.declared.filter.Operation.{Operation}
use Rattle.changed_rows.specs.declared.filter.Operation.TheVariants as operation
use Rattle.changed_rows.specs.declared.count.Changed.{Changed}
use Rattle.changed_rows.specs.declared.count.TableName.{TableName}
use Rattle.changed_rows.specs.declared.count.Counts.{Counts}
use Rattle.changed_rows.specs.contracts.count.TableNameOrd.TheImpl as name_ord
use Rattle.changed_rows.specs.Names.{up_to_most}
use Rattle.changed_rows.specs.Counted.{nothing, plus, added, Name, same_name, name_of, name_order, Counted, inserted_in, updated_in, deleted_in, changed_where, counted_of, has_rows, IsLeftOut, AreCounts, name_text, numbers_text, sum_of, is_nothing, head_text, others_text}

-- ---- names

and_left : (x y : Bool) → (x && y) ≡ true → x ≡ true
and_left true y h = refl
and_left false y h = absurd cc

and_right : (x y : Bool) → (x && y) ≡ true → y ≡ true
and_right true y h = h
and_right false y h = absurd cc

-- names that compare as equal are the same
pub names_equal : (a b : Name) → same_name a b ≡ true → a ≡ b
names_equal a b h =
    let first : a.0 ≡ b.0 = (bytes_decides a.0 b.0).0 (and_left _ _ h) in
    let second : a.1 ≡ b.1 = (bytes_decides a.1 b.1).0 (and_right (bytes_eq a.0 b.0) _ h) in
    ap (λ (x : List ℕ). (x, a.1)) first ∙ ap (λ (y : List ℕ). (b.0, y)) second

pub names_same : (a b : Name) → a ≡ b → same_name a b ≡ true
names_same a b h =
    let first : bytes_eq a.0 b.0 ≡ true = (bytes_decides a.0 b.0).1 (ap (λ (n : Name). n.0) h) in
    let second : bytes_eq a.1 b.1 ≡ true = (bytes_decides a.1 b.1).1 (ap (λ (n : Name). n.1) h) in
    rw (first, second) refl

names_turned : (a b : Name) → same_name a b ≡ same_name b a
names_turned a b = rw (nat_list_eq_equiv.symm a.0 b.0, nat_list_eq_equiv.symm a.1 b.1) refl

both_equal : (o p : Ordering) → is_eq (ordering_then o p) ≡ (is_eq o && is_eq p)
both_equal Less p = refl
both_equal Equal p = refl
both_equal Greater p = refl

abbrev compared : TableName → TableName → Ordering
compared = (name_ord.ghosts).cmp

compares : (a b : TableName) → is_eq (compared a b) ≡ same_name (name_of a) (name_of b)
compares a b =
    both_equal (slice_cmp nat_cmp a.database.items b.database.items) (slice_cmp nat_cmp a.table.items b.table.items)
    ∙ ap (λ (x : Bool). x && is_eq (slice_cmp nat_cmp a.table.items b.table.items)) (is_eq-slice_cmp a.database.items b.database.items)
    ∙ ap (λ (x : Bool). bytes_eq a.database.items b.database.items && x) (is_eq-slice_cmp a.table.items b.table.items)

-- ---- the entries

abbrev has : Name → TableName → Bool
has q n = same_name q (name_of n)

lookup_same : {K X : Type 0} (t u : K → Bool) → ((k : K) → t k ≡ u k) → (es : List (K × X)) → lookup t es ≡ lookup u es
lookup_same t u same [] = refl
lookup_same t u same (e ∷ es) = rw (same e.0, lookup_same t u same es) refl

-- what a look-up of a name finds
pub found : (n : TableName) (es : List (TableName × Changed)) → lookup (λ k. is_eq (compared n k)) es ≡ lookup (has (name_of n)) es
found n es = lookup_same (λ k. is_eq (compared n k)) (has (name_of n)) (compares n) es

any_same : {K : Type 0} (t u : K → Bool) → ((k : K) → t k ≡ u k) → (ks : List K) → list_any t ks ≡ list_any u ks
any_same t u same [] = refl
any_same t u same (k ∷ ks) = rw (same k, any_same t u same ks) refl

-- whether a name is one of those of a set
pub listed : (n : TableName) (ns : List TableName) → list_any (λ k. is_eq (compared n k)) ns ≡ list_any (has (name_of n)) ns
listed n ns = any_same (λ k. is_eq (compared n k)) (has (name_of n)) (compares n) ns

cond_twice : {X : Type 0} (b : Bool) (x y z : X) → cond b x z ≡ cond b x (cond b y z)
cond_twice true x y z = refl
cond_twice false x y z = refl

cond_apart : {X : Type 0} (a b : Bool) (x y z w : X) → (a ≡ true → b ≡ true → ⊥) → w ≡ cond b y z → cond a x w ≡ cond b y (cond a x z)
cond_apart true true x y z w not h = absurd (not refl refl)
cond_apart true false x y z w not h = refl
cond_apart false b x y z w not h = h

insert_one : (o : Ordering) (q : Name) (k : TableName) (v : Changed) (e : TableName × Changed) (es more : List (TableName × Changed)) → compared k e.0 ≡ o
    → lookup (has q) more ≡ cond (has q k) (Some v) (lookup (has q) es)
    → lookup (has q) (match_ordering o ((k, v) ∷ e ∷ es) ((e.0, v) ∷ es) (e ∷ more)) ≡ cond (has q k) (Some v) (lookup (has q) (e ∷ es))
insert_one Less q k v e es more is h = refl
insert_one Equal q k v e es more is h =
    let same : name_of k ≡ name_of e.0 = names_equal _ _ (sym (compares k e.0) ∙ ap is_eq is) in
    let at : has q e.0 ≡ has q k = ap (λ (n : Name). same_name q n) (sym same) in
    ap (λ (b : Bool). cond b (Some v) (lookup (has q) es)) at ∙ cond_twice (has q k) (Some v) (Some e.1) (lookup (has q) es)
    ∙ ap (λ (b : Bool). cond (has q k) (Some v) (cond b (Some e.1) (lookup (has q) es))) (sym at)
insert_one Greater q k v e es more is h =
    cond_apart (has q e.0) (has q k) (Some e.1) (Some v) (lookup (has q) es) (lookup (has q) more)
    (λ there here.
    let same : name_of k ≡ name_of e.0 = sym (names_equal q (name_of k) here) ∙ names_equal q (name_of e.0) there in
    let bad : true ≡ false = sym (names_same _ _ same) ∙ sym (compares k e.0) ∙ ap is_eq is in
    absurd cc)
    h

-- what a look-up finds after an entry was inserted
pub inserted : (q : Name) (k : TableName) (v : Changed) (es : List (TableName × Changed)) → lookup (has q) (insert_entry compared es k v) ≡ cond (has q k) (Some v) (lookup (has q) es)
inserted q k v [] = refl
inserted q k v (e ∷ es) = insert_one (compared k e.0) q k v e es (insert_entry compared es k v) refl (inserted q k v es)

-- ---- sums

abbrev picked : (Name → Bool) → (Operation → ℕ → ℕ) → Counted → ℕ
picked test rows x = if test x.name then rows x.operation x.rows else 0

sum_one : (test : Name → Bool) (rows : Operation → ℕ → ℕ) (xs : List Counted) (x : Counted) → test x.name ≡ true → sum_by (picked test rows) (xs ++ x ∷ []) ≡ sum_by (picked test rows) xs + rows x.operation x.rows
sum_one test rows xs x h = sum_by_push (picked test rows) xs x ∙ ap (λ (b : Bool). sum_by (picked test rows) xs + (if b then rows x.operation x.rows else 0)) h

sum_none : (test : Name → Bool) (rows : Operation → ℕ → ℕ) (xs : List Counted) (x : Counted) → test x.name ≡ false → sum_by (picked test rows) (xs ++ x ∷ []) ≡ sum_by (picked test rows) xs + 0
sum_none test rows xs x h = sum_by_push (picked test rows) xs x ∙ ap (λ (b : Bool). sum_by (picked test rows) xs + (if b then rows x.operation x.rows else 0)) h

up_more : (s n t : ℕ) → t ≡ s + n → up_to_most (up_to_most s + n) ≡ up_to_most t
up_more s n t h = omega (arith, h)

up_same : (s t : ℕ) → t ≡ s + 0 → up_to_most s ≡ up_to_most t
up_same s t h = omega (arith, h)

numbers : (i j u v d e : ℕ) → i ≡ j → u ≡ v → d ≡ e → (let a : Changed = record { inserted = i; updated = u; deleted = d } in a) ≡ record { inserted = j; updated = v; deleted = e }
numbers i j u v d e p q r = cc

-- what rows of an operation add
in_sum : (test : Name → Bool) (rows : Operation → ℕ → ℕ) (xs : List Counted) (x : Counted) (o : Operation) → test x.name ≡ true → x.operation ≡ o → sum_by (picked test rows) (xs ++ x ∷ []) ≡ sum_by (picked test rows) xs + rows o x.rows
in_sum test rows xs x o h is = subst (λ (p : Operation). sum_by (picked test rows) (xs ++ x ∷ []) ≡ sum_by (picked test rows) xs + rows p x.rows) is (sum_one test rows xs x h)

-- rows of a table that passes a test are added
one_more : (test : Name → Bool) (xs : List Counted) (x : Counted) → test x.name ≡ true → added x.operation x.rows (changed_where test xs) ≡ changed_where test (xs ++ x ∷ [])
one_more test xs x h = more x.operation refl
  where
    adds : (rows : Operation → ℕ → ℕ) (o : Operation) → x.operation ≡ o → sum_by (picked test rows) (xs ++ x ∷ []) ≡ sum_by (picked test rows) xs + rows o x.rows
    adds rows o is = in_sum test rows xs x o h is

    more : (o : Operation) → x.operation ≡ o → added o x.rows (changed_where test xs) ≡ changed_where test (xs ++ x ∷ [])
    more operation.Insert is = numbers _ _ _ _ _ _ (up_more _ x.rows _ (adds inserted_in _ is)) (up_same _ _ (adds updated_in _ is)) (up_same _ _ (adds deleted_in _ is))
    more operation.Update is = numbers _ _ _ _ _ _ (up_same _ _ (adds inserted_in _ is)) (up_more _ x.rows _ (adds updated_in _ is)) (up_same _ _ (adds deleted_in _ is))
    more operation.Delete is = numbers _ _ _ _ _ _ (up_same _ _ (adds inserted_in _ is)) (up_same _ _ (adds updated_in _ is)) (up_more _ x.rows _ (adds deleted_in _ is))

-- rows of any other table are not
none_more : (test : Name → Bool) (xs : List Counted) (x : Counted) → test x.name ≡ false → changed_where test xs ≡ changed_where test (xs ++ x ∷ [])
none_more test xs x h = numbers _ _ _ _ _ _ (up_same _ _ (sum_none test inserted_in xs x h)) (up_same _ _ (sum_none test updated_in xs x h)) (up_same _ _ (sum_none test deleted_in xs x h))

or_left : (x y : Bool) → (x || y) ≡ false → x ≡ false
or_left false y h = refl
or_left true y h = absurd cc

or_true : (x y : Bool) → y ≡ true → (x || y) ≡ true
or_true true y h = refl
or_true false y h = h

or_still : (x y z : Bool) → (x || y) ≡ true → (y ≡ true → z ≡ true) → (x || z) ≡ true
or_still true y z h f = refl
or_still false y z h f = f h

or_right : (x y : Bool) → (x || y) ≡ false → y ≡ false
or_right false y h = h
or_right true y h = absurd cc

-- rows of two tests, of which a table that has no rows alone passes one
sum_like : (name : Name) (t u : Name → Bool) (rows : Operation → ℕ → ℕ) → ((r : Name) → same_name name r ≡ false → t r ≡ u r) → (xs : List Counted) → has_rows name xs ≡ false → sum_by (picked t rows) xs ≡ sum_by (picked u rows) xs
sum_like name t u rows same [] none = refl
sum_like name t u rows same (x ∷ xs) none =
    let here : t x.name ≡ u x.name = same x.name (or_left _ _ none) in
    let more = sum_like name t u rows same xs (or_right (same_name name x.name) _ none) in
    sum_by-cons (picked t rows) x xs ∙ rw (here, more) (sym (sum_by-cons (picked u rows) x xs))

like_where : (name : Name) (t u : Name → Bool) → ((r : Name) → same_name name r ≡ false → t r ≡ u r) → (xs : List Counted) → has_rows name xs ≡ false → changed_where t xs ≡ changed_where u xs
like_where name t u same xs none = numbers _ _ _ _ _ _ (ap up_to_most (sum_like name t u inserted_in same xs none)) (ap up_to_most (sum_like name t u updated_in same xs none)) (ap up_to_most (sum_like name t u deleted_in same xs none))

sum_equal : (t u : Name → Bool) (rows : Operation → ℕ → ℕ) → ((r : Name) → t r ≡ u r) → (xs : List Counted) → sum_by (picked t rows) xs ≡ sum_by (picked u rows) xs
sum_equal t u rows same [] = refl
sum_equal t u rows same (x ∷ xs) =
    let here : t x.name ≡ u x.name = same x.name in
    let more = sum_equal t u rows same xs in
    sum_by-cons (picked t rows) x xs ∙ rw (here, more) (sym (sum_by-cons (picked u rows) x xs))

equal_where : (t u : Name → Bool) → ((r : Name) → t r ≡ u r) → (xs : List Counted) → changed_where t xs ≡ changed_where u xs
equal_where t u same xs = numbers _ _ _ _ _ _ (ap up_to_most (sum_equal t u inserted_in same xs)) (ap up_to_most (sum_equal t u updated_in same xs)) (ap up_to_most (sum_equal t u deleted_in same xs))

sum_absent : (name : Name) (rows : Operation → ℕ → ℕ) (xs : List Counted) → has_rows name xs ≡ false → sum_by (picked (same_name name) rows) xs ≡ 0
sum_absent name rows [] none = refl
sum_absent name rows (x ∷ xs) none =
    let here : same_name name x.name ≡ false = or_left _ _ none in
    let more = sum_absent name rows xs (or_right (same_name name x.name) _ none) in
    sum_by-cons (picked (same_name name) rows) x xs ∙ rw (here, more) refl

-- a table without rows has the numbers of nothing
absent_where : (name : Name) (xs : List Counted) → has_rows name xs ≡ false → nothing ≡ changed_where (same_name name) xs
absent_where name xs none =
    numbers _ _ _ _ _ _ (sym (ap up_to_most (sum_absent name inserted_in xs none))) (sym (ap up_to_most (sum_absent name updated_in xs none))) (sym (ap up_to_most (sum_absent name deleted_in xs none)))

-- ---- what is counted

-- the table of rows has rows
has_here : (name : Name) (front : List Counted) (x : Counted) (rest : List Counted) → same_name name x.name ≡ true → has_rows name (front ++ x ∷ rest) ≡ true
has_here name [] x rest here = rw here refl
has_here name (y ∷ ys) x rest here = or_true (same_name name y.name) (has_rows name (ys ++ x ∷ rest)) (has_here name ys x rest here)

has_last : (name : Name) (xs : List Counted) (x : Counted) → same_name name x.name ≡ true → has_rows name (xs ++ x ∷ []) ≡ true
has_last name xs x here = has_here name xs x [] here

still_rows : (name : Name) (xs ys : List Counted) → has_rows name xs ≡ true → has_rows name (xs ++ ys) ≡ true
still_rows name [] ys has = absurd cc
still_rows name (x ∷ xs) ys has = or_still (same_name name x.name) (has_rows name xs) (has_rows name (xs ++ ys)) has (λ h. still_rows name xs ys h)

-- a list with one element more, cut before an element: at the last one, or before it
cut_at : (front : List Counted) (x : Counted) (rest xs : List Counted) (y : Counted) → xs ++ y ∷ [] ≡ front ++ x ∷ rest → ((xs ≡ front) × (y ≡ x)) ⊎ ((more : List Counted) × (xs ≡ front ++ x ∷ more))
cut_at [] x rest [] y e = let same : y ≡ x = cc in inl (refl, same)
cut_at [] x rest (a ∷ more) y e = let same : a ≡ x = cc in inr (more, ap (λ (z : Counted). z ∷ more) same)
cut_at (b ∷ []) x rest [] y e = absurd cc
cut_at (b ∷ c ∷ cs) x rest [] y e = absurd cc
cut_at (b ∷ bs) x rest (a ∷ more) y e =
    let head : a ≡ b = cc in
    let tail : more ++ y ∷ [] ≡ bs ++ x ∷ rest = cc in
    elim (cut_at bs x rest more y tail) [
      | inl h ↦ inl (ap (λ (z : Counted). z ∷ more) head ∙ ap (λ (l : List Counted). b ∷ l) h.0, h.1)
      | inr h ↦ inr (h.0, ap (λ (z : Counted). z ∷ more) head ∙ ap (λ (l : List Counted). b ∷ l) h.1)
    ]

none_of_more : (name : Name) (xs : List Counted) (x : Counted) → has_rows name xs ≡ false → same_name name x.name ≡ false → has_rows name (xs ++ x ∷ []) ≡ false
none_of_more name [] x none here = rw here refl
none_of_more name (y ∷ ys) x none here =
    let first : same_name name y.name ≡ false = or_left _ _ none in
    let more = none_of_more name ys x (or_right (same_name name y.name) _ none) here in
    rw (first, more) refl

-- What was counted before the rows of a table: if as many tables as can be are counted apart, this is one of them.
abbrev pub HasRoom : Counts → Counts → Name → Type 0
HasRoom old new name = length old.tables.entries ≡ 65536 → (is_some (counted_of old name) ≡ true) × (length new.tables.entries ≡ 65536)

-- the numbers of a table before its rows are added
before : (xs : List Counted) (name : Name) (o : Option Changed) (full : Type 0) → MatchOption o ((has_rows name xs ≡ false) ⊎ full) (λ changed. (has_rows name xs ≡ true) × (changed ≡ changed_where (same_name name) xs)) → (full → is_some o ≡ true) → unwrap_or o nothing ≡ changed_where (same_name name) xs
before xs name None full h room = elim h [ inl none ↦ absent_where name xs none | inr is ↦ absurd (let bad : false ≡ true = room is in cc) ]
before xs name (Some changed) full h room = h.1

-- the numbers of another table
beside : (xs : List Counted) (x : Counted) (name : Name) (o : Option Changed) (full still : Type 0) → same_name name x.name ≡ false → (full → still)
    → MatchOption o ((has_rows name xs ≡ false) ⊎ full) (λ changed. (has_rows name xs ≡ true) × (changed ≡ changed_where (same_name name) xs))
    → MatchOption o ((has_rows name (xs ++ x ∷ []) ≡ false) ⊎ still) (λ changed. (has_rows name (xs ++ x ∷ []) ≡ true) × (changed ≡ changed_where (same_name name) (xs ++ x ∷ [])))
beside xs x name None full still other stays h = elim h [ inl none ↦ inl (none_of_more name xs x none other) | inr is ↦ inr (stays is) ]
beside xs x name (Some changed) full still other stays h = (still_rows name xs (x ∷ []) h.0, h.1 ∙ none_more (same_name name) xs x other)

-- rows of a table that is counted apart, or is from now on
pub counted_apart : (xs : List Counted) (x : Counted) (old new : Counts) (v : Changed) → v ≡ added x.operation x.rows (unwrap_or (counted_of old x.name) nothing)
    → ((q : Name) → counted_of new q ≡ cond (same_name q x.name) (Some v) (counted_of old q)) → new.others ≡ old.others → length new.tables.entries ≤ 65536 → HasRoom old new x.name → AreCounts xs old → AreCounts (xs ++ x ∷ []) new
counted_apart xs x old new v is finds same most room h = record {
  most = most;
  each = λ q. at q (same_name q x.name) refl;
  first = λ front rest y cut none q some. elim (cut_at front y rest xs x cut) [
    | inl last ↦ absurd (let bad : Some v ≡ None = sym (at_name x.name refl) ∙ ap (λ (z : Counted). counted_of new z.name) last.1 ∙ none in cc)
    | inr inside ↦ earlier front inside.0 y inside.1 none q some (same_name q x.name) refl (counted_of old x.name) refl
  ];
  others = same ∙ h.others ∙ alike ∙ none_more (λ name. not (is_some (counted_of new name))) xs x apart;
}
  where
    at_name : (q : Name) → q ≡ x.name → counted_of new q ≡ Some v
    at_name q is_x = finds q ∙ ap (λ (b : Bool). cond b (Some v) (counted_of old q)) (names_same q x.name is_x)

    elsewhere_same : (q : Name) → same_name q x.name ≡ false → counted_of new q ≡ counted_of old q
    elsewhere_same q other = finds q ∙ ap (λ (b : Bool). cond b (Some v) (counted_of old q)) other

    none_before : (q : Name) → counted_of new q ≡ None → (b : Bool) → same_name q x.name ≡ b → counted_of old q ≡ None
    none_before q none false other = sym (elsewhere_same q other) ∙ none
    none_before q none true is_x = absurd (let bad : Some v ≡ None = sym (at_name q (names_equal q x.name is_x)) ∙ none in cc)

    left_out : (y : Counted) (front rest : List Counted) → xs ≡ front ++ y ∷ rest → (o : Option Changed) → counted_of old y.name ≡ o → o ≡ None → MatchOption o (IsLeftOut xs old y.name) (λ changed. (has_rows y.name xs ≡ true) × (changed ≡ changed_where (same_name y.name) xs)) → length old.tables.entries ≡ 65536
    left_out y front rest cut None is_o none k = elim k [
      | inl absent ↦ absurd (let bad : true ≡ false = sym (has_here y.name front y rest (names_same y.name y.name refl)) ∙ ap (has_rows y.name) (sym cut) ∙ absent in cc)
      | inr full ↦ full
    ]
    left_out y front rest cut (Some c) is_o none k = absurd cc

    earlier : (front rest : List Counted) (y : Counted) → xs ≡ front ++ y ∷ rest → counted_of new y.name ≡ None → (q : Name) → is_some (counted_of new q) ≡ true → (b : Bool) → same_name q x.name ≡ b → (o : Option Changed) → counted_of old x.name ≡ o → has_rows q front ≡ true
    earlier front rest y cut none q some false other o is_o = h.first front rest y cut (none_before y.name none (same_name y.name x.name) refl) q (sym (ap is_some (elsewhere_same q other)) ∙ some)
    earlier front rest y cut none q some true is_x (Some c) is_o =
        h.first front rest y cut (none_before y.name none (same_name y.name x.name) refl) q (ap is_some (ap (counted_of old) (names_equal q x.name is_x) ∙ is_o))
    earlier front rest y cut none q some true is_x None is_o =
        let old_none = none_before y.name none (same_name y.name x.name) refl in
        let full = left_out y front rest cut (counted_of old y.name) refl old_none (h.each y.name) in
        absurd (let bad : false ≡ true = sym (ap is_some is_o) ∙ (room full).0 in cc)

    at : (q : Name) (b : Bool) → same_name q x.name ≡ b → MatchOption (counted_of new q) (IsLeftOut (xs ++ x ∷ []) new q) (λ changed. (has_rows q (xs ++ x ∷ []) ≡ true) × (changed ≡ changed_where (same_name q) (xs ++ x ∷ [])))
    at q true here =
        let found : counted_of new q ≡ Some v = finds q ∙ ap (λ (b : Bool). cond b (Some v) (counted_of old q)) here in
        let name : q ≡ x.name = names_equal q x.name here in
        let first : unwrap_or (counted_of old x.name) nothing ≡ changed_where (same_name q) xs =
        before xs x.name (counted_of old x.name) _ (h.each x.name) (λ full. (room full).0) ∙ ap (λ (n : Name). changed_where (same_name n) xs) (sym name) in
        subst (λ (o : Option Changed). MatchOption o (IsLeftOut (xs ++ x ∷ []) new q) (λ changed. (has_rows q (xs ++ x ∷ []) ≡ true) × (changed ≡ changed_where (same_name q) (xs ++ x ∷ [])))) (sym found)
        (has_last q xs x here, is ∙ ap (added x.operation x.rows) first ∙ one_more (same_name q) xs x here)
    at q false other =
        let found : counted_of new q ≡ counted_of old q = finds q ∙ ap (λ (b : Bool). cond b (Some v) (counted_of old q)) other in
        subst (λ (o : Option Changed). MatchOption o (IsLeftOut (xs ++ x ∷ []) new q) (λ changed. (has_rows q (xs ++ x ∷ []) ≡ true) × (changed ≡ changed_where (same_name q) (xs ++ x ∷ [])))) (sym found)
        (beside xs x q (counted_of old q) _ _ other (λ full. (room full).1) (h.each q))

    apart : not (is_some (counted_of new x.name)) ≡ false
    apart = ap (λ (o : Option Changed). not (is_some o)) (finds x.name ∙ ap (λ (b : Bool). cond b (Some v) (counted_of old x.name)) (names_same x.name x.name refl))

    elsewhere : (r : Name) → same_name x.name r ≡ false → not (is_some (counted_of old r)) ≡ not (is_some (counted_of new r))
    elsewhere r other = ap (λ (o : Option Changed). not (is_some o)) (sym (finds r ∙ ap (λ (b : Bool). cond b (Some v) (counted_of old r)) (names_turned r x.name ∙ other)))

    everywhere : (c : Changed) → counted_of old x.name ≡ Some c → (r : Name) (b : Bool) → same_name x.name r ≡ b → not (is_some (counted_of old r)) ≡ not (is_some (counted_of new r))
    everywhere c there r false other = elsewhere r other
    everywhere c there r true here =
        let name : x.name ≡ r = names_equal x.name r here in
        ap (λ (o : Option Changed). not (is_some o)) (ap (counted_of old) (sym name) ∙ there) ∙ sym (ap (λ (n : Name). not (is_some (counted_of new n))) (sym name) ∙ apart)

    alike_by : (o : Option Changed) → counted_of old x.name ≡ o → MatchOption o (IsLeftOut xs old x.name) (λ changed. (has_rows x.name xs ≡ true) × (changed ≡ changed_where (same_name x.name) xs))
        → changed_where (λ name. not (is_some (counted_of old name))) xs ≡ changed_where (λ name. not (is_some (counted_of new name))) xs
    alike_by None there k = elim k [
      | inl none ↦ like_where x.name _ _ elsewhere xs none
      | inr full ↦ absurd (let bad : false ≡ true = sym (ap is_some there) ∙ (room full).0 in cc)
    ]
    alike_by (Some c) there k = equal_where _ _ (λ r. everywhere c there r (same_name x.name r) refl) xs

    alike : changed_where (λ name. not (is_some (counted_of old name))) xs ≡ changed_where (λ name. not (is_some (counted_of new name))) xs
    alike = alike_by (counted_of old x.name) refl (h.each x.name)

-- rows of a table that isn't counted apart
pub counted_together : (xs : List Counted) (x : Counted) (old new : Counts) → new.tables.entries ≡ old.tables.entries → new.others ≡ added x.operation x.rows old.others → counted_of old x.name ≡ None → 65536 ≤ length old.tables.entries → AreCounts xs old → AreCounts (xs ++ x ∷ []) new
counted_together xs x old new same is none full h = record {
  most = omega (arith, h.most, ap length same);
  each = λ q. at q (counted_of old q) refl (h.each q);
  first = λ front rest y cut none q some. elim (cut_at front y rest xs x cut) [
    | inl last ↦ subst (λ (l : List Counted). has_rows q l ≡ true) last.0 (known q (sym (ap is_some (finds q)) ∙ some) (counted_of old q) refl (h.each q))
    | inr inside ↦ h.first front inside.0 y inside.1 (sym (finds y.name) ∙ none) q (sym (ap is_some (finds q)) ∙ some)
  ];
  others = is ∙ ap (added x.operation x.rows) h.others ∙ one_more (λ name. not (is_some (counted_of old name))) xs x (ap (λ (o : Option Changed). not (is_some o)) none)
      ∙ equal_where (λ name. not (is_some (counted_of old name))) (λ name. not (is_some (counted_of new name))) (λ r. ap (λ (o : Option Changed). not (is_some o)) (sym (finds r))) (xs ++ x ∷ []);
}
  where
    finds : (r : Name) → counted_of new r ≡ counted_of old r
    finds r = ap (lookup (λ n. same_name r (name_of n))) same

    known : (q : Name) → is_some (counted_of old q) ≡ true → (o : Option Changed) → counted_of old q ≡ o → MatchOption o (IsLeftOut xs old q) (λ changed. (has_rows q xs ≡ true) × (changed ≡ changed_where (same_name q) xs)) → has_rows q xs ≡ true
    known q some None is_o k = absurd (let bad : false ≡ true = sym (ap is_some is_o) ∙ some in cc)
    known q some (Some c) is_o k = k.0

    other : (q : Name) (c : Changed) → counted_of old q ≡ Some c → (b : Bool) → same_name q x.name ≡ b → same_name q x.name ≡ false
    other q c there false is = is
    other q c there true here = absurd (let bad : Some c ≡ None = sym there ∙ ap (counted_of old) (names_equal q x.name here) ∙ none in cc)

    at : (q : Name) (o : Option Changed) → counted_of old q ≡ o → MatchOption o (IsLeftOut xs old q) (λ changed. (has_rows q xs ≡ true) × (changed ≡ changed_where (same_name q) xs))
        → MatchOption (counted_of new q) (IsLeftOut (xs ++ x ∷ []) new q) (λ changed. (has_rows q (xs ++ x ∷ []) ≡ true) × (changed ≡ changed_where (same_name q) (xs ++ x ∷ [])))
    at q None there k =
        subst (λ (o : Option Changed). MatchOption o (IsLeftOut (xs ++ x ∷ []) new q) (λ changed. (has_rows q (xs ++ x ∷ []) ≡ true) × (changed ≡ changed_where (same_name q) (xs ++ x ∷ [])))) (sym (finds q ∙ there)) (inr (omega (arith, h.most, full, ap length same)))
    at q (Some c) there k =
        subst (λ (o : Option Changed). MatchOption o (IsLeftOut (xs ++ x ∷ []) new q) (λ changed. (has_rows q (xs ++ x ∷ []) ≡ true) × (changed ≡ changed_where (same_name q) (xs ++ x ∷ [])))) (sym (finds q ∙ there))
        (still_rows q xs (x ∷ []) k.0, k.1 ∙ none_more (same_name q) xs x (other q c there (same_name q x.name) refl))

-- what an insertion does to the number of entries, of which there are at most so many
pub grown : (o : Option Changed) (old new : ℕ) → new ≡ old + (if is_some o then 0 else 1) → old ≤ 65536 → (old < 65536) ⊎ (is_some o ≡ true) → (new ≤ 65536) × (old ≡ 65536 → (is_some o ≡ true) × (new ≡ 65536))
grown None old new is most room = elim room [ inl small ↦ (omega (arith, is, small), λ full. absurd (omega (arith, small, full))) | inr some ↦ absurd (let bad : false ≡ true = some in cc) ]
grown (Some c) old new is most room = (omega (arith, is, most), λ full. (refl, omega (arith, is, full)))

-- ---- what is printed

-- the line of one entry more was written
pub line_printed : (a b d : Option (List ℕ)) (head : List ℕ) (es : List (TableName × Changed)) (e : TableName × Changed)
    → Appends a b (head ++ flat_map (λ e. numbers_text e.1 (name_text e.0)) es) → Appends b d (numbers_text e.1 (name_text e.0)) → Appends a d (head ++ flat_map (λ e. numbers_text e.1 (name_text e.0)) (es ++ e ∷ []))
line_printed a b d head es e h k =
    subst (λ (t : List ℕ). Appends a d t) (flat_map_more (λ (e : TableName × Changed). numbers_text e.1 (name_text e.0)) head es e)
    (Appends-trans a b d (head ++ flat_map (λ e. numbers_text e.1 (name_text e.0)) es) (numbers_text e.1 (name_text e.0)) h k)

sum_more : (cs : List Changed) (c : Changed) → plus (sum_of cs) c ≡ sum_of (cs ++ c ∷ [])
sum_more cs c = numbers _ _ _ _ _ _ (up_more _ c.inserted _ (sum_by_push (λ (x : Changed). x.inserted) cs c)) (up_more _ c.updated _ (sum_by_push (λ (x : Changed). x.updated) cs c)) (up_more _ c.deleted _ (sum_by_push (λ (x : Changed). x.deleted) cs c))

-- the numbers of one entry more were added
pub entry_summed : (o : Changed) (es : List (TableName × Changed)) (e : TableName × Changed) → plus (sum_of (o ∷ values_of es)) e.1 ≡ sum_of (o ∷ values_of (es ++ e ∷ []))
entry_summed o es e = sum_more (o ∷ values_of es) e.1 ∙ ap (λ (l : List Changed). sum_of (o ∷ l)) (sym (map-append (λ (x : TableName × Changed). x.1) es (e ∷ [])))

-- the whole table was written
pub table_printed : (a b d e f : Option (List ℕ)) (es : List (TableName × Changed)) (others sums : Changed) → Appends a b (head_text ++ flat_map (λ e. numbers_text e.1 (name_text e.0)) es) → Appends b d (others_text others)
    → sums ≡ sum_of (others ∷ values_of es) → Appends d e (numbers_text sums (codes "(all)")) → Keeps e f
    → Appends a f (head_text ++ (flat_map (λ e. numbers_text e.1 (name_text e.0)) es ++ (others_text others ++ numbers_text (sum_of (others ∷ values_of es)) (codes "(all)"))))
table_printed a b d e f es others sums tables rest is all kept =
    let lines = flat_map (λ (e : TableName × Changed). numbers_text e.1 (name_text e.0)) es in
    let last = subst (λ (s : Changed). Appends d e (numbers_text s (codes "(all)"))) is all in
    let sum_text = numbers_text (sum_of (others ∷ values_of es)) (codes "(all)") in
    let whole = Appends-trans a b e (head_text ++ lines) (others_text others ++ sum_text) tables (Appends-trans b d e (others_text others) sum_text rest last) in
    Appends-kept a e f (head_text ++ (lines ++ (others_text others ++ sum_text))) (subst (λ (t : List ℕ). Appends a e t) (append_assoc head_text lines (others_text others ++ sum_text)) whole) kept

pub nothing_printed : (a : Option (List ℕ)) (c : Changed) → is_nothing c ≡ true → Appends a a (others_text c)
nothing_printed a c h = subst (λ (b : Bool). Appends a a (if b then [] else numbers_text c (codes "(tables beyond the first 65536)"))) (sym h) (Appends-nil a)

pub others_printed : (a b : Option (List ℕ)) (c : Changed) → is_nothing c ≡ false → Appends a b (numbers_text c (codes "(tables beyond the first 65536)")) → Appends a b (others_text c)
others_printed a b c h k = subst (λ (x : Bool). Appends a b (if x then [] else numbers_text c (codes "(tables beyond the first 65536)"))) (sym h) k

pub in_any_case : {A E : Type 0} (r : Result A E) (P : Type 0) → P → OnOk r P
in_any_case (Ok a) P p = p
in_any_case (Err e) P p = tt

pub turned_false : (b : Bool) → true ≡ not b → b ≡ false
turned_false true h = absurd cc
turned_false false h = refl

pub turned_true : (b : Bool) → false ≡ not b → b ≡ true
turned_true true h = refl
turned_true false h = absurd cc

-- ---- the order of what is printed

after_each : (n : TableName) (es : List (TableName × Changed)) → AllByRecursion (λ m. compared n m ≡ Less) (map (λ e. e.0) es) → AllByRecursion (λ m. name_order (name_of n) m ≡ Less) (map (λ e. name_of e.0) es)
after_each n [] h = tt
after_each n (e ∷ es) h = (h.0, after_each n es h.1)

-- the order of the keys is the one of their names
pub names_ascend : (es : List (TableName × Changed)) → IsStrictlySortedBy compared (map (λ e. e.0) es) → IsStrictlySortedBy name_order (map (λ e. name_of e.0) es)
unfolding IsStrictlySortedBy
names_ascend [] h = tt
names_ascend (e ∷ es) h = (after_each e.0 es h.0, names_ascend es h.1)
