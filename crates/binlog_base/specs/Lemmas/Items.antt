-- The items of a list, one after another; so many of a format.
use Rattle.std.proofs.Common.{◌≡◌, ◌≢◌, ℕ, zero, suc, ◌+◌, ◌-◌, ◌<◌, ◌≤◌, List, [], ◌∷◌, ◌++◌, length, map, Result, Ok, Err, refl, sym, ap, subst, ◌∙◌, arith, add-one, inl, inr, append_assoc}
use Rattle.std.proofs.lemmas.List.{length-append, append-nil}
use Rattle.binlog_base.specs.declared.fault.Fault.{Fault}
use Rattle.binlog_base.specs.Faults.{IsOfBytes}
use Rattle.binlog_base.specs.Format.{Format, IsExact, IsExactToEnd, ◌>>=◌, take_bytes, sequence, no_bytes}
use Rattle.binlog_base.specs.Lemmas.Format.{bind_ok, bind_err, ok_is, err_is, ok_or_err, exact_take_bytes, exact_no_bytes, exact_sequence, exact_map_value}
use Rattle.binlog_base.specs.Numbers.{little_endian, lenenc, lenenc_after}
use Rattle.binlog_base.specs.Lemmas.Numbers.{exact_lenenc_after}
use Rattle.binlog_base.specs.Fixed.{fixed}
use Rattle.binlog_base.specs.Strings.{lenenc_string}
use Rattle.binlog_base.specs.Items.{AreItems, item_then, first_items, items, values_of, repeated, Eats, times, weigh}

pub eats_both : {A B : Type 0} (f : Format A) (g : A → Format B) → Eats f → ((a : A) → IsExact (g a)) → Eats (sequence f g)
eats_both f g ef eg x b left e =
    let o = bind_ok (f.parse x) (λ r. (g r.0).parse r.1) (b, left) e in
    let short = ef x o.0.0 o.0.1 o.1 in
    let second = (eg o.0.0).sound o.0.1 b left o.2 in
    omega (arith, short, ap length second.1, length-append second.0 left)

pub eats_bytes : (n : ℕ) → Eats (take_bytes (suc n))
eats_bytes n x a left e =
    let s = (exact_take_bytes (suc n)).sound x a left e in
    omega (arith, ap length s.1, length-append s.0 left, s.2.1)

-- what spells a value of such a format has at least one byte
pub eats_spelled : {A : Type 0} (f : Format A) → IsExact f → Eats f → (x : List ℕ) (a : A) → f.spells x a → 0 < length x
eats_spelled f ef eats x a s =
    let short = eats (x ++ []) a [] (ef.complete x [] a s) in
    omega (arith, short, length-append x [])

-- the count of steps doesn't matter, as long as it is enough
same_then : {A : Type 0} (f g : List ℕ → List (Result A Fault)) (r : Result (A × List ℕ) Fault) →
    ((a : A) (left : List ℕ) → r ≡ Ok (a, left) → f left ≡ g left) → item_then f r ≡ item_then g r
same_then f g (Err e) h = refl
same_then {A} f g (Ok (a, left)) h = ap (λ (l : List (Result A Fault)). Ok a ∷ l) (h a left refl)

enough : {A : Type 0} (f : Format A) → Eats f → (m n : ℕ) (x : List ℕ) → length x ≤ m → length x ≤ n → first_items f m x ≡ first_items f n x
enough f ef zero zero x p q = refl
enough f ef zero (suc n) [] p q = refl
enough f ef zero (suc n) (b ∷ x) p q = absurd (omega (arith, p))
enough f ef (suc m) zero [] p q = refl
enough f ef (suc m) zero (b ∷ x) p q = absurd (omega (arith, q))
enough f ef (suc m) (suc n) [] p q = refl
enough f ef (suc m) (suc n) (b ∷ x) p q =
    same_then (first_items f m) (first_items f n) (f.parse (b ∷ x)) (λ a left h.
    let short : length left < length (b ∷ x) = ef (b ∷ x) a left h in
    enough f ef m n left (omega (arith, short, p)) (omega (arith, short, q)))

-- nothing is left
pub items_end : {A : Type 0} (f : Format A) → items f [] ≡ []
unfolding items
items_end f = refl

-- an item stands at the front
pub items_ok : {A : Type 0} (f : Format A) → Eats f → (x : List ℕ) (a : A) (left : List ℕ) → f.parse x ≡ Ok (a, left) → items f x ≡ Ok a ∷ items f left
unfolding items
items_ok f ef [] a left h = absurd (omega (arith, ef [] a left h))
items_ok {A} f ef (b ∷ x) a left h =
    let short : length left < length (b ∷ x) = ef (b ∷ x) a left h in
    rw h (ap (λ (l : List (Result A Fault)). Ok a ∷ l) (enough f ef (length x) (length left) left (omega (arith, short)) (omega arith)))

-- none does
pub items_err : {A : Type 0} (f : Format A) (x : List ℕ) (e : Fault) → 0 < length x → f.parse x ≡ Err e → items f x ≡ Err e ∷ []
unfolding items
items_err f [] e p h = absurd (omega (arith, p))
items_err f (b ∷ x) e p h = rw h refl

-- nothing is left
pub items_none : {A : Type 0} (f : Format A) (x : List ℕ) → length x ≡ 0 → items f x ≡ []
items_none f [] h = items_end f
items_none f (b ∷ x) h = absurd (omega (arith, h))

-- ---- the items are those that the bytes hold, and no others

are_then : {A : Type 0} (f : Format A) → IsExact f → Eats f → (x : List ℕ) → 0 < length x → (next : List ℕ → List (Result A Fault)) →
    ((left : List ℕ) → length left < length x → AreItems f left (next left)) → (r : Result (A × List ℕ) Fault) → f.parse x ≡ r → AreItems f x (item_then next r)
are_then f ex ef x p next later (Err e) h = (p, ex.refused_sound x e h, refl)
are_then f ex ef x p next later (Ok (a, left)) h =
    let s = ex.sound x a left h in
    (s.0, left, s.1, s.2, later left (ef x a left h))

are_first : {A : Type 0} (f : Format A) → IsExact f → Eats f → (n : ℕ) (x : List ℕ) → length x ≤ n → AreItems f x (first_items f n x)
are_first f ex ef zero [] le = refl
are_first f ex ef zero (b ∷ x) le = absurd (omega (arith, le))
are_first f ex ef (suc n) [] le = refl
are_first f ex ef (suc n) (b ∷ x) le =
    are_then f ex ef (b ∷ x) (omega arith) (first_items f n) (λ left short. are_first f ex ef n left (omega (arith, short, le))) (f.parse (b ∷ x)) refl

pub items_are : {A : Type 0} (f : Format A) → IsExact f → Eats f → (x : List ℕ) → AreItems f x (items f x)
unfolding items
items_are f ex ef x = are_first f ex ef (length x) x (omega arith)

pub items_only : {A : Type 0} (f : Format A) → IsExact f → Eats f → (x : List ℕ) (found : List (Result A Fault)) → AreItems f x found → found ≡ items f x
items_only f ex ef x [] h = rw h (sym (items_end f))
items_only {A} f ex ef x (Ok a ∷ more) h =
    let read : f.parse x ≡ Ok (a, h.1) = ap f.parse h.2 ∙ ex.complete h.0 h.1 a h.3 in
    ap (λ (l : List (Result A Fault)). Ok a ∷ l) (items_only f ex ef h.1 more h.4) ∙ sym (items_ok f ef x a h.1 read)
items_only {A} f ex ef x (Err e ∷ more) h =
    ap (λ (l : List (Result A Fault)). Err e ∷ l) h.2 ∙ sym (items_err f x e h.0 (ex.refused_complete x e h.1))

-- no more items than bytes
few_then : {A : Type 0} (f : Format A) → Eats f → (x : List ℕ) (n : ℕ) → 0 < length x → length x ≤ suc n → (next : List ℕ → List (Result A Fault)) →
    ((left : List ℕ) → length left < length x → length (next left) ≤ length left) → (r : Result (A × List ℕ) Fault) → f.parse x ≡ r → length (item_then next r) ≤ length x
few_then f ef x n p le next later (Err e) h = omega (arith, p)
few_then f ef x n p le next later (Ok (a, left)) h = omega (arith, ef x a left h, later left (ef x a left h))

few_first : {A : Type 0} (f : Format A) → Eats f → (n : ℕ) (x : List ℕ) → length x ≤ n → length (first_items f n x) ≤ length x
few_first f ef zero x le = omega arith
few_first f ef (suc n) [] le = omega arith
few_first f ef (suc n) (b ∷ x) le =
    few_then f ef (b ∷ x) n (omega arith) le (first_items f n) (λ left short. few_first f ef n left (omega (arith, short, le))) (f.parse (b ∷ x)) refl

pub items_few : {A : Type 0} (f : Format A) → Eats f → (x : List ℕ) → length (items f x) ≤ length x
unfolding items
items_few f ef x = few_first f ef (length x) x (omega arith)

-- items that take as many bytes as they weigh, and one, weigh no more than the bytes
weigh_then : {A : Type 0} (f : Format A) (w : A → ℕ) → ((x : List ℕ) (a : A) (left : List ℕ) → f.parse x ≡ Ok (a, left) → 1 + w a + length left ≤ length x) → (x : List ℕ) → 0 < length x →
    (next : List ℕ → List (Result A Fault)) → ((left : List ℕ) → length left < length x → weigh w (next left) ≤ length left) → (r : Result (A × List ℕ) Fault) → f.parse x ≡ r → weigh w (item_then next r) ≤ length x
weigh_then f w takes x p next later (Err e) h = omega (arith, p)
weigh_then f w takes x p next later (Ok (a, left)) h = let t = takes x a left h in omega (arith, t, later left (omega (arith, t)))

weigh_first : {A : Type 0} (f : Format A) (w : A → ℕ) → ((x : List ℕ) (a : A) (left : List ℕ) → f.parse x ≡ Ok (a, left) → 1 + w a + length left ≤ length x) → (n : ℕ) (x : List ℕ) → length x ≤ n → weigh w (first_items f n x) ≤ length x
weigh_first f w takes zero x le = omega arith
weigh_first f w takes (suc n) [] le = omega arith
weigh_first f w takes (suc n) (b ∷ x) le =
    weigh_then f w takes (b ∷ x) (omega arith) (first_items f n) (λ left short. weigh_first f w takes n left (omega (arith, short, le))) (f.parse (b ∷ x)) refl

pub items_weigh : {A : Type 0} (f : Format A) (w : A → ℕ) → ((x : List ℕ) (a : A) (left : List ℕ) → f.parse x ≡ Ok (a, left) → 1 + w a + length left ≤ length x) → (x : List ℕ) → weigh w (items f x) ≤ length x
unfolding items
items_weigh f w takes x = weigh_first f w takes (length x) x (omega arith)

-- ---- formats that take at least a byte

pub eats_as : {A B : Type 0} (f : Format A) (g : A → B) → Eats f → Eats (sequence f (λ a. no_bytes (g a)))
eats_as f g ef = eats_both f (λ a. no_bytes (g a)) ef (λ a. exact_no_bytes (g a))

pub eats_little : (n : ℕ) → Eats (little_endian (suc n))
unfolding fixed
eats_little n = eats_both (take_bytes (suc n)) _ (eats_bytes n) (λ x. exact_no_bytes _)

pub eats_lenenc : Eats lenenc
unfolding lenenc
eats_lenenc = eats_both (little_endian 1) lenenc_after (eats_little 0) exact_lenenc_after

pub eats_lenenc_string : Eats lenenc_string
unfolding lenenc_string
eats_lenenc_string = eats_both lenenc take_bytes eats_lenenc exact_take_bytes

-- ---- to the end

values_back : {A : Type 0} (vs : List A) → values_of (map Ok vs) ≡ Ok vs
values_back [] = refl
values_back (a ∷ vs) = rw (values_back vs) refl

fault_back : {A : Type 0} (vs : List A) (e : Fault) → values_of (map Ok vs ++ Err e ∷ []) ≡ Err e
fault_back [] e = refl
fault_back (a ∷ vs) e = rw (fault_back vs e) refl

are_values : {A : Type 0} (f : Format A) (x : List ℕ) (found : List (Result A Fault)) (vs : List A) → AreItems f x found → values_of found ≡ Ok vs → AreItems f x (map Ok vs)
are_values {A} f x [] vs h is = subst (λ (bs : List A). AreItems f x (map Ok bs)) (ok_is [] vs is) h
are_values {A} f x (Ok a ∷ more) vs h is =
    let o = bind_ok (values_of more) (λ bs. Ok (a ∷ bs)) vs is in
    subst (λ (bs : List A). AreItems f x (map Ok bs)) (ok_is (a ∷ o.0) vs o.2) (h.0, h.1, h.2, h.3, are_values f h.1 more o.0 h.4 o.1)
are_values f x (Err e ∷ more) vs h is = absurd (ok_or_err (values_of (Err e ∷ more)) vs e is refl)

are_refused : {A : Type 0} (f : Format A) (x : List ℕ) (found : List (Result A Fault)) (e : Fault) → AreItems f x found → values_of found ≡ Err e → (vs : List A) × AreItems f x (map Ok vs ++ Err e ∷ [])
are_refused f x [] e h is = absurd (ok_or_err (values_of []) [] e refl is)
are_refused f x (Ok a ∷ more) e h is = elim (bind_err (values_of more) (λ bs. Ok (a ∷ bs)) e is) [
  | inl l ↦ let later = are_refused f h.1 more e h.4 l in (a ∷ later.0, (h.0, h.1, h.2, h.3, later.1))
  | inr o ↦ absurd (ok_or_err (Ok (a ∷ o.0)) (a ∷ o.0) e refl o.2)
]
are_refused {A} f x (Err d ∷ more) e h is = ([], subst (λ (c : Fault). AreItems f x (Err c ∷ [])) (err_is {A = List A} d e is) (h.0, h.1, refl))

fault_of_bytes : {A : Type 0} (f : Format A) → IsExact f → (x : List ℕ) (vs : List A) (e : Fault) → AreItems f x (map Ok vs ++ Err e ∷ []) → IsOfBytes e
fault_of_bytes f ex x [] e h = ex.of_bytes x e h.1
fault_of_bytes f ex x (a ∷ vs) e h = fault_of_bytes f ex h.1 vs e h.4

pub exact_repeated : {A : Type 0} (f : Format A) → IsExact f → Eats f → IsExactToEnd (repeated f)
exact_repeated {A} f ex ef = record {
  sound = λ x vs left is.
      let o = bind_ok (values_of (items f x)) (λ bs. Ok (bs, [])) (vs, left) is in
      let same : (o.0, []) ≡ (vs, left) = ok_is (o.0, []) (vs, left) o.2 in
      let found = are_values f x (items f x) o.0 (items_are f ex ef x) o.1 in (
        sym (ap (λ (p : List A × List ℕ). p.1) same),
        subst (λ (bs : List A). AreItems f x (map Ok bs)) (ap (λ (p : List A × List ℕ). p.0) same) found,
      );
  complete = λ x vs s. rw (sym (items_only f ex ef x (map Ok vs) s), values_back vs) refl;
  refused_sound = λ x e h. elim (bind_err (values_of (items f x)) (λ bs. Ok (bs, [])) e h) [
    | inl l ↦ are_refused f x (items f x) e (items_are f ex ef x) l
    | inr o ↦ absurd (ok_or_err (Ok (o.0, [])) (o.0, []) e refl o.2)
  ];
  refused_complete = λ x e h. rw (sym (items_only f ex ef x (map Ok h.0 ++ Err e ∷ []) h.1), fault_back h.0 e) refl;
  of_bytes = λ x e h. fault_of_bytes f ex x h.0 e h.1;
}

-- values that were read, and what is read after them
abbrev pub values_then : {A : Type 0} → List A → Result (List A × List ℕ) Fault → Result (List A × List ℕ) Fault
values_then vs r = r >>= λ more. Ok (vs ++ more.0, more.1)

one_value : {A : Type 0} (vs : List A) (a : A) (r : Result (List A) Fault) → values_then vs ((r >>= λ bs. Ok (a ∷ bs)) >>= λ bs. Ok (bs, [])) ≡ values_then (vs ++ a ∷ []) (r >>= λ bs. Ok (bs, []))
one_value {A} vs a (Ok bs) = ap (λ (cs : List A). Ok (cs, [])) (sym (append_assoc vs (a ∷ []) bs))
one_value vs a (Err e) = refl

not_empty : (x : List ℕ) → x ≢ [] → 0 < length x
not_empty [] h = absurd (h refl)
not_empty (b ∷ x) h = omega arith

-- the end
pub repeated_end : {A : Type 0} (f : Format A) (vs : List A) (x : List ℕ) → x ≡ [] → values_then vs ((repeated f).parse x) ≡ Ok (vs, [])
repeated_end f vs x h = rw (h, items_end f, append-nil vs) refl

-- one more value
pub repeated_ok : {A : Type 0} (f : Format A) → Eats f → (vs : List A) (x : List ℕ) (a : A) (left : List ℕ) → f.parse x ≡ Ok (a, left)
    → values_then vs ((repeated f).parse x) ≡ values_then (vs ++ a ∷ []) ((repeated f).parse left)
repeated_ok f ef vs x a left h = rw (items_ok f ef x a left h) (one_value vs a (values_of (items f left)))

-- a fault
pub repeated_err : {A : Type 0} (f : Format A) (vs : List A) (x : List ℕ) (e : Fault) → x ≢ [] → f.parse x ≡ Err e → values_then vs ((repeated f).parse x) ≡ Err e
repeated_err f vs x e some h = rw (items_err f x e (not_empty x some) h) refl

-- ---- so many

pub exact_times : {A : Type 0} (n : ℕ) (f : Format A) → IsExact f → IsExact (times n f)
exact_times zero f ef = exact_no_bytes []
exact_times (suc n) f ef = exact_sequence (times n f) _ (exact_times n f ef) (λ xs. exact_map_value f _ ef)

-- once more
pub times_next : {A : Type 0} (f : Format A) (n : ℕ) (old now left : List ℕ) (xs : List A) (x : A) →
    (times n f).parse old ≡ Ok (xs, now) → f.parse now ≡ Ok (x, left) → (times (n + 1) f).parse old ≡ Ok (xs ++ x ∷ [], left)
times_next f n old now left xs x h k = rw (add-one n, h, k) refl

times_stops : {A : Type 0} (f : Format A) (n : ℕ) (old now : List ℕ) (xs : List A) (e : Fault) →
    (times n f).parse old ≡ Ok (xs, now) → f.parse now ≡ Err e → (times (suc n) f).parse old ≡ Err e
times_stops f n old now xs e h k = rw (h, k) refl

times_on : {A : Type 0} (f : Format A) (n more : ℕ) (old : List ℕ) (e : Fault) → (times n f).parse old ≡ Err e → (times (more + n) f).parse old ≡ Err e
times_on f n zero old e h = let k : zero + n ≡ n = omega arith in rw k h
times_on f n (suc more) old e h = let k : suc more + n ≡ suc (more + n) = omega arith in rw (k, times_on f n more old e h) refl

-- where one isn't there, whatever should come after it
pub times_fault : {A : Type 0} (f : Format A) (n count : ℕ) (old now : List ℕ) (xs : List A) (e : Fault) → n < count →
    (times n f).parse old ≡ Ok (xs, now) → f.parse now ≡ Err e → (times count f).parse old ≡ Err e
times_fault f n count old now xs e lt h k =
    let split : count ≡ (count - suc n) + suc n = omega (arith, lt) in
    rw split (times_on f (suc n) (count - suc n) old e (times_stops f n old now xs e h k))
