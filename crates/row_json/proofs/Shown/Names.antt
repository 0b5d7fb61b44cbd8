-- Names that are apart tell the numbers of an ENUM or SET.
use Rattle.std.proofs.Common.{◌≡◌, ◌≢◌, ℕ, suc, ◌-◌, ◌/◌, ◌%◌, ◌==◌, Bool, true, false, List, [], ◌∷◌, refl, sym, ap, ◌∙◌, subst, arith, All}
use Rattle.std.specs.Prelude.{Option, Some, None, if◌then◌else◌, slice_get, slice_index_or, option_and_then}
use Rattle.std.specs.Option.{option_map}
use Rattle.std.specs.List.{join_with_byte, slice_split, AllByRecursion}
use Rattle.std.proofs.lemmas.Bool.{eqb-true, eqb-false, ne_eqb}
use Rattle.std.proofs.lemmas.List.Splits.{slice_split_none, slice_split_at}
use Rattle.row_json.specs.Values.{name_of, with_name, set_names}
use Rattle.row_json.specs.Shown.{name, name_or_number, shown_enum, shown_set, AreApart, HaveNoCommas}

-- ---- ENUM

found : (o : Option (Option (List ℕ))) (text : List ℕ) → option_and_then (λ n. n) o ≡ Some text → o ≡ Some (Some text)
found None text e = absurd (cc)
found (Some None) text e = absurd (cc)
found (Some (Some t)) text e = cc

not_empty : (names : List (Option (List ℕ))) (n : ℕ) (o : Option (List ℕ)) → AreApart names → o ≡ name_of names n → name [] ≡ name_or_number n o → ⊥
not_empty names n None apart is e = cc
not_empty names n (Some t) apart is e = let empty : t ≡ [] = cc in apart.filled (n - 1) (found (slice_get names (n - 1)) [] (sym is ∙ ap Some empty))

by_names : (names : List (Option (List ℕ))) (m n : ℕ) (s t : Option (List ℕ)) → AreApart names → s ≡ name_of names m → t ≡ name_of names n → (m ≡ 0 → ⊥) → (n ≡ 0 → ⊥) →
    name_or_number m s ≡ name_or_number n t → m ≡ n
by_names names m n None None apart hs ht hm hn e = cc
by_names names m n None (Some t) apart hs ht hm hn e = absurd (cc)
by_names names m n (Some s) None apart hs ht hm hn e = absurd (cc)
by_names names m n (Some s) (Some t) apart hs ht hm hn e =
    let same : s ≡ t = cc in
    let places : m - 1 ≡ n - 1 = apart.different (m - 1) (n - 1) s (found (slice_get names (m - 1)) s (sym hs)) (found (slice_get names (n - 1)) s (sym ht ∙ ap Some (sym same))) in
    omega arith

enum_by : (names : List (Option (List ℕ))) (m n : ℕ) (p q : Bool) → AreApart names → (m == 0) ≡ p → (n == 0) ≡ q →
    (if p then name [] else name_or_number m (name_of names m)) ≡ (if q then name [] else name_or_number n (name_of names n)) → m ≡ n
enum_by names m n true true apart hp hq e = eqb-true m 0 hp ∙ sym (eqb-true n 0 hq)
enum_by names m n true false apart hp hq e = absurd (not_empty names n (name_of names n) apart refl e)
enum_by names m n false true apart hp hq e = absurd (not_empty names m (name_of names m) apart refl (sym e))
enum_by names m n false false apart hp hq e = by_names names m n (name_of names m) (name_of names n) apart refl refl (eqb-false m 0 hp) (eqb-false n 0 hq) e

pub enum_numbers : (names : List (Option (List ℕ))) → AreApart names → (m n : ℕ) → shown_enum names m ≡ shown_enum names n → m ≡ n
enum_numbers names apart m n e = enum_by names m n (m == 0) (n == 0) apart refl refl e

-- ---- SET

-- the test of a name's bit, and what follows
parts : (n : Option (List ℕ)) (more : Option (List (List ℕ))) (ls : List (List ℕ)) → with_name n more ≡ Some ls →
    (text : List ℕ) × (rest : List (List ℕ)) × (n ≡ Some text) × (more ≡ Some rest) × (ls ≡ text ∷ rest)
parts None more ls e = absurd (cc)
parts (Some text) None ls e = absurd (cc)
parts (Some text) (Some rest) ls e = (text, rest, refl, refl, cc)

-- each of the names is one of the column
all_named : (P : List ℕ → Type 0) (names : List (Option (List ℕ))) (bits : ℕ) (ls : List (List ℕ)) → ((i : ℕ) (text : List ℕ) → slice_get names i ≡ Some (Some text) → P text) →
    set_names names bits ≡ Some ls → AllByRecursion P ls
all_named P [] bits ls are e = by (bits == 0) e
  where
    by : (p : Bool) → (if p then Some [] else None) ≡ Some ls → AllByRecursion P ls
    by true f = let none : [] ≡ ls = cc in subst (AllByRecursion P) none tt
    by false f = absurd (cc)
all_named P (n ∷ names) bits ls are e = by (λ rest. all_named P names (bits / 2) rest (λ i. are (suc i))) (bits % 2 == 1) e
  where
    by : ((rest : List (List ℕ)) → set_names names (bits / 2) ≡ Some rest → AllByRecursion P rest) → (p : Bool) → (if p then with_name n (set_names names (bits / 2)) else set_names names (bits / 2)) ≡ Some ls → AllByRecursion P ls
    by more true f =
        let is = parts n (set_names names (bits / 2)) ls f in
        subst (AllByRecursion P) (sym is.4) (are 0 is.0 (ap Some is.2), more is.1 is.3)
    by more false f = more ls f

-- a name that comes later is no earlier one
not_later : (n : Option (List ℕ)) (names : List (Option (List ℕ))) (a b : ℕ) (ls : List (List ℕ)) → AreApart (n ∷ names) → with_name n (set_names names a) ≡ Some ls → set_names names b ≡ Some ls → ⊥
not_later n names a b ls apart e f =
    let is = parts n (set_names names a) ls e in
    let all = all_named (λ text. (i : ℕ) × (slice_get names i ≡ Some (Some text))) names b (is.0 ∷ is.1) (λ i text h. (i, h)) (f ∙ ap Some is.4) in
    absurd (omega (arith, apart.different 0 (suc all.0.0) is.0 (ap Some is.2) all.0.1))

later_apart : (n : Option (List ℕ)) (names : List (Option (List ℕ))) → AreApart (n ∷ names) → AreApart names
later_apart n names apart = record { filled = λ i. apart.filled (suc i); different = λ i k text h l. let same : suc i ≡ suc k = apart.different (suc i) (suc k) text h l in omega arith }

same_half : (a b p : ℕ) → a % 2 ≡ p → b % 2 ≡ p → a / 2 ≡ b / 2 → a ≡ b
same_half a b p ha hb e = omega arith

same_sets : (names : List (Option (List ℕ))) (a b : ℕ) (ls : List (List ℕ)) → AreApart names → set_names names a ≡ Some ls → set_names names b ≡ Some ls → a ≡ b
same_sets [] a b ls apart e f = zero_bits a (a == 0) refl e ∙ sym (zero_bits b (b == 0) refl f)
  where
    zero_bits : (n : ℕ) (p : Bool) → (n == 0) ≡ p → (if p then Some [] else None) ≡ Some ls → n ≡ 0
    zero_bits n true is g = eqb-true n 0 is
    zero_bits n false is g = absurd (cc)
same_sets (n ∷ names) a b ls apart e f = by (λ rest. same_sets names (a / 2) (b / 2) rest (later_apart n names apart)) (a % 2 == 1) (b % 2 == 1) refl refl e f
  where
    by : ((rest : List (List ℕ)) → set_names names (a / 2) ≡ Some rest → set_names names (b / 2) ≡ Some rest → a / 2 ≡ b / 2) → (p q : Bool) → (a % 2 == 1) ≡ p → (b % 2 == 1) ≡ q → (if p then with_name n (set_names names (a / 2)) else set_names names (a / 2)) ≡ Some ls →
        (if q then with_name n (set_names names (b / 2)) else set_names names (b / 2)) ≡ Some ls → a ≡ b
    by more true true hp hq g h =
        let x = parts n (set_names names (a / 2)) ls g in
        let y = parts n (set_names names (b / 2)) ls h in
        let rests : y.1 ≡ x.1 = cc (x.4, y.4) in
        same_half a b 1 (eqb-true (a % 2) 1 hp) (eqb-true (b % 2) 1 hq) (more x.1 x.3 (y.3 ∙ ap Some rests))
    by more true false hp hq g h = absurd (not_later n names (a / 2) (b / 2) ls apart g h)
    by more false true hp hq g h = absurd (not_later n names (b / 2) (a / 2) ls apart h g)
    by more false false hp hq g h =
        same_half a b 0 (omega (arith, eqb-false (a % 2) 1 hp)) (omega (arith, eqb-false (b % 2) 1 hq)) (more ls g h)

-- ---- the names in a text

IsName : List ℕ → Type 0
IsName text = (text ≢ []) × All (λ byte. (byte == 44) ≡ false) text

split : (x : List ℕ) (xs : List (List ℕ)) → AllByRecursion IsName (x ∷ xs) → slice_split (λ byte. byte == 44) (join_with_byte 44 (x ∷ xs)) ≡ x ∷ xs
unfolding IsName
split x [] all = slice_split_none (λ byte. byte == 44) x all.0.1
split x (y ∷ ys) all = slice_split_at (λ byte. byte == 44) x 44 (join_with_byte 44 (y ∷ ys)) all.0.1 refl ∙ ap (λ (l : List (List ℕ)). x ∷ l) (split y ys all.1)

some_text : (y : List ℕ) (ys : List (List ℕ)) → (y ≢ []) → [] ≡ join_with_byte 44 (y ∷ ys) → ⊥
some_text y [] h e = h (sym e)
some_text [] (z ∷ ys) h e = h refl
some_text (c ∷ y) (z ∷ ys) h e = cc

same_lists : (xs ys : List (List ℕ)) → AllByRecursion IsName xs → AllByRecursion IsName ys →
    join_with_byte 44 xs ≡ join_with_byte 44 ys → xs ≡ ys
unfolding IsName
same_lists [] [] hx hy e = refl
same_lists [] (y ∷ ys) hx hy e = absurd (some_text y ys hy.0.0 e)
same_lists (x ∷ xs) [] hx hy e = absurd (some_text x xs hx.0.0 (sym e))
same_lists (x ∷ xs) (y ∷ ys) hx hy e = sym (split x xs hx) ∙ (ap (slice_split (λ byte. byte == 44)) e ∙ split y ys hy)

listed : (names : List (Option (List ℕ))) (bits : ℕ) (ls : List (List ℕ)) → AreApart names → HaveNoCommas names → set_names names bits ≡ Some ls →
    AllByRecursion IsName ls
unfolding IsName
listed names bits ls apart plain e = all_named IsName names bits ls (λ i text h. (λ none. apart.filled i (h ∙ ap (λ (t : List ℕ). Some (Some t)) none), λ k d inside. ne_eqb (slice_index_or text k d) 44 (plain i text h k d inside))) e

by_sets : (names : List (Option (List ℕ))) (a b : ℕ) (s t : Option (List (List ℕ))) → AreApart names → HaveNoCommas names → set_names names a ≡ s → set_names names b ≡ t →
    name_or_number a (option_map (join_with_byte 44) s) ≡ name_or_number b (option_map (join_with_byte 44) t) → a ≡ b
by_sets names a b None None apart plain hs ht e = cc
by_sets names a b None (Some t) apart plain hs ht e = absurd (cc)
by_sets names a b (Some s) None apart plain hs ht e = absurd (cc)
by_sets names a b (Some s) (Some t) apart plain hs ht e =
    let same : s ≡ t = same_lists s t (listed names a s apart plain hs) (listed names b t apart plain ht) (cc) in
    same_sets names a b s apart hs (ht ∙ ap Some (sym same))

pub set_numbers : (names : List (Option (List ℕ))) → AreApart names → HaveNoCommas names → (a b : ℕ) → shown_set names a ≡ shown_set names b → a ≡ b
set_numbers names apart plain a b e = by_sets names a b (set_names names a) (set_names names b) apart plain refl refl e
