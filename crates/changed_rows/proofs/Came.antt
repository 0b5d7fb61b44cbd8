-- What came of names.
use Rattle.std.proofs.Common.{◌≡◌, ◌<◌, ◌≤◌, ◌+◌, ℕ, zero, suc, Bool, true, false, min, List, [], ◌∷◌, ◌++◌, length, map, take, get_or, set, replicate, cond, refl, sym, ap, ◌∙◌, arith, append_assoc, append-nil, add-one}
use Rattle.std.specs.Prelude.{◌||◌, not, if◌then◌else◌}
use Rattle.std.specs.List.{list_any, filter}
use Rattle.std.specs.Borrow.{Bor}
use Rattle.std.proofs.lemmas.List.Folds.{list_any-append}
use Rattle.changed_rows.specs.declared.named.NameKind.{NameKind}
use Rattle.changed_rows.specs.declared.named.MissingName.{MissingName}
use Rattle.changed_rows.specs.declared.named.Came.{Came}
use Rattle.changed_rows.specs.Counted.{Name}
use Rattle.changed_rows.specs.SeenNames.{names_it, names_alike, came_of, missing_of}
use Rattle.changed_rows.specs.Workings.Came.{nothing_came, came_with, each_with, missing_one, missing_in}

-- ---- one table more

or_false : (x : Bool) → (x || false) ≡ x
or_false true = refl
or_false false = refl

any_more : (p : Name → Bool) (before : List Name) (t : Name) → (list_any p before || p t) ≡ list_any p (before ++ t ∷ [])
any_more p before t = sym (list_any-append p before (t ∷ []) ∙ ap (λ (x : Bool). list_any p before || x) (or_false (p t)))

came_more : (kind : NameKind) (before : List Name) (t : Name) (text : List ℕ) → came_with kind text (came_of kind before text) t ≡ came_of kind (before ++ t ∷ []) text
came_more kind before t text = rw (any_more (names_it kind text) before t, any_more (names_alike kind text) before t) refl

pub each_more : (kind : NameKind) (before : List Name) (t : Name) (names : List (Bor (List ℕ))) → each_with kind names (map (λ n. came_of kind before n.now) names) t ≡ map (λ n. came_of kind (before ++ t ∷ []) n.now) names
each_more kind before t [] = refl
each_more kind before t (n ∷ ns) = rw (came_more kind before t n.now, each_more kind before t ns) refl

pub none_of : (kind : NameKind) (names : List (Bor (List ℕ))) → replicate (length names) nothing_came ≡ map (λ n. came_of kind [] n.now) names
none_of kind [] = refl
none_of kind (n ∷ ns) = ap (λ (cs : List Came). nothing_came ∷ cs) (none_of kind ns)

-- ---- one name more

set_next : (kind : NameKind) (names : List (Bor (List ℕ))) (came : List Came) (t : Name) (i : ℕ) (d : Bor (List ℕ)) (e : Came) → i < length names → i < length came → set (each_with kind (take i names) came t) i (came_with kind (get_or names i d).now (get_or (each_with kind (take i names) came t) i e) t) ≡ each_with kind (take (suc i) names) came t
set_next kind [] came t i d e h k = absurd (omega (arith, h))
set_next kind (n ∷ ns) [] t i d e h k = absurd (omega (arith, k))
set_next kind (n ∷ ns) (c ∷ cs) t zero d e h k = refl
set_next kind (n ∷ ns) (c ∷ cs) t (suc i) d e h k = ap (λ (xs : List Came). came_with kind n.now c t ∷ xs) (set_next kind ns cs t i d e (omega (arith, h)) (omega (arith, k)))

pub set_more : (kind : NameKind) (names : List (Bor (List ℕ))) (came : List Came) (t : Name) (i : ℕ) (d : Bor (List ℕ)) (e : Came) → i < length names → i < length came → set (each_with kind (take i names) came t) i (came_with kind (get_or names i d).now (get_or (each_with kind (take i names) came t) i e) t) ≡ each_with kind (take (i + 1) names) came t
set_more kind names came t i d e h k = rw add-one (set_next kind names came t i d e h k)

pub each_whole : (kind : NameKind) (names : List (Bor (List ℕ))) (came : List Came) (t : Name) (i : ℕ) → min (length came) (length names) ≤ i → each_with kind (take i names) came t ≡ each_with kind names came t
each_whole kind [] came t zero h = refl
each_whole kind [] came t (suc i) h = refl
each_whole kind (n ∷ ns) [] t zero h = refl
each_whole kind (n ∷ ns) [] t (suc i) h = refl
each_whole kind (n ∷ ns) (c ∷ cs) t zero h = absurd (omega (arith, h))
each_whole kind (n ∷ ns) (c ∷ cs) t (suc i) h = ap (λ (xs : List Came). came_with kind n.now c t ∷ xs) (each_whole kind ns cs t i (omega (arith, h)))

missing_next : (kind : NameKind) (names : List (Bor (List ℕ))) (came : List Came) (i : ℕ) (d : Bor (List ℕ)) (e : Came) → i < length names → i < length came → missing_in kind (take (suc i) names) came ≡ missing_in kind (take i names) came ++ missing_one kind (get_or names i d) (get_or came i e)
missing_next kind [] came i d e h k = absurd (omega (arith, h))
missing_next kind (n ∷ ns) [] i d e h k = absurd (omega (arith, k))
missing_next kind (n ∷ ns) (c ∷ cs) zero d e h k = append-nil (missing_one kind n c)
missing_next kind (n ∷ ns) (c ∷ cs) (suc i) d e h k =
    ap (λ (xs : List MissingName). missing_one kind n c ++ xs) (missing_next kind ns cs i d e (omega (arith, h)) (omega (arith, k)))
    ∙ sym (append_assoc (missing_one kind n c) (missing_in kind (take i ns) cs) (missing_one kind (get_or ns i d) (get_or cs i e)))

pub missing_more : (kind : NameKind) (names : List (Bor (List ℕ))) (came : List Came) (i : ℕ) (d : Bor (List ℕ)) (e : Came) → i < length names → i < length came → missing_in kind (take (i + 1) names) came ≡ missing_in kind (take i names) came ++ missing_one kind (get_or names i d) (get_or came i e)
missing_more kind names came i d e h k = rw add-one (missing_next kind names came i d e h k)

pub missing_whole : (kind : NameKind) (names : List (Bor (List ℕ))) (came : List Came) (i : ℕ) → min (length names) (length came) ≤ i → missing_in kind (take i names) came ≡ missing_in kind names came
missing_whole kind [] came zero h = refl
missing_whole kind [] came (suc i) h = refl
missing_whole kind (n ∷ ns) [] zero h = refl
missing_whole kind (n ∷ ns) [] (suc i) h = refl
missing_whole kind (n ∷ ns) (c ∷ cs) zero h = absurd (omega (arith, h))
missing_whole kind (n ∷ ns) (c ∷ cs) (suc i) h = ap (λ (xs : List MissingName). missing_one kind n c ++ xs) (missing_whole kind ns cs i (omega (arith, h)))

-- ---- what is missing

pub is_kept : (kind : NameKind) (n : Bor (List ℕ)) (c : Came) → c.exactly ≡ false → missing_one kind n c ≡ record { kind = kind; name = n; has_other_case = c.in_any_case } ∷ []
is_kept kind n c h = ap (λ (b : Bool). if b then [] else record { kind = kind; name = n; has_other_case = c.in_any_case } ∷ []) h

pub is_left_out : (kind : NameKind) (n : Bor (List ℕ)) (c : Came) → c.exactly ≡ true → missing_one kind n c ≡ []
is_left_out kind n c h = ap (λ (b : Bool). if b then [] else record { kind = kind; name = n; has_other_case = c.in_any_case } ∷ []) h

one_or_none : (b : Bool) (m : MissingName) (xs : List MissingName) → ((if b then [] else m ∷ []) ++ xs) ≡ cond (not b) (m ∷ xs) xs
one_or_none true m xs = refl
one_or_none false m xs = refl

mapped : {A B : Type 0} (f : A → B) (b : Bool) (x : A) (xs : List A) → cond b (f x ∷ map f xs) (map f xs) ≡ map f (cond b (x ∷ xs) xs)
mapped f true x xs = refl
mapped f false x xs = refl

pub missing_are : (kind : NameKind) (seen : List Name) (names : List (Bor (List ℕ))) → missing_in kind names (map (λ n. came_of kind seen n.now) names) ≡ missing_of kind seen names
missing_are kind seen [] = refl
missing_are kind seen (n ∷ ns) =
    let one : Bor (List ℕ) → MissingName = λ n. record { kind = kind; name = n; has_other_case = list_any (names_alike kind n.now) seen } in
    let is_missing : Bor (List ℕ) → Bool = λ n. not (list_any (names_it kind n.now) seen) in
    ap (λ (xs : List MissingName). missing_one kind n (came_of kind seen n.now) ++ xs) (missing_are kind seen ns)
    ∙ one_or_none (list_any (names_it kind n.now) seen) (one n) (missing_of kind seen ns)
    ∙ mapped one (is_missing n) n (filter is_missing ns)
