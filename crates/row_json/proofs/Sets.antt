-- The names of a SET, joined one by one.
use Rattle.std.proofs.Common.{◌≡◌, ℕ, ◌/◌, ◌%◌, ◌<◌, ◌+◌, length, drop, map, get_or, Bool, true, false, List, [], ◌∷◌, ◌++◌, arith, refl, sym, ap, ◌∙◌, append_assoc, append-nil}
use Rattle.std.proofs.lemmas.List.{drop_more, drop-map}
use Rattle.std.specs.Prelude.{Option, Some, None, ◌==◌, if◌then◌else◌, codes}
use Rattle.std.specs.Option.{option_map}
use Rattle.std.specs.List.{join_with_byte}
use Rattle.row_json.specs.Values.{set_names, with_name}

abbrev pub Names : Type 0
Names = List (List ℕ)

abbrev pub is_none : Names → Bool
is_none [] = true
is_none (n ∷ ns) = false

-- the names so far, and those that follow
abbrev pub after : Names → Option Names → Option Names
after done rest = option_map (λ (more : Names). done ++ more) rest

pub set_step : (name : List ℕ) (names : List (Option (List ℕ))) (left : ℕ) (done : Names) → (left % 2 == 1) ≡ true → after done (set_names (Some name ∷ names) left) ≡ after (done ++ name ∷ []) (set_names names (left / 2))
set_step name names left done e =
    rw e (elim (set_names names (left / 2)) as (λ o. after done (with_name (Some name) o) ≡ after (done ++ name ∷ []) o) [ Some more ↦ ap Some (sym (append_assoc done (name ∷ []) more)) | None ↦ refl ])

pub unset_step : (name : Option (List ℕ)) (names : List (Option (List ℕ))) (left : ℕ) (done : Names) → (left % 2 == 1) ≡ false → after done (set_names (name ∷ names) left) ≡ after done (set_names names (left / 2))
unset_step name names left done e = rw e refl

pub join_more : (done : Names) (name : List ℕ) → join_with_byte 44 (done ++ name ∷ []) ≡ join_with_byte 44 done ++ (if is_none done then name else codes "," ++ name)
join_more [] name = refl
join_more (x ∷ []) name = refl
join_more (x ∷ y ∷ xs) name =
    ap (λ (l : List ℕ). x ++ (44 ∷ l)) (join_more (y ∷ xs) name) ∙ sym (append_assoc x (44 ∷ join_with_byte 44 (y ∷ xs)) _)

pub none_step : (names : List (Option (List ℕ))) (left : ℕ) (done : Names) → (left % 2 == 1) ≡ true → after done (set_names (None ∷ names) left) ≡ None
none_step names left done e = rw e refl

-- no bit is left, so no further name is needed
no_bits : (names : List (Option (List ℕ))) → set_names names 0 ≡ Some []
no_bits [] = refl
no_bits (name ∷ names) = no_bits names

pub all_named : (all : Option Names) (names : List (Option (List ℕ))) (left : ℕ) (done : Names) (text : List ℕ) → all ≡ after done (set_names names left) → left ≡ 0 → text ≡ join_with_byte 44 done → option_map (join_with_byte 44) all ≡ Some text
all_named all names left done text is none joined =
    ap (option_map (join_with_byte 44)) (is ∙ (ap (λ (n : ℕ). after done (set_names names n)) none ∙ (ap (after done) (no_bits names) ∙ ap Some (append-nil done)))) ∙ ap Some (sym joined)

pub even : (left : ℕ) → left % 2 ≡ 0 → (left % 2 == 1) ≡ false
even left h = ap (λ n. n == 1) h

pub odd : (left : ℕ) → (left % 2 ≡ 0 → ⊥) → (left % 2 == 1) ≡ true
odd left h = let one : left % 2 ≡ 1 = grind (arith, h) in ap (λ n. n == 1) one

pub not_none : (done : Names) (name : List ℕ) → false ≡ is_none (done ++ name ∷ [])
not_none [] name = refl
not_none (x ∷ xs) name = refl

pub name_joined : (old new s name : List ℕ) (first : Bool) (done : Names) → new ≡ old ++ (if first then s else codes "," ++ s) → old ≡ join_with_byte 44 done → first ≡ is_none done → s ≡ name → new ≡ join_with_byte 44 (done ++ name ∷ [])
name_joined old new s name first done pushed so_far is_first is =
    pushed ∙ (ap (λ (l : List ℕ). l ++ (if first then s else codes "," ++ s)) so_far ∙ (ap (λ (b : Bool). join_with_byte 44 done ++ (if b then s else codes "," ++ s)) is_first
    ∙ (ap (λ (t : List ℕ). join_with_byte 44 done ++ (if is_none done then t else codes "," ++ t)) is ∙ sym (join_more done name))))

pub drop_mapped : {X Y : Type 0} (f : X → Y) (xs : List X) (i : ℕ) (x : X) → i < length xs → x ≡ get_or xs i x → drop i (map f xs) ≡ f x ∷ drop (i + 1) (map f xs)
drop_mapped {X} {Y} f xs i x b e =
    drop-map f i xs ∙ (ap (map f) (drop_more xs i x b ∙ ap (λ (y : X). y ∷ drop (i + 1) xs) (sym e)) ∙ ap (λ (l : List Y). f x ∷ l) (sym (drop-map f (i + 1) xs)))
