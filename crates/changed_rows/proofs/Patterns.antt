-- Lemmas on patterns.
use Rattle.std.proofs.Common.{◌≡◌, ◌<◌, ◌+◌, ◌⊎◌, inl, inr, ℕ, zero, suc, Bool, true, false, List, [], ◌∷◌, length, take, drop, get_or, Option, Some, None, refl, sym, ap, subst, ◌∙◌, arith, add-one}
use Rattle.std.specs.Borrow.{Bor}
use Rattle.std.specs.Prelude.{◌||◌, ◌&&◌, ◌==◌, not, if◌then◌else◌}
use Rattle.std.specs.List.{list_any, range_with_len}
use Rattle.std.specs.Option.{option_map_or}
use Rattle.std.proofs.lemmas.List.Folds.{list_any_at}
use Rattle.std.proofs.lemmas.List.FromFn.{length-range_with_len, get_or-range_with_len}
use Rattle.std.proofs.lemmas.List.Sums.{fold_more}
use Rattle.changed_rows.specs.declared.pattern.Case.{Case}
use Rattle.changed_rows.specs.declared.pattern.Single.{Single}
use Rattle.changed_rows.specs.declared.pattern.Single.TheVariants as single
use Rattle.changed_rows.specs.declared.pattern.Part.{Part}
use Rattle.changed_rows.specs.declared.pattern.Part.TheVariants as part
use Rattle.changed_rows.specs.declared.pattern.Walk.{Walk}
use Rattle.changed_rows.specs.declared.pattern.Walk.TheVariants as walk
use Rattle.changed_rows.specs.Patterns.{is_continuation, past_continuation, is_same, behind, parts_of, ends_of, matches_parts, matches, takes_next}
use Rattle.changed_rows.specs.Workings.Walks.{is_found, is_match, IsFirstPlace}

-- ---- tests

pub or_true : (x y : Bool) → (x || y) ≡ true → (x ≡ true) ⊎ (y ≡ true)
or_true true y h = inl refl
or_true false y h = inr h

or_left : (x y : Bool) → x ≡ true → (x || y) ≡ true
or_left true y h = refl
or_left false y h = cc

or_right : (x y : Bool) → y ≡ true → (x || y) ≡ true
or_right true y h = refl
or_right false y h = h

or_first : (x y : Bool) → x ≡ false → (x || y) ≡ y
or_first true y h = cc
or_first false y h = refl

or_false : (x : Bool) → (x || false) ≡ x
or_false true = refl
or_false false = refl

pub and_true : (x y : Bool) → x ≡ true → y ≡ true → (x && y) ≡ true
and_true true y h k = k
and_true false y h k = h

pub and_left : (x y : Bool) → x ≡ false → (x && y) ≡ false
and_left true y h = cc
and_left false y h = refl

pub and_right : (x y : Bool) → y ≡ false → (x && y) ≡ false
and_right true y h = h
and_right false y h = refl

pub same_truth : (x y : Bool) → (x ≡ true → y ≡ true) → (y ≡ true → x ≡ true) → x ≡ y
same_truth true y f g = sym (f refl)
same_truth false true f g = g refl
same_truth false false f g = refl

-- ---- the ends of a text

-- the first text is one of the ends of the second
abbrev pub IsEnd : List ℕ → List ℕ → Type 0
IsEnd t [] = t ≡ []
IsEnd t (b ∷ bs) = (t ≡ b ∷ bs) ⊎ IsEnd t bs

end_whole : (s : List ℕ) → IsEnd s s
end_whole [] = refl
end_whole (b ∷ bs) = inl refl

end_trans : (t s u : List ℕ) → IsEnd t s → IsEnd s u → IsEnd t u
end_trans t s [] h k = subst (λ (x : List ℕ). IsEnd t x) k h
end_trans t s (b ∷ bs) h k = elim k [ inl e ↦ subst (λ (x : List ℕ). IsEnd t x) e h | inr j ↦ inr (end_trans t s bs h j) ]

end_rest : (d c : ℕ) (ds cs : List ℕ) → IsEnd (d ∷ ds) (c ∷ cs) → IsEnd ds cs
end_rest d c ds cs h = elim h [
  | inl e ↦ subst (λ (x : List ℕ). IsEnd ds x) (ap (drop 1) e) (end_whole ds)
  | inr j ↦ end_trans ds (d ∷ ds) cs (inr (end_whole ds)) j
]

any_at_end : (p : List ℕ → Bool) (t s : List ℕ) → IsEnd t s → p t ≡ true → list_any p (ends_of s) ≡ true
any_at_end p t [] h k = or_left (p []) false (ap p (sym h) ∙ k)
any_at_end p t (b ∷ bs) h k = elim h [
  | inl e ↦ or_left (p (b ∷ bs)) (list_any p (ends_of bs)) (ap p (sym e) ∙ k)
  | inr j ↦ or_right (p (b ∷ bs)) (list_any p (ends_of bs)) (any_at_end p t bs j k)
]

end_of_any : (p : List ℕ → Bool) (s : List ℕ) → list_any p (ends_of s) ≡ true → (t : List ℕ) × (IsEnd t s × (p t ≡ true))
end_of_any p [] h = ([], (refl, sym (or_false (p [])) ∙ h))
end_of_any p (b ∷ bs) h = elim (or_true (p (b ∷ bs)) (list_any p (ends_of bs)) h) [
  | inl e ↦ ((b ∷ bs), (inl refl, e))
  | inr j ↦ let w = end_of_any p bs j in (w.0, (inr w.1.0, w.1.1))
]

-- ---- one place

past_is_end : (s : List ℕ) → IsEnd (past_continuation s) s
past_is_end [] = refl
past_is_end (b ∷ bs) = elim (is_continuation b) as (λ v. IsEnd (if v then bs else b ∷ bs) (b ∷ bs)) [ true ↦ inr (end_whole bs) | false ↦ inl refl ]

past_ends : (t s : List ℕ) → IsEnd t s → IsEnd (past_continuation t) (past_continuation s)
past_ends t [] h = ap past_continuation h
past_ends t (c ∷ cs) h = elim h [
  | inl e ↦ subst (λ (x : List ℕ). IsEnd (past_continuation t) (past_continuation x)) e (end_whole (past_continuation t))
  | inr j ↦
      let inside : IsEnd (past_continuation t) cs = end_trans (past_continuation t) t cs (past_is_end t) j in
      elim (is_continuation c) as (λ v. IsEnd (past_continuation t) (if v then cs else c ∷ cs)) [ true ↦ inside | false ↦ inr inside ]
]

if_some : (b : Bool) (x y : List ℕ) → (if b then Some x else None) ≡ Some y → x ≡ y
if_some true x y h = cc
if_some false x y h = cc

behind_ends : (k : Case) (s : Single) (t name u rest : List ℕ) → IsEnd t name → behind k s t ≡ Some u → behind k s name ≡ Some rest → IsEnd u rest
behind_ends k single.Character [] name u rest h i j = cc
behind_ends k single.Character (d ∷ ds) [] u rest h i j = cc
behind_ends k single.Character (d ∷ ds) (c ∷ cs) u rest h i j =
    let past : List ℕ → List ℕ = λ x. past_continuation (past_continuation (past_continuation x)) in
    let one : past ds ≡ u = cc in
    let two : past cs ≡ rest = cc in
    let e1 = past_ends ds cs (end_rest d c ds cs h) in
    let e2 = past_ends (past_continuation ds) (past_continuation cs) e1 in
    let e3 = past_ends (past_continuation (past_continuation ds)) (past_continuation (past_continuation cs)) e2 in
    subst (λ (x : List ℕ). IsEnd x rest) one (subst (λ (x : List ℕ). IsEnd (past ds) x) two e3)
behind_ends k (single.Byte a) [] name u rest h i j = cc
behind_ends k (single.Byte a) (d ∷ ds) [] u rest h i j = cc
behind_ends k (single.Byte a) (d ∷ ds) (c ∷ cs) u rest h i j =
    let one : ds ≡ u = if_some (is_same k a d) ds u i in
    let two : cs ≡ rest = if_some (is_same k a c) cs rest j in
    subst (λ (x : List ℕ). IsEnd x rest) one (subst (λ (x : List ℕ). IsEnd ds x) two (end_rest d c ds cs h))

some_of_map : (p : List ℕ → Bool) (o : Option (List ℕ)) → option_map_or p o false ≡ true → (u : List ℕ) × ((o ≡ Some u) × (p u ≡ true))
some_of_map p None h = cc
some_of_map p (Some x) h = (x, (refl, h))

-- ---- steps along a pattern

pub match_more : (k : Case) (s : Single) (ps : List Part) (name rest : List ℕ) → behind k s name ≡ Some rest → matches_parts k (part.Single s ∷ ps) name ≡ matches_parts k ps rest
unfolding matches_parts
match_more k s ps name rest h = ap (λ (o : Option (List ℕ)). option_map_or (λ r. matches_parts k ps r) o false) h

pub match_end : (k : Case) (ps : List Part) (name : List ℕ) → ps ≡ [] → matches_parts k ps name ≡ (length name == 0)
unfolding matches_parts
match_end k ps name h = ap (λ (x : List Part). matches_parts k x name) h

pub match_apart : (k : Case) (s : Single) (ps : List Part) (name : List ℕ) → behind k s name ≡ None → matches_parts k (part.Single s ∷ ps) name ≡ false
unfolding matches_parts
match_apart k s ps name h = ap (λ (o : Option (List ℕ)). option_map_or (λ r. matches_parts k ps r) o false) h

-- behind a `*`: whatever matches from a later place does from the first one on, too
pub later_more : (k : Case) (s : Single) (ps : List Part) (name rest : List ℕ) → behind k s name ≡ Some rest → matches_parts k (part.Any ∷ part.Single s ∷ ps) name ≡ true → matches_parts k (part.Any ∷ ps) rest ≡ true
unfolding matches_parts
later_more k s ps name rest h is =
    let t = end_of_any (λ r. matches_parts k (part.Single s ∷ ps) r) name is in
    let u = some_of_map (λ r. matches_parts k ps r) (behind k s t.0) t.1.1 in
    any_at_end (λ r. matches_parts k ps r) u.0 rest (behind_ends k s t.0 name u.0 rest t.1.0 u.1.0 h) u.1.1

pub later_any : (k : Case) (ps : List Part) (name : List ℕ) → matches_parts k (part.Any ∷ part.Any ∷ ps) name ≡ true → matches_parts k (part.Any ∷ ps) name ≡ true
unfolding matches_parts
later_any k ps name is =
    let t = end_of_any (λ r. matches_parts k (part.Any ∷ ps) r) name is in
    let u = end_of_any (λ r. matches_parts k ps r) t.0 t.1.1 in
    any_at_end (λ r. matches_parts k ps r) u.0 name (end_trans u.0 t.0 name u.1.0 t.1.0) u.1.1

at_once : (k : Case) (ps : List Part) (name : List ℕ) → matches_parts k ps name ≡ true → matches_parts k (part.Any ∷ ps) name ≡ true
unfolding matches_parts
at_once k ps name is = any_at_end (λ r. matches_parts k ps r) name name (end_whole name) is

-- ---- the first place behind a `*`

pub found_is : (k : Case) (pattern name : List ℕ) (w : Walk) → is_found w ≡ true → is_match k w ≡ matches k pattern name → IsFirstPlace k pattern name w → is_match k w ≡ matches_parts k (part.Any ∷ parts_of pattern) name
found_is k pattern name (walk.Any rest left) found same first =
    same_truth (is_match k (walk.Any rest left)) (matches_parts k (part.Any ∷ parts_of pattern) name) (λ h. at_once k (parts_of pattern) name (sym same ∙ h)) first
found_is k pattern name (walk.End left) found same first = found ∙ sym (at_once k (parts_of pattern) name (sym same ∙ found))
found_is k pattern name walk.Apart found same first = cc

pub lost_is : (k : Case) (w : Walk) → is_found w ≡ false → is_match k w ≡ false
lost_is k (walk.Any rest left) lost = cc
lost_is k (walk.End left) lost = lost
lost_is k walk.Apart lost = refl

next_byte : (k : Case) (ps : List Part) (b : ℕ) (bs : List ℕ) → matches_parts k ps (b ∷ bs) ≡ false → matches_parts k (part.Any ∷ ps) (b ∷ bs) ≡ matches_parts k (part.Any ∷ ps) bs
unfolding matches_parts
next_byte k ps b bs h = or_first (matches_parts k ps (b ∷ bs)) (list_any (λ r. matches_parts k ps r) (ends_of bs)) h

pub next_place : (k : Case) (ps : List Part) (name : List ℕ) (b : ℕ) (rest : List ℕ) → name ≡ b ∷ rest → matches_parts k ps name ≡ false → matches_parts k (part.Any ∷ ps) name ≡ matches_parts k (part.Any ∷ ps) rest
next_place k ps name b rest e h =
    ap (λ (x : List ℕ). matches_parts k (part.Any ∷ ps) x) e ∙ next_byte k ps b rest (ap (λ (x : List ℕ). matches_parts k ps x) (sym e) ∙ h)

pub last_place : (k : Case) (ps : List Part) (name : List ℕ) → length name ≡ 0 → matches_parts k ps name ≡ false → matches_parts k (part.Any ∷ ps) name ≡ false
unfolding matches_parts
last_place k ps [] e h = or_false (matches_parts k ps []) ∙ h
last_place k ps (b ∷ bs) e h = absurd (omega (arith, e))

-- ---- the end of a walk

pub no_star : (k : Case) (w : Walk) → ((x y : Bor (List ℕ)) → w ≡ walk.Any x y → ⊥) → is_found w ≡ is_match k w
no_star k (walk.Any rest left) h = absurd (h rest left refl)
no_star k (walk.End left) h = refl
no_star k walk.Apart h = refl

-- ---- points

or_assoc : (x y z : Bool) → (x || (y || z)) ≡ ((x || y) || z)
or_assoc true y z = refl
or_assoc false y z = refl

any_next : (p : ℕ → Bool) (a n : ℕ) → list_any p (range_with_len a (suc n)) ≡ (list_any p (range_with_len a n) || p (a + n))
any_next p a zero = let e : a ≡ a + 0 = omega arith in or_false (p a) ∙ ap p e
any_next p a (suc n) =
    let e : a + 1 + n ≡ a + suc n = omega arith in
    ap (λ x. p a || x) (any_next p (a + 1) n)
    ∙ or_assoc (p a) (list_any p (range_with_len (a + 1) n)) (p (a + 1 + n))
    ∙ ap (λ (m : ℕ). (p a || list_any p (range_with_len (a + 1) n)) || p m) e

pub none_more : (p : ℕ → Bool) (n : ℕ) → list_any p (range_with_len 0 n) ≡ false → p n ≡ false → list_any p (range_with_len 0 (n + 1)) ≡ false
none_more p n h k =
    let e : 0 + n ≡ n = omega arith in
    rw add-one (any_next p 0 n ∙ or_first (list_any p (range_with_len 0 n)) (p (0 + n)) h ∙ ap p e ∙ k)

pub one_is : (p : ℕ → Bool) (n i : ℕ) → i < n → p i ≡ true → list_any p (range_with_len 0 n) ≡ true
one_is p n i h k =
    let e : 0 + i ≡ i = omega arith in
    let within : i < length (range_with_len 0 n) = omega (arith, length-range_with_len 0 n) in
    list_any_at p (range_with_len 0 n) i 0 within (ap p (get_or-range_with_len 0 n i 0 h ∙ e) ∙ k)

pub takes_more : (text : List ℕ) (i : ℕ) → i < length text → takes_next (take (i + 1) text) ≡ (get_or text i 0 == 92 && not (takes_next (take i text)))
takes_more text i h = fold_more (λ is_taken b. b == 92 && not is_taken) false text i 0 h
