-- The columns of an image by the numbers of its bits.
use Rattle.std.proofs.Common.{◌≡◌, ◌<◌, ◌≤◌, ◌+◌, ℕ, zero, suc, length, subst, add-one, Bool, true, false, List, [], ◌∷◌, drop, get_or, refl, ap, sym, ◌∙◌, arith, inl, inr}
use Rattle.std.specs.Prelude.{Option}
use Rattle.std.proofs.lemmas.List.{drop_more, drop_all, drop-drop}
use Rattle.binlog_cells.specs.Cells.{Cell}
use Rattle.row_json.specs.declared.row.Part.{Part}
use Rattle.row_json.specs.Columns.{Column, columns_in, set_from}
use Rattle.row_json.specs.Rows.{AreMembers}
use Rattle.row_json.specs.Wrote.{Named}
use Rattle.row_json.proofs.Columns.{true_at, false_at}

-- the first bit that is set has number x: so many bits before it aren't
pub record First (bits : List Bool) (i x : ℕ) (left : List ℕ) : Type 0 where
  pub before : ℕ
  pub number : x ≡ i + before
  pub set : get_or bits before false ≡ true
  pub rest : left ≡ set_from (suc x) (drop (suc before) bits)
  pub members : (p : Part) (cs : List Column) (place : ℕ) (values : List (Option Cell)) (ms : List Named) → AreMembers p (drop before cs) (drop before bits) place values ms → AreMembers p cs bits place values ms
  pub count : (cs : List Column) → length (columns_in cs bits) ≡ length (columns_in (drop before cs) (drop before bits))

head_is : {X : Type 0} (d : X) (x y : X) (xs ys : List X) → x ∷ xs ≡ y ∷ ys → x ≡ y
head_is d x y xs ys e = ap (λ l. get_or l 0 d) e

tail_is : {X : Type 0} (x y : X) (xs ys : List X) → x ∷ xs ≡ y ∷ ys → xs ≡ ys
tail_is x y xs ys e = ap (λ l. drop 1 l) e

members_past : (n : ℕ) (bits : List Bool) → ((p : Part) (cs : List Column) (place : ℕ) (values : List (Option Cell)) (ms : List Named) → AreMembers p (drop n cs) (drop n bits) place values ms → AreMembers p cs bits place values ms) →
    (p : Part) (cs : List Column) (place : ℕ) (values : List (Option Cell)) (ms : List Named) → AreMembers p (drop (suc n) cs) (drop n bits) place values ms → AreMembers p cs (false ∷ bits) place values ms
members_past n bits later p [] place values ms are = are
members_past n bits later p (c ∷ cs) place values ms are = later p cs place values ms are

count_past : (n : ℕ) (bits : List Bool) → ((cs : List Column) → length (columns_in cs bits) ≡ length (columns_in (drop n cs) (drop n bits))) →
    (cs : List Column) → length (columns_in cs (false ∷ bits)) ≡ length (columns_in (drop (suc n) cs) (drop n bits))
count_past n bits later [] = refl
count_past n bits later (c ∷ cs) = later cs

first_set : (bits : List Bool) (i x : ℕ) (rest : List ℕ) → set_from i bits ≡ x ∷ rest → First bits i x rest
first_set [] i x rest e = absurd (omega (arith, ap length e))
first_set (true ∷ bits) i x rest e =
    let here : i ≡ x = head_is 0 i x (set_from (suc i) bits) rest e in
    let more : set_from (suc i) bits ≡ rest = tail_is i x (set_from (suc i) bits) rest e in record {
      before = 0;
      number = omega (arith, here);
      set = refl;
      rest = sym more ∙ ap (λ n. set_from (suc n) bits) here;
      members = λ p cs place values ms are. are;
      count = λ cs. refl;
    }
first_set (false ∷ bits) i x rest e =
    let f = first_set bits (suc i) x rest e in record {
      before = suc f.before;
      number = omega (arith, f.number);
      set = f.set;
      rest = f.rest;
      members = members_past f.before bits f.members;
      count = count_past f.before bits f.count;
    }

none_set : (bits : List Bool) (i : ℕ) → set_from i bits ≡ [] → (p : Part) (cs : List Column) (place : ℕ) (values : List (Option Cell)) → AreMembers p cs bits place values []
none_set bits i e p [] place values = refl
none_set [] i e p (c ∷ cs) place values = refl
none_set (true ∷ bits) i e p (c ∷ cs) place values = absurd (omega (arith, ap length e))
none_set (false ∷ bits) i e p (c ∷ cs) place values = none_set bits (suc i) e p cs place values

none_counted : (bits : List Bool) (i : ℕ) → set_from i bits ≡ [] → (cs : List Column) → length (columns_in cs bits) ≡ 0
none_counted bits i e [] = refl
none_counted [] i e (c ∷ cs) = refl
none_counted (true ∷ bits) i e (c ∷ cs) = absurd (omega (arith, ap length e))
none_counted (false ∷ bits) i e (c ∷ cs) = none_counted bits (suc i) e cs

-- ---- of all bits, those from bit i on

-- the next bit that is set
pub record Next (bits : List Bool) (i x : ℕ) (left : List ℕ) : Type 0 where
  pub later : i ≤ x
  pub set : get_or bits x false ≡ true
  pub rest : left ≡ set_from (x + 1) (drop (x + 1) bits)
  pub members : (p : Part) (cs : List Column) (place : ℕ) (values : List (Option Cell)) (ms : List Named) → AreMembers p (drop x cs) (drop x bits) place values ms → AreMembers p (drop i cs) (drop i bits) place values ms
  pub count : (cs : List Column) → length (columns_in (drop i cs) (drop i bits)) ≡ length (columns_in (drop x cs) (drop x bits))

later_number : (i n : ℕ) → suc (i + n) ≡ suc i + n
later_number i n = omega arith

get_drop : (bits : List Bool) (i n : ℕ) → get_or (drop i bits) n false ≡ get_or bits (i + n) false
get_drop bits zero n = ap (λ (m : ℕ). get_or bits m false) (omega arith)
get_drop [] (suc i) n = refl
get_drop (b ∷ bits) (suc i) n = get_drop bits i n ∙ ap (λ (m : ℕ). get_or (b ∷ bits) m false) (later_number i n)

pub next_set : (bits : List Bool) (i x : ℕ) (rest : List ℕ) → x ∷ rest ≡ set_from i (drop i bits) → Next bits i x rest
next_set bits i x rest e =
    let f = first_set (drop i bits) i x rest (sym e) in
    let at : x ≡ i + f.before = f.number in
    let past : i + suc f.before ≡ x + 1 = omega (arith, at) in record {
      later = omega (arith, at);
      set = ap (λ n. get_or bits n false) at ∙ (sym (get_drop bits i f.before) ∙ f.set);
      rest = f.rest ∙ (ap (λ bs. set_from (suc x) bs) (drop-drop (suc f.before) i bits) ∙ (ap (λ n. set_from (suc x) (drop n bits)) past ∙ ap (λ n. set_from n (drop (x + 1) bits)) (sym (add-one x))));
      members = λ p cs place values ms are. f.members p (drop i cs) place values ms
          (subst (λ (ds : List Column). AreMembers p ds (drop f.before (drop i bits)) place values ms) (sym (drop-drop f.before i cs))
          (subst (λ (bs : List Bool). AreMembers p (drop (i + f.before) cs) bs place values ms) (sym (drop-drop f.before i bits))
          (subst (λ (n : ℕ). AreMembers p (drop n cs) (drop n bits) place values ms) at are)));
      count = λ cs. f.count (drop i cs) ∙ (ap (λ ds. length (columns_in ds (drop f.before (drop i bits)))) (drop-drop f.before i cs) ∙ (ap (λ bs. length (columns_in (drop (i + f.before) cs) bs)) (drop-drop f.before i bits) ∙ ap (λ n. length (columns_in (drop n cs) (drop n bits))) (sym at)));
    }

-- after the last bit that is set
pub after_set : (bits : List Bool) (i : ℕ) → [] ≡ set_from i (drop i bits) → (p : Part) (cs : List Column) (place : ℕ) (values : List (Option Cell)) → AreMembers p (drop i cs) (drop i bits) place values []
after_set bits i e p cs place values = none_set (drop i bits) i (sym e) p (drop i cs) place values

pub after_counted : (bits : List Bool) (i : ℕ) → [] ≡ set_from i (drop i bits) → (cs : List Column) → length (columns_in (drop i cs) (drop i bits)) ≡ 0
after_counted bits i e cs = none_counted (drop i bits) i (sym e) (drop i cs)

-- a number that is read is the first of those that are left
pub left_at : (xs : List ℕ) (k x : ℕ) → k < length xs → x ≡ get_or xs k x → drop k xs ≡ x ∷ drop (k + 1) xs
left_at xs k x b e = drop_more xs k x b ∙ ap (λ (y : ℕ). y ∷ drop (k + 1) xs) (sym e)

-- ---- the list is made

pub set_here : (bits : List Bool) (i : ℕ) → get_or bits i false ≡ true → set_from i (drop i bits) ≡ i ∷ set_from (i + 1) (drop (i + 1) bits)
set_here bits i e = rw (true_at bits i e, add-one i) refl

pub not_set_here : (bits : List Bool) (i : ℕ) → get_or bits i false ≡ false → set_from i (drop i bits) ≡ set_from (i + 1) (drop (i + 1) bits)
not_set_here bits i e = elim (false_at bits i e) [ inl q ↦ rw (q, add-one i) refl | inr q ↦ rw (q.0, add-one i, q.1) refl ]

pub none_here : (bits : List Bool) (i : ℕ) → length bits ≤ i → set_from i (drop i bits) ≡ []
none_here bits i b = rw (drop_all i bits b) refl

-- the number at a place of a list, of which the first so many are of the bits before i
pub next_at : (bits : List Bool) (places : List ℕ) (k i : ℕ) → k < length places → drop k places ≡ set_from i (drop i bits) → Next bits i (get_or places k 0) (drop (k + 1) places)
next_at bits places k i b e = next_set bits i (get_or places k 0) (drop (k + 1) places) (sym (drop_more places k 0 b) ∙ e)

pub no_more : (bits : List Bool) (places : List ℕ) (k i : ℕ) → length places ≤ k → drop k places ≡ set_from i (drop i bits) → [] ≡ set_from i (drop i bits)
no_more bits places k i b e = sym (drop_all k places b) ∙ e
