-- Columns asked in turn for whether they are keys.
use Rattle.std.proofs.Common.{◌≡◌, ℕ, suc, ◌+◌, ◌<◌, ◌≤◌, Bool, true, false, cond, ◌&&◌, eqb, ltb, List, [], ◌∷◌, ◌++◌, length, Option, Some, None, Result, Ok, Err, refl, sym, ap, ◌∙◌, arith, inl, inr, add-one}
use Rattle.std.proofs.lemmas.Bool.{ltb-true, ltb-false, eqb-true, eqb-false, ne_eqb, cases_Bool}
use Rattle.std.proofs.Math.Dec.{eqb-suc-suc, eqb-zero-suc}
use Rattle.binlog_base.specs.declared.fault.Fault.{Fault}
use Rattle.binlog_base.specs.Items.{before_fault, first_fault}
use Rattle.binlog_table.specs.Keys.{increasing_prefix, IsIncreasing, IsLongestIncreasing, increasing_from, after_from, contains, unless, key_at}
use Rattle.binlog_table.specs.Workings.KeysLeft.{Agree, next_if, key_from, key_left}

-- no column below low is a key
pub key_below : (low : ℕ) (keys : List (Result ℕ Fault)) (i : ℕ) → i < low → key_from low keys i ≡ Ok false
key_below low [] i lt = refl
key_below low (Err e ∷ keys) i lt = rw (ne_eqb i low (λ h. omega (arith, h, lt))) refl
key_below low (Ok n ∷ keys) i lt = elim (cases_Bool (ltb n low)) [
  | inl under ↦ rw under refl
  | inr over ↦
      let le : low ≤ n = ltb-false n low over in
      rw (over, ne_eqb i n (λ h. omega (arith, h, lt, le))) (key_below (suc n) keys i (omega (arith, lt, le)))
]

not_taken : {A : Type 0} (b : Bool) (x : A) (left taken kept : List A) → ◌≡◌ {A = Option A × List A} (None, left) (cond b (Some x, taken) (None, kept)) → b ≡ false
not_taken {A} true x left taken kept h = let apart : None ≡ Some x = ap (λ (p : Option A × List A). p.0) h in absurd cc
not_taken false x left taken kept h = refl

-- where the head isn't the column that was asked for, that column is no key
pub key_passed : (i : ℕ) (keys left : List (Result ℕ Fault)) → (None, left) ≡ next_if i keys → key_from i keys i ≡ Ok false
key_passed i [] left h = refl
key_passed i (Err e ∷ keys) left h = let apart : None ≡ Some (Err e) = ap (λ (p : Option (Result ℕ Fault) × List (Result ℕ Fault)). p.0) h in absurd cc
key_passed i (Ok n ∷ keys) left h =
    let other = not_taken (eqb n i) (Ok n) left keys (Ok n ∷ keys) h in
    elim (cases_Bool (ltb n i)) [
      | inl under ↦ rw under refl
      | inr over ↦
          let le : i ≤ n = ltb-false n i over in
          rw (over, ne_eqb i n (λ e. eqb-false n i other (sym e))) (key_below (suc n) keys i (omega (arith, le)))
    ]

-- the keys left tell what the definition tells

after_above : (low : ℕ) (ns : List ℕ) → low ≤ after_from low (increasing_from low ns)
after_above low [] = omega arith
after_above low (n ∷ ns) = elim (cases_Bool (ltb n low)) [
  | inl under ↦ rw under (omega arith)
  | inr over ↦ let le : low ≤ n = ltb-false n low over in rw over (omega (arith, le, after_above (suc n) ns))
]

no_fault : (b : Bool) → Ok false ≡ unless (cond b None None) false
no_fault true = refl
no_fault false = refl

one_fault : (b : Bool) (e : Fault) → cond b (Err e) (Ok false) ≡ unless (cond b (Some e) None) false
one_fault true e = refl
one_fault false e = refl

none_by_right : (a b : Bool) (fault : Option Fault) (x : Bool) → b ≡ false → Ok x ≡ unless (cond (a && b) fault None) x
none_by_right true b fault x h = rw h refl
none_by_right false b fault x h = refl

key_law_from : (low : ℕ) (keys : List (Result ℕ Fault)) (i : ℕ) → key_from low keys i ≡
    (let prefix = increasing_from low (before_fault keys) in
    unless (cond (eqb (length prefix) (length (before_fault keys)) && eqb i (after_from low prefix)) (first_fault keys) None) (contains i prefix))
key_law_from low [] i = no_fault (eqb i low)
key_law_from low (Err e ∷ keys) i = one_fault (eqb i low) e
key_law_from low (Ok n ∷ keys) i = elim (cases_Bool (ltb n low)) [
  | inl under ↦ rw (under, eqb-zero-suc (length (before_fault keys))) refl
  | inr over ↦ elim (cases_Bool (eqb i n)) [
    | inl same ↦
        let above = after_above (suc n) (before_fault keys) in
        let is : i ≡ n = eqb-true i n same in
        rw (over, same) (none_by_right _ _ (first_fault keys) true (ne_eqb i _ (λ h. omega (arith, h, above, is))))
    | inr other ↦ rw (over, other, eqb-suc-suc (length (increasing_from (suc n) (before_fault keys))) (length (before_fault keys))) (key_law_from (suc n) keys i)
  ]
]

pub key_law : (keys : List (Result ℕ Fault)) → Agree 0 (key_from 0 keys) (key_at keys)
unfolding key_at
key_law keys i le = key_law_from 0 keys i

-- ---- the prefix is the longest

longest_from : (low : ℕ) (ns : List ℕ) → (rest : List ℕ) × (ns ≡ increasing_from low ns ++ rest) × IsIncreasing low (increasing_from low ns) ×
    ((m : ℕ) (more : List ℕ) → rest ≡ m ∷ more → ¬ IsIncreasing low (increasing_from low ns ++ m ∷ []))
longest_from low [] = ([], refl, tt, λ m more h inc. absurd cc)
longest_from low (n ∷ ns) = elim (cases_Bool (ltb n low)) [
  | inl under ↦
      let lt : n < low = ltb-true n low under in
      rw under (n ∷ ns, refl, tt, λ m more h inc. let is : n ≡ m = cc in omega (arith, inc.0, is, lt))
  | inr over ↦
      let le : low ≤ n = ltb-false n low over in
      let later = longest_from (suc n) ns in
      rw over (later.0, ap (λ (l : List ℕ). n ∷ l) later.1, (le, later.2), λ m more h inc. later.3 m more h inc.1)
]

pub prefix_is_longest : (ns : List ℕ) → IsLongestIncreasing ns (increasing_prefix ns)
prefix_is_longest ns = longest_from 0 ns

-- ---- one column after another

pub key_now : (column : ℕ) (keys : List (Result ℕ Fault)) → key_left column keys 0 ≡ key_from column keys column
key_now column keys = let at : column + 0 ≡ column = omega arith in ap (key_from column keys) at

pub key_later : (column : ℕ) (keys left : List (Result ℕ Fault)) → ((i : ℕ) → column < i → key_from (suc column) left i ≡ key_from column keys i) → (j : ℕ) → key_left (column + 1) left j ≡ key_left column keys (suc j)
key_later column keys left h j =
    let at : column + 1 + j ≡ column + suc j = omega arith in
    rw (add-one column, ← add-one column, at) (rw (add-one column) (h (column + suc j) (omega arith)))

pub keys_of_table : (keys : List (Result ℕ Fault)) (i : ℕ) → key_left 0 keys i ≡ key_at keys i
keys_of_table keys i = let at : 0 + i ≡ i = omega arith in ap (key_from 0 keys) at ∙ key_law keys i (omega arith)
