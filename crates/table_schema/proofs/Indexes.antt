-- The indexes of a table, one after another.
use Rattle.std.proofs.Common.{◌≡◌, ℕ, zero, suc, ◌+◌, ◌<◌, ◌≤◌, ◌-◌, Bool, true, false, ◌==◌, if◌then◌else◌, List, [], ◌∷◌, ◌++◌, length, take, drop, get_or, refl, sym, ap, ◌∙◌, arith, add-one, append_assoc, append-nil, Some}
use Rattle.table_schema.specs.Lines.{KeyLine}
use Rattle.std.proofs.lemmas.List.{drop-drop}
use Rattle.std.specs.Prelude.{filter, unwrap_or}
use Rattle.std.specs.List.{find, list_all}
use Rattle.table_schema.specs.Schemas.{Column}
use Rattle.table_schema.specs.Files.{indexes_of, indexes_from, is_primary, is_whole, only, key_index}

split_step : (d : KeyLine) (ks : List KeyLine) (n : ℕ) → n < length ks → (take (suc n) ks ≡ take n ks ++ get_or ks n d ∷ []) × (drop n ks ≡ get_or ks n d ∷ drop (suc n) ks)
split_step d [] n h = absurd (omega (arith, h))
split_step d (k ∷ ks) zero h = (refl, refl)
split_step d (k ∷ ks) (suc n) h = let r = split_step d ks n (omega (arith, h)) in (ap (λ l. k ∷ l) r.0, r.1)

-- one more part of an index
pub index_more : (ks : List KeyLine) (n : ℕ) (k : KeyLine) → n < length ks → get_or ks n k ≡ k → (k.sequence == 1) ≡ false → indexes_from (take n ks) (drop n ks) ≡ indexes_from (take (n + 1) ks) (drop (n + 1) ks)
index_more ks n k h at no' =
    let s = split_step k ks n h in
    ap (indexes_from (take n ks)) (s.1 ∙ ap (λ x. x ∷ drop (suc n) ks) at)
    ∙ ap (λ b. if b then take n ks ∷ indexes_from (k ∷ []) (drop (suc n) ks) else indexes_from (take n ks ++ k ∷ []) (drop (suc n) ks)) no'
    ∙ ap (λ l. indexes_from l (drop (suc n) ks)) (sym (s.0 ∙ ap (λ x. take n ks ++ x ∷ []) at))
    ∙ ap (λ m. indexes_from (take m ks) (drop m ks)) (sym (add-one n))

-- the next index begins
pub index_ends : (ks : List KeyLine) (n : ℕ) (k : KeyLine) → n < length ks → get_or ks n k ≡ k → (k.sequence == 1) ≡ true → indexes_from (take n ks) (drop n ks) ≡ take n ks ∷ indexes_of (drop n ks)
index_ends ks n k h at first =
    let s = split_step k ks n h in
    let d : drop n ks ≡ k ∷ drop (suc n) ks = s.1 ∙ ap (λ x. x ∷ drop (suc n) ks) at in
    ap (indexes_from (take n ks)) d
    ∙ ap (λ b. if b then take n ks ∷ indexes_from (k ∷ []) (drop (suc n) ks) else indexes_from (take n ks ++ k ∷ []) (drop (suc n) ks)) first
    ∙ ap (λ l. take n ks ∷ indexes_of l) (sym d)

-- no other index is there
pub index_last : (ks : List KeyLine) (n : ℕ) → length ks ≤ n → indexes_from (take n ks) (drop n ks) ≡ take n ks ∷ indexes_of (drop n ks)
index_last ks n h = ap (indexes_from (take n ks)) (none ks n h) ∙ ap (λ l. take n ks ∷ indexes_of l) (sym (none ks n h))
  where
    none : (xs : List KeyLine) (m : ℕ) → length xs ≤ m → drop m xs ≡ []
    none [] zero h = refl
    none [] (suc m) h = refl
    none (x ∷ xs) zero h = absurd (omega (arith, h))
    none (x ∷ xs) (suc m) h = none xs m (omega (arith, h))

-- ---- which index is the key

module _ (cs : List Column) where
  kept_by : (t : Bool) (index : List KeyLine) (more : List (List KeyLine)) → (if t then index ∷ more else more) ≡ (if t then index ∷ [] else []) ++ more
  kept_by true index more = refl
  kept_by false index more = refl

  kept_first : (index : List KeyLine) (more : List (List KeyLine)) → filter (λ ks. list_all (is_whole cs) ks) (index ∷ more) ≡ filter (λ ks. list_all (is_whole cs) ks) (index ∷ []) ++ filter (λ ks. list_all (is_whole cs) ks) more
  kept_first index more = kept_by (list_all (is_whole cs) index) index (filter (λ ks. list_all (is_whole cs) ks) more)

  -- the key among the indexes that are left, by those whole ones that were found
  abbrev pub key_left : List (List KeyLine) → List KeyLine → List KeyLine
  key_left found left = unwrap_or (find is_primary (indexes_of left)) (only (found ++ filter (λ ks. list_all (is_whole cs) ks) (indexes_of left)))

  pub key_first : (keys : List KeyLine) → key_left [] keys ≡ key_index cs (indexes_of keys)
  key_first keys = refl

  pub key_more : (found new : List (List KeyLine)) (index rest left : List KeyLine) (key : List KeyLine) → indexes_of left ≡ index ∷ indexes_of rest → is_primary index ≡ false → new ≡ found ++ filter (λ ks. list_all (is_whole cs) ks) (index ∷ []) → key_left found left ≡ key → key_left new rest ≡ key
  key_more found new index rest left key is no' n h =
      let more = indexes_of rest in
      ap (λ l. unwrap_or (find is_primary more) (only (l ++ filter (λ ks. list_all (is_whole cs) ks) more))) n
      ∙ ap (λ l. unwrap_or (find is_primary more) (only l)) (append_assoc found (filter (λ ks. list_all (is_whole cs) ks) (index ∷ [])) (filter (λ ks. list_all (is_whole cs) ks) more) ∙ ap (λ l. found ++ l) (sym (kept_first index more)))
      ∙ sym (ap (λ b. unwrap_or (if b then Some index else find is_primary more) (only (found ++ filter (λ ks. list_all (is_whole cs) ks) (index ∷ more)))) no')
      ∙ sym (ap (λ l. unwrap_or (find is_primary l) (only (found ++ filter (λ ks. list_all (is_whole cs) ks) l))) is)
      ∙ h

  pub key_primary : (found : List (List KeyLine)) (index rest left : List KeyLine) (key : List KeyLine) → indexes_of left ≡ index ∷ indexes_of rest → is_primary index ≡ true → key_left found left ≡ key → index ≡ key
  key_primary found index rest left key is yes' h =
      let more = indexes_of rest in
      sym (ap (λ l. unwrap_or (find is_primary l) (only (found ++ filter (λ ks. list_all (is_whole cs) ks) l))) is
      ∙ ap (λ b. unwrap_or (if b then Some index else find is_primary more) (only (found ++ filter (λ ks. list_all (is_whole cs) ks) (index ∷ more)))) yes')
      ∙ h

  pub key_last : (found : List (List KeyLine)) (left key : List KeyLine) → left ≡ [] → key_left found left ≡ key → only found ≡ key
  key_last found left key is h = sym (ap (λ l. key_left found l) is ∙ ap only (append-nil found)) ∙ h

  -- a step over an index that isn't PRIMARY, and is whole or not
  pub key_step : (found new : List (List KeyLine)) (index rest left : List KeyLine) (key : List KeyLine) (t : Bool) → indexes_of left ≡ index ∷ indexes_of rest → is_primary index ≡ false → list_all (is_whole cs) index ≡ t → new ≡ (if t then found ++ index ∷ [] else found) → key_left found left ≡ key → key_left new rest ≡ key
  key_step found new index rest left key true is no' w n h = key_more found new index rest left key is no' (n ∙ ap (λ b. found ++ (if b then index ∷ [] else [])) (sym w)) h
  key_step found new index rest left key false is no' w n h = key_more found new index rest left key is no' (n ∙ sym (append-nil found) ∙ ap (λ b. found ++ (if b then index ∷ [] else [])) (sym w)) h

  -- what is left behind an index
  pub left_behind : (keys : List KeyLine) (start : ℕ) (here rest : List KeyLine) → here ≡ drop start keys → length here + start ≡ length keys → length rest < length here → rest ≡ drop (length here - length rest) here → rest ≡ drop (length keys - length rest) keys
  left_behind keys start here rest e l less r =
      let m : start + (length here - length rest) ≡ length keys - length rest = omega (arith, l, less) in
      r ∙ ap (λ x. drop (length here - length rest) x) e ∙ drop-drop (length here - length rest) start keys ∙ ap (λ k. drop k keys) m
