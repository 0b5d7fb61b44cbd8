-- A table is added to the group of those that lack the same.
use Rattle.std.proofs.Common.{◌≡◌, ◌<◌, ◌≤◌, ℕ, zero, suc, true, false, List, [], ◌∷◌, ◌++◌, length, get_or, slice_set, refl, ap, subst, arith}
use Rattle.std.specs.Prelude.{⊤}
use Rattle.changed_rows.specs.declared.lacks.Lacks.{Lacks}
use Rattle.change_lines.specs.Lacking.{TableGroup, same_lacks, group_of, one_more, with_table}

-- the tables of so many first groups lack other things
abbrev pub AreOthers : Lacks → List TableGroup → ℕ → Type 0
AreOthers lacks gs zero = ⊤
AreOthers lacks [] (suc n) = ⊤
AreOthers lacks (g ∷ gs) (suc n) = (same_lacks g.lacks lacks ≡ false) × AreOthers lacks gs n

-- a further group is one of other things
pub others_more : (lacks : Lacks) (gs : List TableGroup) (i : ℕ) (x : TableGroup) → AreOthers lacks gs i → i < length gs → x ≡ get_or gs i x → same_lacks x.lacks lacks ≡ false
    → AreOthers lacks gs (suc i)
others_more lacks [] i x others small is other = tt
others_more lacks (g ∷ gs) zero x others small is other = (subst (λ (y : TableGroup). same_lacks y.lacks lacks ≡ false) is other, tt)
others_more lacks (g ∷ gs) (suc i) x others small is other = (others.0, others_more lacks gs i x others.1 (omega (arith, small)) is other)

-- the first group of tables that lack the same has one more
pub one_more_there : (lacks : Lacks) (name : List ℕ) (gs : List TableGroup) (i : ℕ) (x y : TableGroup) → AreOthers lacks gs i → i < length gs → x ≡ get_or gs i x → y ≡ get_or gs i y
    → same_lacks x.lacks lacks ≡ true → slice_set gs i (one_more name y) ≡ with_table lacks name gs
unfolding with_table
one_more_there lacks name [] i x y others small isx isy same = absurd (omega (arith, small))
one_more_there lacks name (g ∷ gs) zero x y others small isx isy same = rw (subst (λ (z : TableGroup). same_lacks z.lacks lacks ≡ true) isx same) (ap (λ (z : TableGroup). one_more name z ∷ gs) isy)
one_more_there lacks name (g ∷ gs) (suc i) x y others small isx isy same = rw (others.0) (ap (λ (l : List TableGroup). g ∷ l) (one_more_there lacks name gs i x y others.1 (omega (arith, small)) isx isy same))

-- where all are of other things, there is a new group
pub group_last : (lacks : Lacks) (name : List ℕ) (gs : List TableGroup) (n : ℕ) → length gs ≤ n → AreOthers lacks gs n → with_table lacks name gs ≡ gs ++ group_of lacks name ∷ []
unfolding with_table
group_last lacks name [] n all others = refl
group_last lacks name (g ∷ gs) zero all others = absurd (omega (arith, all))
group_last lacks name (g ∷ gs) (suc n) all others = rw (others.0) (ap (λ (l : List TableGroup). g ∷ l) (group_last lacks name gs n (omega (arith, all)) others.1))
