-- Places that hold no key of their own.
use Rattle.std.specs.Prelude.{◌≡◌, ◌<◌, ◌%◌, ℕ, Some, slice_set, List, length}
use Rattle.std.specs.List.{slice_get}
use Rattle.std.proofs.Common.{arith, subst, ⊎_elim}
use Rattle.std.proofs.Math.ListN.{replicate, get_or}
use Rattle.std.proofs.Math.Nat.{mod-eq_of_lt, zero-mod}
use Rattle.std.proofs.lemmas.Nat.{mod_below}
use Rattle.std.proofs.lemmas.Bool.{cases_eq}
use Rattle.std.proofs.lemmas.Option.{get_or_from_slice_get, slice_get_within}
use Rattle.std.proofs.lemmas.List.{get_or-set_same, get_or-set_other, get_or-replicate, length-replicate}

module _ (n k : ℕ) (many : 1 < n) where
  -- the first place holds 1, whose place is another
  first_holds_another : k % n ≡ 0 → get_or (slice_set (replicate n 0) 0 1) (k % n) 0 ≡ k → ⊥
  first_holds_another first is =
      let some : 0 < length (replicate {A = ℕ} n 0) = rw (length-replicate {A = ℕ} n 0) (omega (arith, many)) in
      let value : k ≡ 1 = grind (arith, is, first, get_or-set_same {A = ℕ} (replicate n 0) 0 1 0 some) in
      let rest : 1 % n ≡ 1 = mod-eq_of_lt many in grind (arith, value, rest, first)

  -- the other places hold 0, whose place is the first
  other_holds_another : (k % n ≡ 0 → ⊥) → get_or (slice_set (replicate n 0) 0 1) (k % n) 0 ≡ k → ⊥
  other_holds_another other is =
      let within : k % n < n = mod_below k n (omega (arith, many)) in
      let zero : k ≡ 0 = grind (arith, is, get_or-set_other {A = ℕ} (replicate n 0) 0 (k % n) 1 0 other, get_or-replicate {A = ℕ} n (k % n) 0 0 within) in
      other (rw zero (zero-mod n))

  -- n places, all 0 but the first, which is 1: no key is at its place
  pub none_at_first : (xs : List ℕ) → xs ≡ replicate n 0 → slice_get (slice_set xs 0 1) (k % n) ≡ Some k → ⊥
  none_at_first xs zeros is =
      let held : get_or (slice_set xs 0 1) (k % n) 0 ≡ k = get_or_from_slice_get (slice_set xs 0 1) (k % n) k 0 is in
      let moved : get_or (slice_set (replicate n 0) 0 1) (k % n) 0 ≡ k = subst (λ ys. get_or (slice_set ys 0 1) (k % n) 0 ≡ k) zeros held in
      ⊎_elim (λ first. first_holds_another first moved) (λ other. other_holds_another other moved) (cases_eq (k % n) 0)

-- nothing is noted where there are no places
pub none_in_nothing : (xs : List ℕ) (i k : ℕ) → length xs ≡ 0 → slice_get xs i ≡ Some k → ⊥
none_in_nothing xs i k empty is = omega (arith, empty, slice_get_within xs i k is)
