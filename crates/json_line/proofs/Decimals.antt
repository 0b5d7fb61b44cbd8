-- The table of pairs, and digits after digits.
use Rattle.std.proofs.Common.{◌≡◌, ℕ, zero, suc, ◌+◌, ◌*◌, ◌/◌, ◌%◌, ◌^◌, ◌<◌, ◌≤◌, Bool, true, ◌&&◌, T, eqb, List, get_or, inl, inr, arith, eq-zero-or-pos, eqb→eq, ◌-◌, sym, subst}
use lib.Ieee.Fits.{and_l, and_r}
use Rattle.std.specs.Prelude.{decimal}
use Rattle.json.specs.Filled.{Placed}
use Rattle.json.proofs.Printed.Places.{Placed-then}
use Rattle.itoa.proofs.Decimal.{decimal_pair, decimal_four}
use Rattle.json_line.specs.Digits.{pair, four}
use Rattle.json_line.specs.declared.digits.TheConstants.{PAIRS}

abbrev are_pairs : ℕ → Bool
are_pairs zero = true
are_pairs (suc p) = (eqb (get_or PAIRS (p * 2) 0) (48 + p / 10) && eqb (get_or PAIRS (p * 2 + 1) 0) (48 + p % 10)) && are_pairs p

below : (n p : ℕ) → T (are_pairs n) → p < n → (get_or PAIRS (p * 2) 0 ≡ 48 + p / 10) × (get_or PAIRS (p * 2 + 1) 0 ≡ 48 + p % 10)
below zero p t h = absurd (omega arith)
below (suc n) p t h =
    elim (eq-zero-or-pos (n - p)) [
      | inl z ↦ let e : p ≡ n = omega arith in let a = and_l _ (are_pairs n) t in rw e (eqb→eq _ _ (and_l _ _ a), eqb→eq _ _ (and_r _ _ a))
      | inr g ↦ below n p (and_r _ (are_pairs n) t) (omega arith)
    ]

pub pairs_at : (p : ℕ) → p < 100 → (get_or PAIRS (p * 2) 0 ≡ 48 + p / 10) × (get_or PAIRS (p * 2 + 1) 0 ≡ 48 + p % 10)
pairs_at p h = below 100 p tt h

-- the first digits of a number, and its last two or four
pub then_pair : {a b c : List ℕ} {i j k : ℕ} (n : ℕ) → 100 ≤ n → n < 2 ^ 64 → Placed a b i (decimal (n / 100)) j → Placed b c j (pair (n % 100)) k → Placed a c i (decimal n) k
then_pair {a} {b} {c} {i} {j} {k} n lo hi p q = subst (λ xs. Placed a c i xs k) (sym (decimal_pair n lo hi)) (Placed-then p q)

pub then_four : {a b c : List ℕ} {i j k : ℕ} (n : ℕ) → 10000 ≤ n → n < 2 ^ 64 → Placed a b i (decimal (n / 10000)) j → Placed b c j (four (n % 10000)) k → Placed a c i (decimal n) k
then_four {a} {b} {c} {i} {j} {k} n lo hi p q = subst (λ xs. Placed a c i xs k) (sym (decimal_four n lo hi)) (Placed-then p q)
