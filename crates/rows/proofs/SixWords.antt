-- A slice of six words has exactly these six items.
use Rattle.std.proofs.Common.{arith, ◌≡◌, List, [], ◌∷◌, length, get_or}

module _ {S : Type 0} where
  pub six : (words : List S) (a b c d e f : S) → length words ≡ 6 → a ≡ get_or words 0 a → b ≡ get_or words 1 b → c ≡ get_or words 2 c → d ≡ get_or words 3 d → e ≡ get_or words 4 e → f ≡ get_or words 5 f → words ≡ a ∷ b ∷ c ∷ d ∷ e ∷ f ∷ []
  six [] a b c d e f count _ _ _ _ _ _ = absurd (omega (arith, count))
  six (u ∷ []) a b c d e f count _ _ _ _ _ _ = absurd (omega (arith, count))
  six (u ∷ v ∷ []) a b c d e f count _ _ _ _ _ _ = absurd (omega (arith, count))
  six (u ∷ v ∷ w ∷ []) a b c d e f count _ _ _ _ _ _ = absurd (omega (arith, count))
  six (u ∷ v ∷ w ∷ x ∷ []) a b c d e f count _ _ _ _ _ _ = absurd (omega (arith, count))
  six (u ∷ v ∷ w ∷ x ∷ y ∷ []) a b c d e f count _ _ _ _ _ _ = absurd (omega (arith, count))
  six (u ∷ v ∷ w ∷ x ∷ y ∷ z ∷ []) a b c d e f count p q r s t o = cc
  six (u ∷ v ∷ w ∷ x ∷ y ∷ z ∷ k ∷ more) a b c d e f count _ _ _ _ _ _ = absurd (omega (arith, count))
