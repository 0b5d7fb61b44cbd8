-- The pieces of a text.
use Rattle.std.proofs.Common.{◌≡◌, ℕ, zero, suc, ◌+◌, ◌<◌, List, [], ◌∷◌, length, take, drop, get_or, refl, ap, ◌∙◌, arith, add-one, ◌≢◌}
use Rattle.std.proofs.lemmas.Bool.{eq-eqb, ne_eqb}
use Rattle.table_schema.specs.Texts.{pieces, onto_first}

-- the first byte of a text ends its first piece
pieces_here : (end x : ℕ) (xs : List ℕ) → x ≡ end → pieces end (x ∷ xs) ≡ [] ∷ pieces end xs
pieces_here end x xs h = rw (eq-eqb x end h) refl

-- it doesn't
pieces_later : (end x : ℕ) (xs : List ℕ) → x ≢ end → pieces end (x ∷ xs) ≡ onto_first x (pieces end xs)
pieces_later end x xs h = rw (ne_eqb x end h) refl

-- the first piece ends where the byte stands first
at_suc : (end : ℕ) (xs : List ℕ) (i : ℕ) → i < length xs → ((k : ℕ) → k < i → get_or xs k 0 ≡ end → ⊥) → get_or xs i 0 ≡ end → pieces end xs ≡ take i xs ∷ pieces end (drop (suc i) xs)
at_suc end [] i h before here = absurd (omega (arith, h))
at_suc end (x ∷ xs) zero h before here = pieces_here end x xs here
at_suc end (x ∷ xs) (suc i) h before here =
    pieces_later end x xs (before 0 (omega arith))
    ∙ ap (onto_first x) (at_suc end xs i (omega (arith, h)) (λ k less is. before (suc k) (omega (arith, less)) is) here)

pub pieces_at : (end : ℕ) (xs : List ℕ) (i : ℕ) → i < length xs → ((k : ℕ) → k < i → get_or xs k 0 ≡ end → ⊥) → get_or xs i 0 ≡ end → pieces end xs ≡ take i xs ∷ pieces end (drop (i + 1) xs)
pieces_at end xs i h before here = rw (add-one i) (at_suc end xs i h before here)

-- a text without the byte is one piece
pub pieces_none : (end : ℕ) (xs : List ℕ) → ((k : ℕ) → k < length xs → get_or xs k 0 ≡ end → ⊥) → pieces end xs ≡ xs ∷ []
pieces_none end [] before = refl
pieces_none end (x ∷ xs) before =
    pieces_later end x xs (before 0 (omega arith))
    ∙ ap (onto_first x) (pieces_none end xs (λ k less is. before (suc k) (omega (arith, less)) is))
