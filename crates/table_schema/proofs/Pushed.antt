-- What was read of a text or of names, and what is left.
use Rattle.std.proofs.Common.{◌≡◌, ℕ, List, [], ◌∷◌, ◌++◌, Option, Some, None, refl, ap, append_assoc, append-nil, sym, ◌∙◌}
use Rattle.std.specs.Option.{option_map}
use Rattle.table_schema.specs.Values.{onto_names, with_byte}

-- a byte is put behind what was read
pub pushed : {A : Type 0} (text : List A) (c : A) (rest : Option (List A)) → option_map (λ t. (text ++ c ∷ []) ++ t) rest ≡ option_map (λ t. text ++ t) (option_map (λ t. c ∷ t) rest)
pushed text c None = refl
pushed text c (Some t) = ap Some (append_assoc text (c ∷ []) t)

-- the same of the names that are left, for the name that was begun
one_added : (name : List ℕ) (b : ℕ) (ns : List (List ℕ)) → onto_names (name ++ b ∷ []) ns ≡ onto_names name (with_byte b ns)
one_added name b [] = refl
one_added name b (n ∷ ns) = ap (λ m. m ∷ ns) (append_assoc name (b ∷ []) n)

pub added : (names : List (List ℕ)) (name : List ℕ) (b : ℕ) (rest : Option (List (List ℕ))) → option_map (λ ns. names ++ onto_names (name ++ b ∷ []) ns) rest ≡ option_map (λ ns. names ++ onto_names name ns) (option_map (with_byte b) rest)
added names name b None = refl
added names name b (Some ns) = ap (λ m. Some (names ++ m)) (one_added name b ns)

-- the name that was begun ends, and another one begins
one_ended : (name : List ℕ) (ns : List (List ℕ)) → name ∷ onto_names [] ns ≡ onto_names name ([] ∷ ns)
one_ended name [] = ap (λ m. m ∷ []) (sym (append-nil name))
one_ended name (n ∷ ns) = ap (λ m. m ∷ n ∷ ns) (sym (append-nil name))

pub ended : (names : List (List ℕ)) (name : List ℕ) (rest : Option (List (List ℕ))) → option_map (λ ns. (names ++ name ∷ []) ++ onto_names [] ns) rest ≡ option_map (λ ns. names ++ onto_names name ns) (option_map (λ ns. [] ∷ ns) rest)
ended names name None = refl
ended names name (Some ns) = ap Some (append_assoc names (name ∷ []) (onto_names [] ns) ∙ ap (λ m. names ++ m) (one_ended name ns))
