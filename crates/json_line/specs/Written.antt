-- What a clause sees of a `Writer`.
use Rattle.std.specs.Prelude.{◌≡◌, ℕ, List, [], ◌∷◌, ◌++◌, OnOk, OnErr, Result, refl}
use Rattle.std.specs.Coded.{Coded, code_by, coded×, coded_list, coded_ℕ}
use Rattle.json.specs.Token.{Token, tokens_code}

-- what the buffer held at the start, the tokens after it, and how many bytes its memory holds
pub record Written : Type 0 where
  pub before : List ℕ
  pub tokens : List Token
  pub capacity : ℕ

-- it is stored as the tuple of its fields
abbrev pub written_code : Coded Written
written_code =
    code_by (List ℕ × (List Token × ℕ)) (coded× (coded_list coded_ℕ) (coded× tokens_code coded_ℕ))
    (λ w. (w.before, (w.tokens, w.capacity))) (λ p. record { before = p.0; tokens = p.1.0; capacity = p.1.1 }) (λ _. refl)

-- the tokens are appended, all or none, and what stood before stays
pub record WritesAll {E : Type 0} (r : Result (Unit {0}) E) (old new : Written) (ts : List Token) : Type 0 where
  pub ok : OnOk r (new.tokens ≡ old.tokens ++ ts)
  pub err : OnErr r (new.tokens ≡ old.tokens)
  pub before : new.before ≡ old.before

abbrev pub Writes : {E : Type 0} → Result (Unit {0}) E → Written → Written → Token → Type 0
Writes r old new t = WritesAll r old new (t ∷ [])
