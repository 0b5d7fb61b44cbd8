-- Characters that are pushed to a `String`.
use Rattle.std.proofs.Common.{◌≡◌, ℕ, List, ◌++◌, ap, ◌∙◌}
use Rattle.std.specs.Prelude.{OnOk, Result, Ok, Err, is_ok, if◌then◌else◌}

pub pushed : {E : Type 0} (r : Result (Unit {0}) E) (old new x y : List ℕ) → x ≡ y → new ≡ (if is_ok r then old ++ x else old) → OnOk r (new ≡ old ++ y)
pushed (Ok _) old new x y e h = h ∙ ap (λ (l : List ℕ). old ++ l) e
pushed (Err _) old new x y e h = tt
