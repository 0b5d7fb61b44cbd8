-- Formats are unambiguous, both those that take all bytes that are left and the others.
use Rattle.std.proofs.Common.{◌≡◌, ℕ, Bool, true, false, List, [], ◌++◌, sym, ap, ◌∙◌}
use Rattle.binlog_base.specs.Format.{Format, Exact}
use Rattle.binlog_base.specs.Lemmas.Format.{one_spelling, ok_is, err_is, ok_or_err}
use Rattle.binlog_base.specs.Laws.{SpellsOneValue, RefusesWholesForOneReason}

pub one_spelling_at : {A : Type 0} (to_end : Bool) (f : Format A) (x y r s : List ℕ) (a b : A) → Exact to_end f → to_end ≡ false → f.spells x a → f.spells y b → x ++ r ≡ y ++ s → (x ≡ y) × (a ≡ b)
one_spelling_at true f x y r s a b e h = absurd cc
one_spelling_at false f x y r s a b e h = one_spelling f e x y r s a b

pub one_value_to_end : {A : Type 0} (to_end : Bool) (f : Format A) → Exact to_end f → to_end ≡ true → SpellsOneValue f
one_value_to_end false f ef h = absurd cc
one_value_to_end {A} true f ef h = λ x a b p q. ap (λ (r : A × List ℕ). r.0) (ok_is (a, []) (b, []) (sym (ef.complete x a p) ∙ ef.complete x b q))

pub one_reason_to_end : {A : Type 0} (to_end : Bool) (f : Format A) → Exact to_end f → to_end ≡ true → RefusesWholesForOneReason f
one_reason_to_end false f ef h = absurd cc
one_reason_to_end true f ef h = (
  λ x a e r s. ok_or_err (f.parse x) (a, []) e (ef.complete x a s) (ef.refused_complete x e r),
  λ x d e p q. err_is d e (sym (ef.refused_complete x d p) ∙ ef.refused_complete x e q),
  ef.of_bytes,
)
