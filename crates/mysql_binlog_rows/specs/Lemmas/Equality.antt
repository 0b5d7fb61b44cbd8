-- Equality of values that may be absent is a partial equivalence if that of the values is.
use Rattle.std.specs.Prelude.{◌≡◌, true, Bool, Option, Some, None}
use Rattle.std.specs.Option.{option_eq}
use Rattle.std.specs.Cmp.{IsPartialEquivalence}
use Rattle.std.proofs.Common.{refl, sym}
use Rattle.std.proofs.lemmas.Bool.{true≢false}
pub use Rattle.binlog_cells.specs.Lemmas.Equality.{same_cell_is_equivalence}

module _ {K : Type 0} {E : K → K → Bool} (e : IsPartialEquivalence E) where
  either_way : (x y : Option K) → option_eq E x y ≡ option_eq E y x
  either_way None None = refl
  either_way None (Some y) = refl
  either_way (Some x) None = refl
  either_way (Some x) (Some y) = e.symm x y

  along : (x y z : Option K) → option_eq E x y ≡ true → option_eq E y z ≡ true → option_eq E x z ≡ true
  along None None z h g = g
  along None (Some y) z h g = absurd (true≢false (sym h))
  along (Some x) None z h g = absurd (true≢false (sym h))
  along (Some x) (Some y) None h g = g
  along (Some x) (Some y) (Some z) h g = e.trans x y z h g

  pub options_per : IsPartialEquivalence (option_eq E)
  options_per = record { symm = either_way; trans = along }
