-- What failures are of.
use Rattle.std.proofs.Common.{◌≡◌, ◌≢◌, ◌⊎◌, ◌<◌, ℕ, List, Option, Some, None, Result, Ok, Err, IfErr, inl, inr, refl, sym, subst, ◌∙◌}
use Rattle.std.specs.declared.io.Error.{Error}
use Rattle.changed_rows.specs.declared.filter.Positions.{Positions}
use Rattle.changed_rows.specs.Filters.{start_sought}
use Rattle.change_lines.specs.declared.error.Failure.{Failure}
use Rattle.change_lines.specs.declared.error.Failure.TheVariants as failure
use Rattle.change_lines.specs.Failures.{IsOfReading, IsOfEvent, IsOfRun}

abbrev pub Writes : Type 0 → Type 1
Writes O = O → List ℕ → Result ℕ Error → O → Type 0

abbrev pub Flushes : Type 0 → Type 1
Flushes O = O → Result (Unit {0}) Error → O → Type 0

-- a failure of the reading of an event is one of an event
pub of_reading : {O : Type 0} (writes : Writes O) (flushes : Flushes O) (why : Failure) → IsOfReading why → IsOfEvent writes flushes why
of_reading writes flushes (failure.File e) h = tt
of_reading writes flushes (failure.Unopened e) h = absurd h
of_reading writes flushes failure.Memory h = tt
of_reading writes flushes (failure.Output e) h = absurd h
of_reading writes flushes (failure.NoEvent n) h = absurd h

-- one of an event is one of the run
pub of_event : {O : Type 0} (positions : Positions) (writes : Writes O) (flushes : Flushes O) (why : Failure) → IsOfEvent writes flushes why → IsOfRun positions writes flushes why
of_event positions writes flushes (failure.File e) h = tt
of_event positions writes flushes (failure.Unopened e) h = absurd h
of_event positions writes flushes failure.Memory h = tt
of_event positions writes flushes (failure.Output e) h = h
of_event positions writes flushes (failure.NoEvent n) h = absurd h

-- the start position that is looked for is the one that was asked for
from_start : (positions : Positions) (start : Option ℕ) (n : ℕ) → (start ≡ start_sought positions) ⊎ (start ≡ None) → start ≡ Some n → start_sought positions ≡ Some n
from_start positions start n (inl same) is = sym same ∙ is
from_start positions start n (inr none) is = absurd (let bad = sym none ∙ is in cc)

-- no event begins at a position
pub of_missing : {O : Type 0} (positions : Positions) (writes : Writes O) (flushes : Flushes O) (why : Failure) (start stop : Option ℕ) (at : ℕ) → (start ≡ start_sought positions) ⊎ (start ≡ None) → stop ≡ positions.stop
    → (n : ℕ) × (why ≡ failure.NoEvent n) × ((start ≡ Some n) ⊎ ((stop ≡ Some n) × (n ≢ at))) → IsOfRun positions writes flushes why
of_missing positions writes flushes why start stop at known same h = elim h.2 [
  | inl is ↦ subst (IsOfRun positions writes flushes) (sym h.1) (inl (from_start positions start h.0 known is))
  | inr is ↦ subst (IsOfRun positions writes flushes) (sym h.1) (inr (sym same ∙ is.0))
]

pub of_passed : {O : Type 0} (positions : Positions) (writes : Writes O) (flushes : Flushes O) (why : Failure) (start : Option ℕ) (at : ℕ) → (start ≡ start_sought positions) ⊎ (start ≡ None)
    → (n : ℕ) × (start ≡ Some n) × (n < at) × (why ≡ failure.NoEvent n) → IsOfRun positions writes flushes why
of_passed positions writes flushes why start at known h = subst (IsOfRun positions writes flushes) (sym h.3) (inl (from_start positions start h.0 known h.1))

-- what is answered as it was read has the failure of the reading
pub own_cause : {O A : Type 0} (writes : Writes O) (flushes : Flushes O) (read : Result A Failure) → IfErr read (λ why. (read ≡ Err why) ⊎ IsOfEvent writes flushes why)
own_cause writes flushes (Ok a) = tt
own_cause writes flushes (Err why) = inl refl
