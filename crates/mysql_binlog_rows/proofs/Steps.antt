-- The steps of calls of a walk over columns, one after the other.
use Rattle.std.proofs.Common.{◌≡◌, ℕ, suc, ◌+◌, ◌-◌, ◌≤◌, [], ap, ◌∙◌, arith}
use Rattle.binlog_table.specs.TableColumns.{ToCome, steps_then}
use Rattle.binlog_table.proofs.StepByStep.{no_steps}

-- a call for one column
pub next_then : (s t u : ToCome) (i : ℕ) → ((n : ℕ) → steps_then s n ≡ steps_then t (suc n)) → ((n : ℕ) → steps_then t n ≡ steps_then u (i + n)) → (n : ℕ) → steps_then s n ≡ steps_then u (i + 1 + n)
next_then s t u i one before n =
    let sum : i + suc n ≡ i + 1 + n = omega arith in
    one n ∙ before (suc n) ∙ ap (steps_then u) sum

-- a call for m columns
pub skip_then : (s t u : ToCome) (i m : ℕ) → ((n : ℕ) → steps_then s n ≡ steps_then t (m + n)) → ((n : ℕ) → steps_then t n ≡ steps_then u (i + n)) → (n : ℕ) → steps_then s n ≡ steps_then u (i + m + n)
skip_then s t u i m many before n =
    let sum : i + (m + n) ≡ i + m + n = omega arith in
    many n ∙ before (m + n) ∙ ap (steps_then u) sum

-- where no column is left, a greater count makes no difference
pub end_then : (s u : ToCome) (i count : ℕ) → s.columns ≡ [] → i ≤ count → ((n : ℕ) → steps_then s n ≡ steps_then u (i + n)) → (n : ℕ) → steps_then s n ≡ steps_then u (count + n)
end_then s u i count none le before n =
    let sum : i + (count - i + n) ≡ count + n = omega (arith, le) in
    no_steps s n (count - i + n) none ∙ before (count - i + n) ∙ ap (steps_then u) sum
