-- What is written to an output through bytes that are held back.
use Rattle.std.specs.Prelude.{◌≡◌, ◌≢◌, ◌⊎◌, ℕ, zero, suc, List, ◌++◌, Option, Result, Ok, Err}
use Rattle.std.specs.Io.KnownBytes.{Appends}
use Rattle.std.specs.IoError.{error_kind}
use Rattle.std.specs.declared.io.Error.{Error}
use Rattle.std.specs.declared.io.ErrorKind.TheVariants as kind

-- A text was written: after the bytes that were held back, to the output, or it is held back now.
abbrev pub Outputs : Option (List ℕ) → List ℕ → List ℕ → Option (List ℕ) → List ℕ → Type 0
Outputs old held text new left = (written : List ℕ) × Appends old new written × (held ++ text ≡ written ++ left)

-- a beginning of a text was written to the output
abbrev pub AppendsFirst : Option (List ℕ) → Option (List ℕ) → List ℕ → Type 0
AppendsFirst old new text = (written more : List ℕ) × Appends old new written × (text ≡ written ++ more)

-- ---- the errors of an output

-- What the answer of one call of `write` is taken as: an interrupted call has written no bytes, and one that
-- could write none is an error.
abbrev pub IsTakenAs : Result ℕ Error → Result ℕ Error → Type 0
IsTakenAs (Ok zero) taken = (e : Error) × (taken ≡ Err e) × (error_kind e ≡ kind.WriteZero)
IsTakenAs (Ok (suc n)) taken = taken ≡ Ok (suc n)
IsTakenAs (Err e) taken = ((error_kind e ≡ kind.Interrupted) × (taken ≡ Ok 0)) ⊎ ((error_kind e ≢ kind.Interrupted) × (taken ≡ Err e))

-- The error of a call of `write`, of which this is the relation; or one of the kind Interrupted, which such a call
-- never gives here: it is for calls that are interrupted without end.
abbrev pub IsWriteError : {O : Type 0} → (O → List ℕ → Result ℕ Error → O → Type 0) → Error → Type 0
IsWriteError {O} writes e =
    (error_kind e ≡ kind.Interrupted)
    ⊎ ((old : O) × (bytes : List ℕ) × (answer : Result ℕ Error) × (new : O) × writes old bytes answer new × IsTakenAs answer (Err e))

-- the error of a call of `flush`
abbrev pub IsFlushError : {O : Type 0} → (O → Result (Unit {0}) Error → O → Type 0) → Error → Type 0
IsFlushError {O} flushes e = (old new : O) × flushes old (Err e) new

-- the error of a call of one of both
abbrev pub IsErrorOf : {O : Type 0} → (O → List ℕ → Result ℕ Error → O → Type 0) → (O → Result (Unit {0}) Error → O → Type 0) → Error → Type 0
IsErrorOf writes flushes e = IsWriteError writes e ⊎ IsFlushError flushes e
