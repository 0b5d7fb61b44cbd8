-- The result of a call that reads a value from a source, by the format of the value.
-- The bytes of a source are Some of those that are left in it, or None where they aren't known.
use Rattle.std.specs.Prelude.{◌≡◌, ◌≢◌, ℕ, Bool, true, false, Result, Ok, Err, Option, Some, None, List, ⊤}
use Rattle.std.specs.Io.KnownBytes.{Consumes}
use Rattle.binlog_base.specs.declared.fault.Fault.{Fault}
use Rattle.binlog_base.specs.declared.fault.Fault.TheVariants as fault
use Rattle.binlog_base.specs.Format.{Format, OrMemoryIf}
use Rattle.binlog_base.specs.Failures.{CountsFailure, is_unfailed}

-- the bytes are those that are left, where these are known
abbrev pub IsLeft : Option (List ℕ) → List ℕ → Type 0
IsLeft None bytes = ⊤
IsLeft (Some left) bytes = left ≡ bytes

-- The bytes that were taken spell the value. A fault other than Reader is the one with which the
-- format refuses the bytes that were in the source.
abbrev pub TakesSpelling : {Y : Type 0} → Format Y → Result Y Fault → Option (List ℕ) → Option (List ℕ) → Type 0
TakesSpelling f (Ok y) old new = (taken : List ℕ) × f.spells taken y × Consumes old new taken
TakesSpelling f (Err e) old new = e ≢ fault.Reader → (bytes : List ℕ) × f.refuses bytes e × IsLeft old bytes

-- Where the source's bytes are known, they parse to the value and to the bytes that are left; or,
-- where the source counted no failure, to the fault.
abbrev pub ParsesKnown : {Y : Type 0} → Format Y → Result Y Fault → Bool → Option (List ℕ) → Option (List ℕ) → Type 0
ParsesKnown f (Ok y) _ (Some old) (Some new) = f.parse old ≡ Ok (y, new)
ParsesKnown f (Err e) true (Some old) _ = f.parse old ≡ Err e
ParsesKnown f _ _ _ _ = ⊤

-- takes: which bytes were taken or refused. counts: the count of failures after the call.
-- parses: what known bytes parse to.
-- old and new are the source's bytes before and after the call; failures and failures_after are its
-- counts of failures.
pub record Answers {Y : Type 0} (takes_memory : Bool) (f : Format Y) (result : Result Y Fault) (old new : Option (List ℕ)) (failures failures_after : ℕ) : Type 0 where
  pub takes : OrMemoryIf takes_memory result (TakesSpelling f result old new)
  pub counts : CountsFailure result failures failures_after
  pub parses : OrMemoryIf takes_memory result (ParsesKnown f result (is_unfailed failures failures_after) old new)

-- the answer of a call that takes no memory
abbrev pub ReadsFrom : {Y : Type 0} → Format Y → Result Y Fault → Option (List ℕ) → Option (List ℕ) → ℕ → ℕ → Type 0
ReadsFrom f result old new failures failures_after = Answers false f result old new failures failures_after

-- ReadsFrom for a call that takes memory: it may return Memory instead, which adds no failure
abbrev pub ReadsFromOrMemory : {Y : Type 0} → Format Y → Result Y Fault → Option (List ℕ) → Option (List ℕ) → ℕ → ℕ → Type 0
ReadsFromOrMemory f result old new failures failures_after = Answers true f result old new failures failures_after
