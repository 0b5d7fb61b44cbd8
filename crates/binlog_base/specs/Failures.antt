-- Counting the failures of a source or a sink.
use Rattle.std.specs.Prelude.{◌≡◌, ℕ, ◌+◌, ◌-◌, ◌^◌, ◌<◌, ◌==◌, ◌&&◌, nat_lt, min, Bool, Result, Ok, Err, Option, Some, None, List, length, ◌⊎◌}
use Rattle.std.specs.declared.io.Error.{Error}
use Rattle.binlog_base.specs.declared.fault.Fault.{Fault}
use Rattle.binlog_base.specs.declared.fault.Fault.TheVariants as fault

-- the count after one more failure, at most 2^64 - 1
abbrev pub one_more_failure : ℕ → ℕ
one_more_failure n = min (n + 1) (2 ^ 64 - 1)

-- a reader or a writer, and how often it failed
pub record CountedState (T : Type 0) : Type 0 where
  pub inner : T
  pub failures : ℕ

-- A call that succeeds leaves the count as it is, and a call that fails adds one.
abbrev pub Counts : {X E : Type 0} → Result X E → ℕ → ℕ → Type 0
Counts (Ok _) old new = new ≡ old
Counts (Err _) old new = new ≡ one_more_failure old

-- the count after a fault: only Reader, the fault of a source or sink that failed, adds one
abbrev pub count_after : Fault → ℕ → ℕ
count_after fault.Reader old = one_more_failure old
count_after _ old = old

-- A call that returns faults adds one failure where it returns Reader, and none otherwise.
abbrev pub CountsFailure : {X : Type 0} → Result X Fault → ℕ → ℕ → Type 0
CountsFailure (Ok _) old new = new ≡ old
CountsFailure (Err e) old new = new ≡ count_after e old

-- whether a call counted no failure: the count is unchanged, and isn't the largest number
abbrev pub is_unfailed : ℕ → ℕ → Bool
is_unfailed old new = new == old && nat_lt old (2 ^ 64 - 1)

-- The result of a source is that of a read: the read's count, or a failure where the read gave an
-- error.
abbrev pub IsOfRead : {E : Type 0} → Result ℕ E → (Result ℕ Error → Type 0) → Type 0
IsOfRead (Ok n) answered = answered (Ok n)
IsOfRead (Err _) answered = (e : Error) × answered (Err e)

-- The result of a sink is that of a write of some bytes: a write that took none of them is a
-- failure too.
abbrev pub IsOfWrite : {E : Type 0} → Result ℕ E → (Result ℕ Error → Type 0) → Type 0
IsOfWrite (Ok n) answered = answered (Ok n)
IsOfWrite (Err _) answered = answered (Ok 0) ⊎ ((e : Error) × answered (Err e))

-- The bytes of a source end before n of them: where they are known, they are fewer than n.
abbrev pub IsShort : Option (List ℕ) → ℕ → Type 0
IsShort None n = 0 < n
IsShort (Some bytes) n = length bytes < n
