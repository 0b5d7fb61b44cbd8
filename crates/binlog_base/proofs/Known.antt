-- What was taken from a source of known bytes is what the format parses them to.
use Rattle.std.proofs.Common.{rules, ℕ, Bool, false, true, List, Option, Result, Ok, Err}
use Rattle.binlog_base.specs.declared.fault.Fault.{Fault}
use Rattle.binlog_base.specs.Format.{Format, IsExact, OrMemoryIf}
use Rattle.binlog_base.specs.Failures.{CountsFailure, is_unfailed}
use Rattle.binlog_base.specs.Sources.{TakesSpelling, ParsesKnown, Answers}

parses_known : {Y : Type 0} (f : Format Y) → IsExact f → (r : Result Y Fault) (old new : Option (List ℕ)) (n m : ℕ) → TakesSpelling f r old new → CountsFailure r n m → ParsesKnown f r (is_unfailed n m) old new
parses_known f ef r old new n m took counts = search rules

pub answers : {Y : Type 0} (takes : Bool) (f : Format Y) → IsExact f → (r : Result Y Fault) (old new : Option (List ℕ)) (failures failures_after : ℕ)
    → OrMemoryIf takes r (TakesSpelling f r old new) → CountsFailure r failures failures_after → Answers takes f r old new failures failures_after
answers {Y = Y} takes f ef r old new n m took counts = record { takes = took; counts = counts; parses = known takes r took counts }
  where
    known : (takes : Bool) (r : Result Y Fault) → OrMemoryIf takes r (TakesSpelling f r old new) → CountsFailure r n m → OrMemoryIf takes r (ParsesKnown f r (is_unfailed n m) old new)
    known false r h c = parses_known f ef r old new n m h c
    known true (Ok y) h c = parses_known f ef (Ok y) old new n m h c
    known true (Err e) h c = λ other. parses_known f ef (Err e) old new n m (h other) c
