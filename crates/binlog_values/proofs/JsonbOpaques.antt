-- A text that is appended in two parts, the second of which may be refused.
use Rattle.std.proofs.Common.{◌≡◌, ℕ, List, ◌++◌, Result, Ok, Err, sym, ap, ◌∙◌, append_assoc}
use Rattle.std.specs.Prelude.{OnOk, OnErr}
use Rattle.std.proofs.Math.Seq.{take-append_seam}
use Rattle.binlog_base.specs.Writing.{Appends}

pub appended : {X E : Type 0} (r : Result X E) (old first second middle new : List ℕ) → middle ≡ old ++ first → OnOk r (new ≡ middle ++ second) → OnErr r (new ≡ middle) → Appends r old new (first ++ second)
appended (Ok x) old first second middle new is ok err = ok ∙ ap (λ (l : List ℕ). l ++ second) is ∙ append_assoc old first second
appended (Err e) old first second middle new is ok err =
    let new-is = err ∙ is in
    record {
      kept = rw new-is (take-append_seam old first);
      within = rw (new-is, sym (append_assoc old first second)) (take-append_seam (old ++ first) second);
    }
