-- What a run gives.
use Rattle.std.proofs.Common.{◌≡◌, ◌==◌, if◌then◌else◌, ℕ, List, [], Option, None, Result, Ok, Err, inl, refl, sym, subst}
use Rattle.std.specs.Io.KnownBytes.{prepend_known}
use Rattle.std.proofs.KnownBytes.{prepend_known-nil}
use Rattle.change_lines.specs.Failures.{EndsAtHeader}
use Rattle.change_lines.proofs.Failures.{nothing_appended}
use Rattle.change_lines.proofs.CountedFiles.{counts_nothing}
use Rattle.std.specs.Prelude.{IsErrAnd}
use Rattle.change_lines.specs.declared.error.Failure.{Failure}
use Rattle.change_lines.specs.declared.run.Form.TheVariants as form
use Rattle.change_lines.specs.declared.run.Settings.{Settings}
use Rattle.changed_rows.specs.declared.count.Counts.{Counts}
use Rattle.change_lines.specs.Failures.{AppendsUpTo}
use Rattle.change_lines.specs.CountedFiles.{AreFirstOfFile, CountsThese}
use Rattle.change_lines.specs.Runs.{AreFirstLines, IsRun}

-- a run that passes a failure on
pub run_failed : (settings : Settings) (file x : List ℕ) (before after : Counts) (old new : Option (List ℕ)) (r : Result ℕ Failure) (why : Failure) → IsErrAnd r (λ f. f ≡ why)
    → (text : List ℕ) × AreFirstLines why settings file x text × AppendsUpTo why old new text
    → (settings.form ≡ form.Count → CountsThese (AreFirstOfFile why settings x) before after) → IsRun settings file x before after old new r
run_failed settings file x before after old new (Ok n) why is first counts = absurd is
run_failed settings file x before after old new (Err f) why is first counts = record {
  lines = tt;
  first_lines = subst (λ (k : Failure). (text : List ℕ) × AreFirstLines k settings file x text × AppendsUpTo k old new text) (sym is) first;
  counts = λ same. tt;
  skipped = tt;
  first_counts = λ same. subst (λ (k : Failure). CountsThese (AreFirstOfFile k settings x) before after) (sym is) (counts same);
}

-- a run that reads nothing
pub run_unread : (settings : Settings) (file x : List ℕ) (counts : Counts) (out : Option (List ℕ)) (r : Result ℕ Failure) (why : Failure) → IsErrAnd r (λ f. f ≡ why)
    → EndsAtHeader why x → IsRun settings file x counts counts out out r
run_unread settings file x counts out r why is ends = run_failed settings file x counts counts out out r why is ([], inl (refl, ends), nothing_appended why out) (λ same. ([], inl (refl, ends), counts_nothing counts))

-- a buffer that holds nothing yet changes nothing of what a reader gives
pub fresh : (capacity : ℕ) (buffer : List ℕ) (left : Option (List ℕ)) → capacity ≡ 8192 → buffer ≡ [] → (if capacity == 0 then None else prepend_known buffer left) ≡ left
fresh capacity buffer left is empty = rw (is, empty) (prepend_known-nil left)
