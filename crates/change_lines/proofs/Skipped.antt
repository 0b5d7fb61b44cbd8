-- Events that are skipped.
use Rattle.std.proofs.Common.{◌≡◌, ℕ, Bool, true, List, [], ◌∷◌, ◌++◌, length, Option, Result, Ok, Err, IfErr, inl, inr, sym, ap, subst, ◌∙◌, append_assoc, append-nil, length-append, arith}
use Rattle.std.specs.Prelude.{OnOk, IfOk}
use Rattle.mysql_binlog_rows.specs.Images.{Pair}
use Rattle.binlog_events.specs.declared.error.FileError.{FileError}
use Rattle.binlog_file.specs.LentChanges.{LentChange}
use Rattle.binlog_file.specs.declared.lent_changes.LentEvent.TheVariants as lent
use Rattle.changed_rows.specs.declared.count.Counts.{Counts}
use Rattle.changed_rows.specs.Names.{up_to_most}
use Rattle.change_lines.specs.declared.error.Failure.{Failure}
use Rattle.change_lines.specs.declared.error.Failure.TheVariants as failure
use Rattle.change_lines.specs.declared.run.Printed.{Printed}
use Rattle.change_lines.specs.declared.run.Printed.TheVariants as printed
use Rattle.change_lines.specs.Outputs.{Outputs}
use Rattle.change_lines.specs.Rows.{IsRowCount}
use Rattle.change_lines.specs.FaultyRows.{IsSkippedAt}
use Rattle.change_lines.specs.Failures.{IsOfRow, IsNotOfRow, IsErrorOfRow, OutputsUpTo, WritesFirstRows}
use Rattle.change_lines.specs.Lines.{Manner, IsRowLine, WritesEvent}
use Rattle.change_lines.specs.CountedFiles.{AreEventRows, AreFirstEventRows, CountsThese}
use Rattle.change_lines.specs.NotedFiles.{IsPrinted, Skips, faults_of, skipped_past}
use Rattle.change_lines.specs.Notes.{AreTold}

-- ---- what comes of a result

-- what holds of a result, or of a failure that is skipped, holds of what comes of it
pub on_skip : (skips : Bool) (r : Result ℕ Failure) (s : Result Printed Failure) (P : Type 0) (Q : Failure → Type 0)
    → Skips skips r s → (skips ≡ true → (e : FileError) → IsOfRow e.error → Q (failure.File e) → P) → OnOk r P → IfErr r Q → OnOk s P
on_skip skips (Ok n) s P Q gives to all first = subst (λ (t : Result Printed Failure). OnOk t P) (sym gives) all
on_skip skips (Err why) (Ok (printed.All n)) P Q gives to all first = absurd gives
on_skip skips (Err why) (Ok (printed.UpTo e)) P Q gives to all first = to gives.0 e gives.2 (subst Q gives.1 first)
on_skip skips (Err why) (Err again) P Q gives to all first = tt

-- what a failure that isn't skipped gives, which is no error of a row where such events are skipped
pub err_skip : (skips : Bool) (r : Result ℕ Failure) (s : Result Printed Failure) (Q R : Failure → Type 0)
    → Skips skips r s → ((why : Failure) → (skips ≡ true → IsNotOfRow why) → Q why → R why) → IfErr r Q → IfErr s R
err_skip skips (Ok n) s Q R gives to first = subst (λ (t : Result Printed Failure). IfErr t R) (sym gives) tt
err_skip skips (Err why) (Ok p) Q R gives to first = tt
err_skip skips (Err why) (Err again) Q R gives to first = to again (subst (λ (w : Failure). skips ≡ true → IsNotOfRow w) (sym gives.0) gives.1) (subst Q (sym gives.0) first)

-- ---- the rows of an event that is skipped

pub skipped_at : (c : LentChange) (n : ℕ) (rest : List ℕ) (e : FileError) → IsOfRow e.error → IsErrorOfRow c n rest e → IsSkippedAt c n rest e
skipped_at c n rest e is h = (h.0, elim h.1 [ inl memory ↦ absurd (subst IsOfRow memory is) | inr row ↦ row ])

-- where no output failed, all was written
pub outputs_of : (e : FileError) (a b : Option (List ℕ)) (held text left : List ℕ) → OutputsUpTo (failure.File e) a held text b left → Outputs a held text b left
outputs_of e a b held text left h = (h.0, h.2, h.3 ∙ ap (λ (l : List ℕ). h.0 ++ (left ++ l)) h.4 ∙ ap (λ (t : List ℕ). h.0 ++ t) (append-nil left))

pub skipped_lines : (m : Manner) (file : List ℕ) (gtid : Option (List ℕ)) (c : LentChange) (a : Option (List ℕ)) (held : List ℕ) (b : Option (List ℕ)) (left : List ℕ) → m.skips ≡ true → (e : FileError) → IsOfRow e.error
    → WritesFirstRows (failure.File e) (IsRowLine m.form file gtid c) c a held b left → WritesEvent m file gtid (lent.Rows c) a held b left
skipped_lines m file gtid c a held b left skips e is h =
    (h.text, inr (skips, record { pairs = h.pairs; rest = h.rest; error = e; begins = h.begins; lines = h.lines; skipped = skipped_at c (length h.pairs) h.rest e is h.ends }), outputs_of e a b held h.text left h.outputs)

pub skipped_counts : (skips : Bool) (c : LentChange) (a b : Counts) → skips ≡ true → (e : FileError) → IsOfRow e.error → CountsThese (AreFirstEventRows (failure.File e) (lent.Rows c)) a b → CountsThese (AreEventRows skips (lent.Rows c)) a b
skipped_counts skips c a b asked e is h =
    (h.0, inr (asked, elim h.1 [ inl none ↦ absurd none.1 | inr f ↦ record { pairs = f.0; rest = f.1; error = e; begins = f.2; counted = f.3; skipped = skipped_at c (length f.0) f.1 e is f.4 } ]), h.2)

pub skip_printed : (skips : Bool) (r : Result ℕ Failure) (s : Result Printed Failure) (Is : ℕ → Pair → List ℕ → Type 0) (c : LentChange) (a : Option (List ℕ)) (held : List ℕ) (b : Option (List ℕ)) (left : List ℕ)
    → Skips skips r s → IfOk r (IsRowCount c) → IfErr r (λ why. WritesFirstRows why Is c a held b left) → IfOk s (IsPrinted skips (lent.Rows c))
skip_printed skips (Ok n) s Is c a held b left gives rows first = subst (λ (t : Result Printed Failure). IfOk t (IsPrinted skips (lent.Rows c))) (sym gives) rows
skip_printed skips (Err why) (Ok (printed.All n)) Is c a held b left gives rows first = absurd gives
skip_printed skips (Err why) (Ok (printed.UpTo e)) Is c a held b left gives rows first =
    let h = subst (λ (w : Failure). WritesFirstRows w Is c a held b left) gives.1 first in
    (gives.0, h.pairs, h.rest, h.begins, skipped_at c (length h.pairs) h.rest e gives.2 h.ends)
skip_printed skips (Err why) (Err again) Is c a held b left gives rows first = tt

-- ---- how many were skipped, and what is told of them

pub skipped_more : (r : Printed) (faults : List FileError) → skipped_past r (up_to_most (length faults)) ≡ up_to_most (length (faults ++ faults_of r))
skipped_more (printed.All n) faults = ap (λ (l : List FileError). up_to_most (length l)) (sym (append-nil faults))
skipped_more (printed.UpTo e) faults = omega (arith, length-append faults (e ∷ []))

-- errors are told, and then others
pub told_both : (path : List ℕ) (es ds : List FileError) (text more : List ℕ) → AreTold path es text → AreTold path ds more → AreTold path (es ++ ds) (text ++ more)
told_both path [] ds text more h k = subst (λ (t : List ℕ). AreTold path ds (t ++ more)) (sym h) k
told_both path (e ∷ es) ds text more h k = (h.0, h.1 ++ more, h.2, told_both path es ds h.1 more h.3 k, ap (λ (t : List ℕ). t ++ more) h.4 ∙ append_assoc h.0 h.1 more)
