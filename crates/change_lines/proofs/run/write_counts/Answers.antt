use Rattle.std.proofs.Common.{◌≡◌, ◌⊎◌, ℕ, false, List, ◌++◌, Result, Ok, Err, is_err, IfErr, inl, inr, sym, ap, subst, ◌∙◌}
use Rattle.std.specs.Io.KnownBytes.{Appends}
use Rattle.changed_rows.specs.Counted.{table_text}
use Rattle.change_lines.proofs.Errors.{no_error}
use Rattle.change_lines.proofs.Written.{on_ok}
use Rattle.change_lines.specs.declared.error.Failure.{Failure}
use Rattle.change_lines.specs.declared.error.Failure.TheVariants as failure
use Rattle.change_lines.specs.Failures.{IsOutput}
use Rattle.change_lines.proofs.run.write_counts.Goals as goal

-- where the reading didn't fail, the output did
only_output : {A B : Type 0} (a : A) (r : Result B Failure) → IfErr r (λ why. IsOutput why ⊎ (Ok a ≡ Err why)) → IfErr r (λ why. IsOutput why ⊎ (why ≡ failure.Memory))
only_output a (Ok b) h = tt
only_output a (Err why) (inl is) = inl is
only_output a (Err why) (inr bad) = absurd cc

pub returns-clause-failed : goal.returns-clause-failed
returns-clause-failed g c = only_output _ c.finish.result c.finish.ensures.failed

pub returns-clause-written : goal.returns-clause-written
returns-clause-written g c =
    let printed : is_err c.print.result ≡ false = sym c.is_err.ensures.value ∙ c.if-is_err.false in
    let appended = no_error c.print.result _ printed c.print.ensures.written in
    let text : c.print.new.out.items ≡ table_text c.args.counts.now = appended ∙ ap (λ (l : List ℕ). l ++ table_text c.args.counts.now) c.new-lines.ensures in
    on_ok c.finish.result _ _ (λ h. subst (λ (l : List ℕ). Appends (g.O.Write.contents c.args.out.now) (g.O.Write.contents c.finish.new.out) l) text h.1) c.finish.ensures.all
