use Rattle.std.proofs.Common.{ℕ, List, [], refl, ap, subst, ◌∙◌, append_assoc}
use Rattle.change_lines.specs.declared.notes.Notes.{Notes}
use Rattle.change_lines.specs.Notes.{Tells}
use Rattle.change_lines.proofs.Ran.{run_failed}
use Rattle.change_lines.proofs.Told.{tells_silent, tells_more, unless_quiet}
use Rattle.change_lines.proofs.run.run.Goals as goal

pub returns-in_err-printed-clause-run : goal.returns-in_err-printed-clause-run
returns-in_err-printed-clause-run g c = λ x known small. run_failed _ _ _ _ _ _ _ _ c.in_err-printed.field-0.0 c.from_residual.ensures.1 (c.in_err-printed.ensures.first c.new-4.ensures c.new.ensures x known small) (λ same. c.in_err-printed.ensures.first_counts same x known small)

pub returns-clause-run : goal.returns-clause-run
returns-clause-run g c = λ x known small.
    let h = c.in_ok-printed.ensures in
    let noted = h.noted in record {
      lines = h.all c.new-4.ensures c.new.ensures x known small;
      first_lines = tt;
      counts = λ same. h.counts same x known small;
      skipped = (c.print-printed.new.self.gaps, noted.0, noted.2 refl c.new-2.ensures x known small, noted.1 refl);
      first_counts = λ same. tt;
    }

pub returns-clause-told : goal.returns-clause-told
returns-clause-told g c = λ none sized x known small.
    let h = c.in_ok-printed.ensures in
    let noted = h.noted in
    let silent = c.see_faulty.ensures.silent in
    let broke = noted.3 none sized in
    let quiet = silent.quiet ∙ c.print-printed.ensures.quiet in
    let is_quiet = c.args.notes.now.is_quiet in
    let gaps = unless_quiet is_quiet _ _ _ _ _
    (λ is. let same = c.tell_gaps.ensures.silent (quiet ∙ is) in (ap (λ (n : Notes _ _). n.is_lost) same, ap (λ (n : Notes _ _). g.E.Write.contents n.err) same))
    (λ loud. c.tell_gaps.ensures.text (quiet ∙ loud)) in
    let after = tells_more _ _ _ _ _ _ [] _ (tells_silent _ _ _ _ silent.lost (ap g.E.Write.contents silent.err)) gaps in
    let told = tells_more _ _ _ _ _ _ _ _ broke.4 after in (
      c.print-printed.new.self.gaps,
      noted.0,
      noted.2 refl c.new-2.ensures x known small,
      (
        broke.0,
        broke.1,
        broke.2,
        broke.3,
        subst (λ (t : List ℕ). Tells c.args.notes.now.is_lost (g.E.Write.contents c.args.notes.now.err) c.tell_gaps.new.self.is_lost (g.E.Write.contents c.tell_gaps.new.self.err) t) (append_assoc broke.0 _ _) told,
      ),
    )
