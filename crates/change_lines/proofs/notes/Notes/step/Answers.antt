use Rattle.std.proofs.Common.{ap, ◌∙◌}
use Rattle.change_lines.proofs.Told.{still_told}
use Rattle.change_lines.proofs.notes.Notes.step.Goals as goal

pub returns-clause-text : goal.returns-clause-text
returns-clause-text g c = λ none.
    let told = c.tell_printed.ensures.text in
    let silent = c.tell_progress.ensures.silent (c.tell_printed.ensures.rest.meter ∙ none) in
    (told.0, told.1, still_told _ _ _ _ _ _ told.0 told.2 silent.lost (ap g.E.Write.contents silent.err))

pub returns-clause-meter : goal.returns-clause-meter
returns-clause-meter g c = λ none.
    let before = c.tell_printed.ensures.rest.meter ∙ none in
    (c.tell_progress.ensures.silent before).meter ∙ before
