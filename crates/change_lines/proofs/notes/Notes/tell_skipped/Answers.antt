use Rattle.std.proofs.Common.{◌≡◌, true, false, sym, ◌∙◌}
use Rattle.change_lines.specs.declared.error.Failure.TheVariants as failure
use Rattle.change_lines.proofs.Told.{some_told}
use Rattle.change_lines.proofs.notes.Notes.tell_skipped.Goals as goal

pub returns-in_default-clause-text : goal.returns-in_default-clause-text
returns-in_default-clause-text g c =
    let h = c.in_default.ensures.text in
    (h.0, h.1, λ kept. (sym c.write_file.ensures.lost ∙ kept, h.2))

pub returns-clause-text : goal.returns-clause-text
returns-clause-text g c =
    let some = some_told c.args.path.now (failure.File c.args.error.now) in
    (some.0, some.1, λ kept. absurd (let bad : true ≡ false = sym c.lose.ensures.lost ∙ kept in cc))
