use Rattle.std.proofs.Common.{◌≡◌, true, false, sym, ◌∙◌}
use Rattle.row_lines.specs.Names.{shown_name}
use Rattle.change_lines.proofs.Told.{some_told}
use Rattle.change_lines.proofs.notes.Notes.tell.Goals as goal

pub returns-in_default : goal.returns-in_default
returns-in_default g c =
    let h = c.in_default.ensures.text in
    (h.0, h.1, λ kept. (sym c.write_failure.ensures.lost ∙ kept, h.2))

pub returns : goal.returns
returns g c =
    let some = some_told (shown_name c.args.path.now) c.args.failure.now in
    (some.0, some.1, λ kept. absurd (let bad : true ≡ false = sym c.lose.ensures.lost ∙ kept in cc))
