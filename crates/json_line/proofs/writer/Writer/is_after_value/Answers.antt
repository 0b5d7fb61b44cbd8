use Rattle.std.proofs.Common.{◌≡◌, sym, ap, ◌∙◌, subst}
use Rattle.json.specs.Print.{ends_value, ArePrintable}
use Rattle.json_line.proofs.Pieces.{shows_printed}
use Rattle.json_line.proofs.writer.Writer.is_after_value.Goals as goal

pub returns-clause-place : goal.returns-clause-place
returns-clause-place c =
    let h = c.self.invariant in
    let printed : h.printed ≡ c.args.self.now.tokens = sym (shows_printed c.self.inside h) ∙ ap (λ v. v.tokens) c.self.view_is in
    h.place ∙ ap ends_value printed

pub returns-clause-printable : goal.returns-clause-printable
returns-clause-printable c =
    let h = c.self.invariant in
    let printed : h.printed ≡ c.args.self.now.tokens = sym (shows_printed c.self.inside h) ∙ ap (λ v. v.tokens) c.self.view_is in
    subst ArePrintable printed h.printable
