use Rattle.std.proofs.Common.{◌≡◌, sym, ◌∙◌, subst, rules}
use Rattle.json.specs.Print.{ArePrintable}
use Rattle.json_line.specs.Writer.{IsBegun}
use Rattle.json_line.proofs.Pieces.{shows_piece}
use Rattle.json_line.proofs.piece.Piece.bytes.Goals as goal

pub returns-clause-text : goal.returns-clause-text
returns-clause-text c =
    let h = c.self.invariant in
    let printed : h.printed ≡ c.args.self.now = sym (shows_piece c.self.inside h) ∙ c.self.view_is in
    rw (← printed) (search (rules, h.text))

pub returns-clause-begun : goal.returns-clause-begun
returns-clause-begun c =
    let h = c.self.invariant in
    subst IsBegun (sym (shows_piece c.self.inside h) ∙ c.self.view_is) h.begun

pub returns-clause-printable : goal.returns-clause-printable
returns-clause-printable c =
    let h = c.self.invariant in
    subst ArePrintable (sym (shows_piece c.self.inside h) ∙ c.self.view_is) h.printable
