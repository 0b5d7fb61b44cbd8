use Rattle.std.proofs.Common.{sym, ap, ◌∙◌}
use Rattle.json.specs.Print.{ends_value}
use Rattle.json_line.proofs.Pieces.{shows_piece}
use Rattle.json_line.proofs.piece.Piece.ends_value.Goals as goal

pub returns : goal.returns
returns c = c.self.invariant.place ∙ ap ends_value (sym (shows_piece c.self.inside c.self.invariant) ∙ c.self.view_is)
