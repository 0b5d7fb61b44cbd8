use Rattle.std.proofs.Common.{List, [], subst, sym, ◌∙◌}
use Rattle.row_json.specs.LongLines.{LinePart}
use Rattle.row_json.specs.Workings.Drafts.{Holds}
use Rattle.row_json.proofs.Drafts.{holds_nothing}
use Rattle.row_json.proofs.long.Draft.new.Goals as goal

pub returns : goal.returns
returns c =
    let w = c.new-3 in
    subst (λ (ps : List LinePart). Holds ps w.result []) (sym c.new.ensures.items) (holds_nothing w.result (w.ensures.before ∙ c.new-2.ensures.items) w.ensures.tokens)
