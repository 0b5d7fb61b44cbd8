use Rattle.std.proofs.Common.{◌≡◌, ◌∙◌, sym, true}
use Rattle.std.specs.List.{list_all}
use Rattle.row_lines.specs.Names.{is_ascii_bare}
use Rattle.row_lines.proofs.Bare.{quoted_bare}
use Rattle.row_lines.proofs.name.push_quoted.Goals as goal

pub returns-then-is_ascii_bare-clause-added : goal.returns-then-is_ascii_bare-clause-added
returns-then-is_ascii_bare-clause-added c =
    let bare : list_all is_ascii_bare c.args.name.now ≡ true = sym c.is_ascii_bare.ensures ∙ c.if-is_ascii_bare.true in
    rw (quoted_bare c.args.name.now bare) c.push_text.ensures.added
