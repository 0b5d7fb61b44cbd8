use Rattle.std.proofs.Common.{inr, sym, subst}
use Rattle.std.specs.Str.{NoCharPasses}
use Rattle.change_lines.specs.Files.{is_slash}
use Rattle.change_lines.proofs.files.file_name.Goals as goal

pub returns-in-Some : goal.returns-in-Some
returns-in-Some c =
    let h = c.in-Some.ensures.cases in
    inr (h.0, h.1, h.2.1, h.4, subst (NoCharPasses is_slash) (sym h.4) h.2.0)
