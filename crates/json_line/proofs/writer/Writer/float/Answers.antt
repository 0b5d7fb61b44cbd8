use Rattle.std.proofs.lemmas.Result.{on_ok_weaker}
use Rattle.json.proofs.Printed.Floats.{IsNumber-plain}
use Rattle.json_line.proofs.writer.Writer.float.Goals as goal

pub number-requires : goal.number-requires
number-requires g c = IsNumber-plain _ c.format_finite.ensures.plain

pub returns-clause-plain : goal.returns-clause-plain
returns-clause-plain g c =
    let f = c.format_finite.ensures in
    on_ok_weaker c.number.result (λ e. (c.format_finite.result.now, e, f.plain, f.parses)) c.number.ensures.ok
