use Rattle.std.proofs.Common.{List, ℕ, subst}
use Rattle.json.specs.Print.{escape}
use Rattle.row_json.specs.LongLines.{characters}
use Rattle.change_lines.proofs.Beginnings.{WroteSoFar, wrote_next, wrote_part}
use Rattle.change_lines.proofs.output.write_text.Goals as goal

pub loop-left-preserved : goal.loop-left-preserved
loop-left-preserved g c =
    let whole = escape (characters c.args.text) in
    let rest = escape (characters c.take_escaped.new.self) in
    let step = subst (λ (t : List ℕ). WroteSoFar (g.O.Write.contents c.args.out.now) (g.O.Write.contents c.loop-left.out) whole t) c.take_escaped.ensures.text c.loop-left.invariant in
    wrote_next _ _ _ whole c.take_escaped.result.now rest step c.in_ok-write_whole.ensures.whole

pub returns-in_err-write_whole-clause-first : goal.returns-in_err-write_whole-clause-first
returns-in_err-write_whole-clause-first g c =
    let whole = escape (characters c.args.text) in
    let rest = escape (characters c.take_escaped.new.self) in
    let step = subst (λ (t : List ℕ). WroteSoFar (g.O.Write.contents c.args.out.now) (g.O.Write.contents c.loop-left.out) whole t) c.take_escaped.ensures.text c.loop-left.invariant in
    wrote_part _ _ _ whole c.take_escaped.result.now rest step c.write_whole.ensures.first
