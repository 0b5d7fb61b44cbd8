use Rattle.std.proofs.Common.{◌≡◌, ◌<◌, ◌≤◌, ◌+◌, ◌++◌, [], List, ℕ, length, refl, sym, ◌∙◌, subst, append-nil, arith}
use Rattle.json.specs.Print.{escape}
use Rattle.row_json.specs.LongLines.{characters, line_bytes}
use Rattle.change_lines.proofs.Beginnings.{WroteSoFar, wrote_next, wrote_part}
use Rattle.change_lines.proofs.Pieces.{left_from, before_part, no_part_left}
use Rattle.change_lines.proofs.output.write_long_line.Goals as goal

pub returns-in_err-write_whole-clause-first : goal.returns-in_err-write_whole-clause-first
returns-in_err-write_whole-clause-first g c =
    let p = c.part-item.result in
    let below : c.loop-part.part-index < length c.parts-parts.result.now = omega arith in
    let step = before_part _ _ _ c.loop-part.part-index c.parts-parts.result.now c.args.line.now.rest p c.before-in-loop-part.result.now p.text c.loop-part.invariant below c.part-item.is c.before-in-loop-part.ensures refl in
    wrote_part _ _ _ _ c.before-in-loop-part.result.now _ step c.write_whole.ensures.first

pub returns-in_err-write_text-clause-first : goal.returns-in_err-write_text-clause-first
returns-in_err-write_text-clause-first g c =
    let text = c.text.result in
    let more = left_from (c.loop-part.part-index + 1) c.parts-parts.result.now c.args.line.now.rest in
    let below : c.loop-part.part-index < length c.parts-parts.result.now = omega arith in
    let step = before_part _ _ _ c.loop-part.part-index c.parts-parts.result.now c.args.line.now.rest c.part-item.result c.before-in-loop-part.result.now text c.loop-part.invariant below c.part-item.is c.before-in-loop-part.ensures c.text.ensures in
    let next = wrote_next _ _ _ _ c.before-in-loop-part.result.now (escape (characters text) ++ more) step c.in_ok-write_whole.ensures.whole in
    wrote_part _ _ _ _ (escape (characters text)) more next c.write_text.ensures.first

pub loop-part-preserved : goal.loop-part-preserved
loop-part-preserved g c =
    let text = c.text.result in
    let more = left_from (c.loop-part.part-index + 1) c.parts-parts.result.now c.args.line.now.rest in
    let below : c.loop-part.part-index < length c.parts-parts.result.now = omega arith in
    let step = before_part _ _ _ c.loop-part.part-index c.parts-parts.result.now c.args.line.now.rest c.part-item.result c.before-in-loop-part.result.now text c.loop-part.invariant below c.part-item.is c.before-in-loop-part.ensures c.text.ensures in
    let next = wrote_next _ _ _ _ c.before-in-loop-part.result.now (escape (characters text) ++ more) step c.in_ok-write_whole.ensures.whole in
    wrote_next _ _ _ _ (escape (characters text)) more next c.in_ok-write_text.ensures.whole

pub returns-clause-first : goal.returns-clause-first
returns-clause-first g c =
    let whole = line_bytes c.args.line.now in
    let ps = c.parts-parts.result.now in
    let i = c.loop-part.part-index in
    let past : length ps ≤ i = omega arith in
    let at : left_from i ps c.args.line.now.rest ≡ c.rest.result.now ++ [] = no_part_left i ps c.args.line.now.rest past ∙ sym c.rest.ensures ∙ sym (append-nil c.rest.result.now) in
    let step = subst (λ (t : List ℕ). WroteSoFar (g.O.Write.contents c.args.out.now) (g.O.Write.contents c.loop-part.out) whole t) at c.loop-part.invariant in
    wrote_part _ _ _ whole c.rest.result.now [] step c.write_whole-2.ensures.first
