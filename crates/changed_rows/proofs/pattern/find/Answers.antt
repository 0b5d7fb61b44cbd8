use Rattle.std.proofs.Common.{◌≡◌, ◌∙◌, false, sym}
use Rattle.changed_rows.specs.Patterns.{parts_of, matches_parts}
use Rattle.changed_rows.proofs.Patterns.{found_is, lost_is, next_place, last_place}
use Rattle.changed_rows.proofs.pattern.find.Goals as goal

pub returns-then-is_found-clause-same : goal.returns-then-is_found-clause-same
returns-then-is_found-clause-same c =
    let w = c.walk_along-walked in
    found_is c.args.case c.args.pattern.now c.loop-left.left.now w.result (sym c.is_found.ensures ∙ c.if-is_found.true) w.ensures.same w.ensures.first ∙ c.loop-left.invariant

pub returns-in_default-clause-same : goal.returns-in_default-clause-same
returns-in_default-clause-same c =
    let k = c.args.case in
    let ps = parts_of c.args.pattern.now in
    let left = c.loop-left.left.now in
    let none : matches_parts k ps left ≡ false = sym c.walk_along-walked.ensures.same ∙ lost_is k c.walk_along-walked.result (sym c.is_found.ensures ∙ c.if-is_found.false) in
    sym (last_place k ps left c.in_default.ensures.cases none) ∙ c.loop-left.invariant

pub loop-left-preserved : goal.loop-left-preserved
loop-left-preserved c =
    let k = c.args.case in
    let ps = parts_of c.args.pattern.now in
    let left = c.loop-left.left.now in
    let none : matches_parts k ps left ≡ false = sym c.walk_along-walked.ensures.same ∙ lost_is k c.walk_along-walked.result (sym c.is_found.ensures ∙ c.if-is_found.false) in
    sym (next_place k ps left c.in-Some.field-0-0.now c.in-Some.rest.now c.in-Some.ensures.cases.0 none) ∙ c.loop-left.invariant
