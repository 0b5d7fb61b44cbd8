use Rattle.std.proofs.Common.{◌≡◌, ◌∙◌, ◌∷◌, List, sym, ap, subst, true, arith}
use Rattle.changed_rows.specs.declared.pattern.Part.{Part}
use Rattle.changed_rows.specs.declared.pattern.Part.TheVariants as part
use Rattle.changed_rows.specs.Patterns.{parts_of, matches_parts}
use Rattle.changed_rows.proofs.Patterns.{match_more, match_end, match_apart, later_more, later_any}
use Rattle.changed_rows.proofs.pattern.walk_along.Goals as goal

pub returns-clause-same : goal.returns-clause-same
returns-clause-same c = sym (match_end c.args.case (parts_of c.loop-part.ahead.now) c.loop-part.left.now c.in_default.ensures) ∙ c.loop-part.invariant.same

pub returns-in_default-part-clause-first : goal.returns-in_default-part-clause-first
returns-in_default-part-clause-first c =
    let k = c.args.case in
    let rest = parts_of c.in-Some.rest.now in
    let left = c.loop-part.left.now in
    let parts : parts_of c.loop-part.ahead.now ≡ part.Any ∷ rest = c.in-Some.ensures.0 ∙ ap (λ (x : Part). x ∷ rest) c.in_default-part.is in
    λ h. later_any k rest left (subst (λ (ps : List Part). matches_parts k (part.Any ∷ ps) left ≡ true) parts (c.loop-part.invariant.first h))

pub returns-in_default-behind-clause-same : goal.returns-in_default-behind-clause-same
returns-in_default-behind-clause-same c =
    let k = c.args.case in
    let rest = parts_of c.in-Some.rest.now in
    let left = c.loop-part.left.now in
    let parts : parts_of c.loop-part.ahead.now ≡ part.Single c.in-Single.single ∷ rest = c.in-Some.ensures.0 ∙ ap (λ (x : Part). x ∷ rest) c.in-Single.is in
    sym (match_apart k c.in-Single.single rest left (sym c.in_default-behind.ensures)) ∙ ap (λ (ps : List Part). matches_parts k ps left) (sym parts) ∙ c.loop-part.invariant.same

pub loop-part-preserved : goal.loop-part-preserved
loop-part-preserved c =
    let k = c.args.case in
    let rest = parts_of c.in-Some.rest.now in
    let left = c.loop-part.left.now in
    let more = c.in-Some-behind.more.now in
    let parts : parts_of c.loop-part.ahead.now ≡ part.Single c.in-Single.single ∷ rest = c.in-Some.ensures.0 ∙ ap (λ (x : Part). x ∷ rest) c.in-Single.is in
    record {
      same = sym (match_more k c.in-Single.single rest left more (sym c.in-Some-behind.ensures)) ∙ ap (λ (ps : List Part). matches_parts k ps left) (sym parts) ∙ c.loop-part.invariant.same;
      first = λ h. later_more k c.in-Single.single rest left more (sym c.in-Some-behind.ensures) (subst (λ (ps : List Part). matches_parts k (part.Any ∷ ps) left ≡ true) parts (c.loop-part.invariant.first h));
      shorter = omega (arith, c.in-Some.ensures.1, c.loop-part.invariant.shorter);
    }
