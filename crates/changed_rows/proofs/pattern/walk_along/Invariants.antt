use Rattle.std.proofs.Common.{◌≡◌, ◌≤◌, ◌∷◌, true, length}
use Rattle.changed_rows.specs.declared.pattern.Part.TheVariants as part
use Rattle.changed_rows.specs.Patterns.{parts_of, matches, matches_parts}
use Rattle.changed_rows.proofs.pattern.walk_along.Given as goal

abbrev pub invariant-loop-part : goal.invariant-loop-part
invariant-loop-part l = record {
  same : matches l.case l.ahead l.left ≡ matches l.case l.fn.pattern l.fn.name;
  first : matches_parts l.case (part.Any ∷ parts_of l.fn.pattern) l.fn.name ≡ true → matches_parts l.case (part.Any ∷ parts_of l.ahead) l.left ≡ true;
  shorter : length l.ahead ≤ length l.fn.pattern;
}

abbrev pub decreases-loop-part : goal.decreases-loop-part
decreases-loop-part l = length l.ahead
