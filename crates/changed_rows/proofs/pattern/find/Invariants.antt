use Rattle.std.proofs.Common.{◌≡◌, ◌∷◌, length}
use Rattle.changed_rows.specs.declared.pattern.Part.TheVariants as part
use Rattle.changed_rows.specs.Patterns.{parts_of, matches_parts}
use Rattle.changed_rows.proofs.pattern.find.Given as goal

abbrev pub invariant-loop-left : goal.invariant-loop-left
invariant-loop-left l = matches_parts l.case (part.Any ∷ parts_of l.pattern) l.left ≡ matches_parts l.case (part.Any ∷ parts_of l.pattern) l.name

abbrev pub decreases-loop-left : goal.decreases-loop-left
decreases-loop-left l = length l.left
