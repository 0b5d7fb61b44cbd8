use Rattle.std.proofs.Common.{◌≡◌}
use Rattle.changed_rows.specs.Patterns.{matches}
use Rattle.changed_rows.specs.Workings.Walks.{places_left, is_match}
use Rattle.changed_rows.proofs.pattern.matches.Given as goal

abbrev pub invariant-loop-walked : goal.invariant-loop-walked
invariant-loop-walked l = is_match l.case l.walked ≡ matches l.case l.pattern l.name

abbrev pub decreases-loop-walked : goal.decreases-loop-walked
decreases-loop-walked l = places_left l.walked
