use Rattle.std.proofs.Common.{◌≡◌, ℕ, length}
use Rattle.changed_rows.specs.Gaps.{after_line}
use Rattle.changed_rows.proofs.gaps.after_line.Given as goal

abbrev pub invariant-loop-first : goal.invariant-loop-first
invariant-loop-first l = after_line l.rest ≡ after_line l.fn.text

abbrev pub decreases-loop-first : goal.decreases-loop-first
decreases-loop-first l = length l.rest
