use Rattle.std.proofs.Common.{◌≤◌}
use Rattle.table_schema.proofs.search.line_start.Given as goal

abbrev pub invariant-loop-start : goal.invariant-loop-start
invariant-loop-start l = (l.low ≤ l.start) × (l.start ≤ l.place)

abbrev pub decreases-loop-start : goal.decreases-loop-start
decreases-loop-start l = l.start
