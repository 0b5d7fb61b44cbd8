use Rattle.std.proofs.Common.{◌≤◌, length}
use Rattle.binlog_file.specs.Changes.{most_left}
use Rattle.binlog_file.specs.Workings.Walks.{spot_of}
use Rattle.binlog_count_lent.proofs.json.add_change.Given as goal

abbrev pub invariant-loop-item : goal.invariant-loop-item
invariant-loop-item l = most_left (spot_of l.changes.walk) ≤ most_left (spot_of l.fn.changes.walk)

abbrev pub decreases-loop-item : goal.decreases-loop-item
decreases-loop-item l = length l.change.left
