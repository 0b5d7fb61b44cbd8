use Rattle.std.proofs.Common.{◌≤◌, length}
use Rattle.binlog_file.specs.ItemsLeft.{left}
use Rattle.binlog_count_lent.proofs.lent.add_change_of.Given as goal

abbrev pub invariant-loop-item : goal.invariant-loop-item
invariant-loop-item g l = left l.changes ≤ left l.fn.changes

abbrev pub decreases-loop-item : goal.decreases-loop-item
decreases-loop-item g l = length l.change.left
