use Rattle.std.proofs.Common.{◌≡◌, ◌≤◌, None, length}
use Rattle.binlog_file.specs.Workings.Walks.{spot_of, most_kept_in}
use Rattle.binlog_file.proofs.AskedFollowed.{Passes}
use Rattle.binlog_file.proofs.changes.pass_over.Given as goal

abbrev pub invariant-loop-item : goal.invariant-loop-item
invariant-loop-item l = record {
  passes : Passes l.types (spot_of l.initial.walk) (spot_of l.walk);
  pending : l.walk.pending ≡ None;
  left : length l.walk.events.left ≤ length l.initial.walk.events.left;
  bound : most_kept_in l.walk ≡ most_kept_in l.initial.walk;
}

abbrev pub decreases-loop-item : goal.decreases-loop-item
decreases-loop-item l = length l.walk.events.left
