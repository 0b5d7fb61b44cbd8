use Rattle.std.proofs.Common.{◌≡◌, ◌≤◌, None}
use Rattle.binlog_file.specs.Changes.{IsMemory, TakeGives, most_left}
use Rattle.binlog_file.specs.Workings.Walks.{spot_of, most_kept_in}
use Rattle.binlog_file.proofs.changes.next_change.Given as goal

abbrev pub invariant-loop-error : goal.invariant-loop-error
invariant-loop-error g l = record {
  follows : TakeGives IsMemory (g.C.Choice.wanted l.choice) (spot_of l.initial.walk) None (spot_of l.walk);
  most : most_left (spot_of l.walk) ≤ most_left (spot_of l.initial.walk);
  bound : most_kept_in l.walk ≡ most_kept_in l.initial.walk;
}

abbrev pub decreases-loop-error : goal.decreases-loop-error
decreases-loop-error g l = most_left (spot_of l.walk)
