use Rattle.std.proofs.Common.{◌≡◌, ℕ, List}
use Rattle.binlog_file.specs.Changes.{Follows, first_spot}
use Rattle.binlog_file.specs.Workings.Walks.{spot_of}
use Rattle.binlog_file.proofs.changes.collect.Given as goal

abbrev pub invariant-loop-item : goal.invariant-loop-item
invariant-loop-item g l = record {
  same : l.item-iterator.choice ≡ l.fn.changes.choice;
  follows : (x : List ℕ) → spot_of l.fn.changes.walk ≡ first_spot x → Follows (g.C.Choice.wanted l.fn.changes.choice) (first_spot x) l.list.items (spot_of l.item-iterator.walk);
}
