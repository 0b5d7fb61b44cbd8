use Rattle.std.proofs.Common.{◌-◌, ◌≤◌, length}
use Rattle.table_schema.specs.Search.{target_of}
use Rattle.table_schema.proofs.Halving.{Low, High}
use Rattle.table_schema.proofs.search.search.Given as goal

abbrev pub invariant-loop-low : goal.invariant-loop-low
invariant-loop-low l = record {
  low : Low (target_of l.target) l.text l.low;
  high : High (target_of l.target) l.text l.high;
  low_in : l.low ≤ length l.text;
  high_in : l.high ≤ length l.text;
}

abbrev pub decreases-loop-low : goal.decreases-loop-low
decreases-loop-low l = l.high - l.low
