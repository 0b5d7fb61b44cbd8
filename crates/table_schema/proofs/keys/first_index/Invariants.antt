use Rattle.std.proofs.Common.{◌≡◌, ◌-◌, ◌≤◌, length, take, drop}
use Rattle.table_schema.specs.Files.{indexes_of, indexes_from}
use Rattle.table_schema.proofs.keys.first_index.Given as goal

abbrev pub invariant-loop-end : goal.invariant-loop-end
invariant-loop-end l = record {
  so_far : indexes_of l.keys ≡ indexes_from (take l.end l.keys) (drop l.end l.keys);
  some : 1 ≤ l.end;
  within : l.end ≤ length l.keys;
}

abbrev pub decreases-loop-end : goal.decreases-loop-end
decreases-loop-end l = length l.keys - l.end
