use Rattle.std.proofs.Common.{◌≡◌, ◌-◌, ◌≤◌, length, map, drop}
use Rattle.table_schema.specs.Files.{indexes_of, key_index}
use Rattle.table_schema.proofs.Indexes.{key_left}
use Rattle.table_schema.proofs.keys.key_index.Given as goal

abbrev pub invariant-loop-start : goal.invariant-loop-start
invariant-loop-start l = record {
  key : key_left l.columns (map (λ x. x.now) l.whole.items) (drop l.start l.keys) ≡ key_index l.columns (indexes_of l.keys);
  within : l.start ≤ length l.keys;
}

abbrev pub decreases-loop-start : goal.decreases-loop-start
decreases-loop-start l = length l.keys - l.start
