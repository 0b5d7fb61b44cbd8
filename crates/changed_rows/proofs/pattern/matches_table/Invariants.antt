use Rattle.std.proofs.Common.{◌≡◌, take, false}
use Rattle.std.specs.Prelude.{◌&&◌}
use Rattle.std.specs.List.{list_any, range_with_len}
use Rattle.changed_rows.specs.Patterns.{takes_next, is_point, divides}
use Rattle.changed_rows.proofs.pattern.matches_table.Given as goal

abbrev pub invariant-loop-index : goal.invariant-loop-index
invariant-loop-index l = record {
  taken : l.is_taken ≡ takes_next (take l.index l.pattern);
  none : list_any (λ i. is_point l.pattern i && divides l.case l.pattern l.database l.table i) (range_with_len 0 l.index) ≡ false;
}
