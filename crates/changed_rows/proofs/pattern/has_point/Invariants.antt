use Rattle.std.proofs.Common.{◌≡◌, take, false}
use Rattle.std.specs.List.{list_any, range_with_len}
use Rattle.changed_rows.specs.Patterns.{takes_next, is_point}
use Rattle.changed_rows.proofs.pattern.has_point.Given as goal

abbrev pub invariant-loop-byte : goal.invariant-loop-byte
invariant-loop-byte l = record {
  taken : l.is_taken ≡ takes_next (take l.byte-index l.pattern);
  none : list_any (λ i. is_point l.pattern i) (range_with_len 0 l.byte-index) ≡ false;
}
