use Rattle.std.proofs.Common.{◌≡◌, ◌++◌}
use Rattle.binlog_cells.proofs.value.copies.own_diffs.Given as goal

abbrev pub invariant-loop-diff : goal.invariant-loop-diff
invariant-loop-diff l = l.owned.items ++ l.diff-iterator.rest.items ≡ l.fn.diffs.items
