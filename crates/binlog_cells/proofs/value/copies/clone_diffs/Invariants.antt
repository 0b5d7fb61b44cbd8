use Rattle.std.proofs.Common.{◌≡◌, take}
use Rattle.binlog_cells.proofs.value.copies.clone_diffs.Given as goal

abbrev pub invariant-loop-diff : goal.invariant-loop-diff
invariant-loop-diff l = l.copies.items ≡ take l.diff-index l.diffs
