use Rattle.std.proofs.Common.{◌≡◌, ◌++◌}
use Rattle.binlog_values.proofs.documents.LentDiffs.list.Given as goal

-- the diffs of the list so far are those that are no longer left
abbrev pub invariant-loop-diff : goal.invariant-loop-diff
invariant-loop-diff l = l.diffs.items ++ l.diff-iterator ≡ l.fn.self
