use Rattle.std.proofs.Common.{◌≡◌, ◌++◌, take}
use Rattle.changed_rows.specs.Workings.Came.{missing_in}
use Rattle.changed_rows.proofs.named.push_missing.Given as goal

abbrev pub invariant-loop-i : goal.invariant-loop-i
invariant-loop-i l = l.missing.items ≡ l.initial.missing.items ++ missing_in l.kind (take l.i l.names) l.came
