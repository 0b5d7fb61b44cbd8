use Rattle.std.proofs.Common.{◌≡◌, take}
use Rattle.changed_rows.specs.Workings.Came.{each_with}
use Rattle.changed_rows.proofs.named.see_each.Given as goal

abbrev pub invariant-loop-i : goal.invariant-loop-i
invariant-loop-i l = l.came ≡ each_with l.kind (take l.i l.names) l.initial.came (l.database, l.table)
