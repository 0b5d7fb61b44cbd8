use Rattle.std.proofs.Common.{◌≡◌}
use Rattle.change_lines.proofs.Grouped.{AreOthers}
use Rattle.change_lines.proofs.lacking.add_table.Given as goal

abbrev pub invariant-loop-i : goal.invariant-loop-i
invariant-loop-i l = (l.groups.items ≡ l.fn.groups.items) × AreOthers l.lacks l.groups.items l.i
