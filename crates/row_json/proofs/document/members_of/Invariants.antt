use Rattle.std.proofs.Common.{◌-◌, ◌≡◌, ◌≤◌, false}
use Rattle.binlog_values.specs.JsonbTrees.{no_members, merged_into}
use Rattle.binlog_values.specs.JsonbViews.{view_of}
use Rattle.row_json.specs.Workings.Walked.{OfEntries, AreIndexed}
use Rattle.row_json.proofs.Walked.{first_of}
use Rattle.row_json.proofs.document.members_of.Given as goal

abbrev pub invariant-loop-pos : goal.invariant-loop-pos
invariant-loop-pos l = (l.pos ≤ l.count) × OfEntries (view_of l.object) l.count (λ c bs. c.is_array ≡ false → AreIndexed c l.members.entries (merged_into no_members (first_of l.pos bs)))

abbrev pub decreases-loop-pos : goal.decreases-loop-pos
decreases-loop-pos l = l.count - l.pos
