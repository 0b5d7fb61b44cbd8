use Rattle.std.proofs.Common.{◌≡◌, ◌+◌, ◌-◌, ◌*◌, ◌≤◌, List, ◌++◌, Ok}
use Rattle.binlog_values.specs.JsonbDocuments.{size_of}
use Rattle.binlog_values.specs.JsonbViews.{view_of}
use Rattle.row_json.specs.Wrote.{AddsSome}
use Rattle.row_json.specs.Workings.Walked.{OfEntries, OfIndexed, WroteItems, WroteIndexed}
use Rattle.row_json.proofs.Walked.{Entry, first_of}
use Rattle.row_json.proofs.document.+write_value.Given as goal

abbrev pub invariant-write_items-loop-pos : goal.invariant-write_items-loop-pos
invariant-write_items-loop-pos l = (l.pos ≤ l.count) × OfEntries (view_of l.array) l.count (λ c bs. WroteItems l.initial.out l.out (first_of l.pos bs)) × AddsSome l.initial.out l.out

abbrev pub decreases-write_items-loop-pos : goal.decreases-write_items-loop-pos
decreases-write_items-loop-pos l = l.count - l.pos

abbrev pub invariant-write_members-loop-name : goal.invariant-write_members-loop-name
invariant-write_members-loop-name l =
    (done : List Entry) × (l.members.entries ≡ done ++ l.name-iterator) × OfIndexed (view_of l.object) done (WroteIndexed l.initial.out l.out) × AddsSome l.initial.out l.out

abbrev pub decreases-write_value : goal.decreases-write_value
decreases-write_value l = 4 * size_of (Ok (view_of l.value.now)) + 3

abbrev pub decreases-write_array : goal.decreases-write_array
decreases-write_array l = 4 * size_of (Ok (view_of l.array.now)) + 2

abbrev pub decreases-write_object : goal.decreases-write_object
decreases-write_object l = 4 * size_of (Ok (view_of l.object.now)) + 2

abbrev pub decreases-write_items : goal.decreases-write_items
decreases-write_items l = 4 * size_of (Ok (view_of l.array.now)) + 1

abbrev pub decreases-write_members : goal.decreases-write_members
decreases-write_members l = 4 * size_of (Ok (view_of l.object.now)) + 1

abbrev pub decreases-write_element : goal.decreases-write_element
decreases-write_element l = 4 * size_of (Ok (view_of l.container.now))
