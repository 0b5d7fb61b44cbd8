use Rattle.std.proofs.Common.{◌≡◌, List, ◌++◌, take, map}
use Rattle.binlog_values.specs.JsonbDoms.{dom_view, members_view}
use Rattle.binlog_values.proofs.JsonbClones.{Entry}
use Rattle.binlog_values.proofs.jsonb.dom.+clone_dom.Given as goal

abbrev pub invariant-clone_items-loop-item : goal.invariant-clone_items-loop-item
invariant-clone_items-loop-item l = map dom_view l.copies.items ≡ map dom_view (take l.item-index l.item-items)

abbrev pub invariant-clone_members-loop-key : goal.invariant-clone_members-loop-key
invariant-clone_members-loop-key l =
    (done : List Entry) × (l.members.entries ≡ done ++ l.key-iterator) × (members_view l.copies.entries ≡ members_view done)
