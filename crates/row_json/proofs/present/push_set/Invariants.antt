use Rattle.std.proofs.Common.{◌≡◌, ◌++◌, drop}
use Rattle.row_json.specs.Columns.{set_from}
use Rattle.row_json.proofs.present.push_set.Given as goal

abbrev pub invariant-loop-index : goal.invariant-loop-index
invariant-loop-index l = l.places.items ++ set_from l.index (drop l.index l.bits) ≡ l.initial.places.items ++ set_from 0 l.bits
