use Rattle.std.proofs.Common.{◌≡◌, ◌+◌, ◌<◌, ℕ, List, ◌++◌, drop, length}
use Rattle.std.specs.List.{flat_map}
use Rattle.binlog_base.specs.Values.{value_at}
use Rattle.row_json.specs.Columns.{columns_in, set_from}
use Rattle.row_json.specs.Faults.{HasNone, IsFaultOfCell}
use Rattle.row_json.specs.Rows.{AreMembers}
use Rattle.row_json.specs.Wrote.{Adds, Named, named_tokens}
use Rattle.row_json.proofs.row.write_members.Given as goal

abbrev pub invariant-loop-place : goal.invariant-loop-place
invariant-loop-place g l =
    (next : ℕ) × (drop l.place l.places ≡ set_from next (drop next l.present))
    × (done : List Named) × Adds l.initial.out l.out (flat_map named_tokens done)
    × ((more : List Named) → AreMembers l.part (drop next l.columns) (drop next l.present) l.place (g.R.Row.image l.row).values more → AreMembers l.part l.columns l.present 0 (g.R.Row.image l.row).values (done ++ more))
    × (l.place + length (columns_in (drop next l.columns) (drop next l.present)) ≡ length (columns_in l.columns l.present))
    × ((k : ℕ) → k < l.place → HasNone (IsFaultOfCell l.part (value_at (g.R.Row.image l.row).values k)))
