use Rattle.std.proofs.Common.{◌≡◌, ◌+◌, ◌<◌, ℕ, List, ◌++◌, drop, length}
use Rattle.std.specs.List.{flat_map}
use Rattle.binlog_base.specs.Values.{value_at}
use Rattle.row_json.specs.declared.row.Part.TheVariants as part
use Rattle.row_json.specs.Columns.{columns_in, set_from}
use Rattle.row_json.specs.Faults.{HasNone, IsFaultOfCell}
use Rattle.row_json.specs.Rows.{AreMembers}
use Rattle.row_json.specs.Workings.Drafts.{Goes}
use Rattle.row_json.specs.Wrote.{Named, named_tokens}
use Rattle.row_json.proofs.long.write_members.Given as goal

abbrev pub invariant-loop-place : goal.invariant-loop-place
invariant-loop-place l =
    (next : ℕ) × (drop l.place l.places ≡ set_from next (drop next l.present))
    × (done : List Named) × Goes l.initial.draft.parts.items l.initial.draft.out l.draft.parts.items l.draft.out (flat_map named_tokens done)
    × ((more : List Named) → AreMembers part.Row (drop next l.columns) (drop next l.present) l.place l.row.values more → AreMembers part.Row l.columns l.present 0 l.row.values (done ++ more))
    × (l.place + length (columns_in (drop next l.columns) (drop next l.present)) ≡ length (columns_in l.columns l.present))
    × ((k : ℕ) → k < l.place → HasNone (IsFaultOfCell part.Row (value_at l.row.values k)))
