use Rattle.row_json.proofs.document.write_lent_diffs.Goals as goal
use Rattle.row_json.specs.Faults.{HasNone, IsFaultOfDiffs}
use Rattle.binlog_values.specs.JsonDiffs.{Diff}
use Rattle.std.specs.Prelude.{OnOk}
use Rattle.std.proofs.Common.{◌≡◌, List, subst, ◌∙◌}

pub returns-clause-sound : goal.returns-clause-sound
returns-clause-sound c =
    let same : c.deref.result.now ≡ c.args.diffs.now = c.deref.ensures.value ∙ c.in_ok-diffs.ensures in
    subst (λ (ds : List Diff). OnOk c.write_diffs.result (HasNone (IsFaultOfDiffs ds))) same c.write_diffs.ensures.sound
