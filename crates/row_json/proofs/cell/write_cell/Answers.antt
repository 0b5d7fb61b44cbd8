use Rattle.std.proofs.Common.{refl, subst}
use Rattle.std.specs.Prelude.{OnOk}
use Rattle.binlog_values.specs.JsonbValues.{JsonbValue}
use Rattle.row_json.specs.Faults.{HasNone, IsFaultOf}
use Rattle.json.specs.Json as json
use Rattle.row_json.proofs.cell.write_cell.Goals as goal

pub returns-in_ok-null-in-Diffs-clause-written : goal.returns-in_ok-null-in-Diffs-clause-written
returns-in_ok-null-in-Diffs-clause-written g c = rw c.in-Diffs.is (record { value = json.null; is = refl; adds = record { before = c.null.ensures.before; tokens = c.in_ok-null-in-Diffs.ensures.ok } })

pub returns-in-Json-clause-sound : goal.returns-in-Json-clause-sound
returns-in-Json-clause-sound g c = rw c.in-Json.is (subst (λ (v : JsonbValue). OnOk c.write_document.result (HasNone (IsFaultOf v))) c.value.ensures c.write_document.ensures.sound)
