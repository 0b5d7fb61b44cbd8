use Rattle.std.proofs.Common.{refl}
use Rattle.json.specs.Json as json
use Rattle.row_json.specs.Wrote.{members_of}
use Rattle.row_json.proofs.Steps.{adds_object}
use Rattle.row_json.proofs.row.write_object.Goals as goal

pub returns-clause-written : goal.returns-clause-written
returns-clause-written g c =
    let ms = c.in_ok-write_members.ensures.written in record {
      value = json.object (members_of ms.0);
      is = (ms.0, rw (← c.columns.ensures) ms.1, refl);
      adds = adds_object ms.0 (record { before = c.begin_object.ensures.before; tokens = c.in_ok-begin_object.ensures.ok }) ms.2 (record { before = c.end_object.ensures.before; tokens = c.in_ok-end_object.ensures.ok });
    }

pub returns-clause-sound : goal.returns-clause-sound
returns-clause-sound g c = rw (← c.columns.ensures) c.in_ok-write_members.ensures.sound
