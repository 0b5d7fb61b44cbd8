use Rattle.std.proofs.Common.{refl}
use Rattle.json.specs.Json as json
use Rattle.row_json.proofs.pair.write_image.Goals as goal

pub returns-in_ok-null-in-None-clause-written : goal.returns-in_ok-null-in-None-clause-written
returns-in_ok-null-in-None-clause-written g c = rw c.in-None.is (record { value = json.null; is = refl; adds = record { before = c.null.ensures.before; tokens = c.in_ok-null-in-None.ensures.ok } })
