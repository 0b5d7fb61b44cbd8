use Rattle.std.proofs.Common.{refl}
use Rattle.json.specs.Json as json
use Rattle.row_json.proofs.Steps.{adds_string, wrote_value}
use Rattle.row_json.proofs.cell.write_timestamp.Goals as goal

pub returns-clause-written : goal.returns-clause-written
returns-clause-written c =
    let time = c.push_timestamp.new.text in
    wrote_value c.string.result c.args.out.now c.string.new.self _ (json.string time) (time, c.push_timestamp.ensures, refl) (adds_string c.string.result _ _ _ time c.as_str.ensures c.string.ensures)
