use Rattle.json.proofs.Printed.Places.{Placed-then}
use Rattle.json_line.proofs.Decimals.{pairs_at}
use Rattle.json_line.proofs.digits.place_pair.Goals as goal

pub returns : goal.returns
returns c =
    let p = pairs_at c.args.number c.requires.0 in
    rw (← p.0, ← p.1) (Placed-then c.place_byte-at.ensures c.place_byte.ensures)
