use Rattle.std.proofs.Common.{arith}
use Rattle.json_line.proofs.Decimals.{then_four}
use Rattle.json_line.proofs.digits.place_16.Goals as goal

pub returns-clause-placed : goal.returns-clause-placed
returns-clause-placed c = then_four c.args.number (omega arith) (omega arith) c.place_12-at.ensures.placed c.place_four.ensures
