use Rattle.std.proofs.Common.{arith}
use Rattle.json_line.proofs.Decimals.{then_pair}
use Rattle.json_line.proofs.digits.place_short.Goals as goal

pub returns-clause-placed : goal.returns-clause-placed
returns-clause-placed c = then_pair c.args.number (omega arith) (omega arith) c.place_first-at.ensures.placed c.place_pair.ensures
