use Rattle.std.proofs.lemmas.Fmt.{decimal_digit}
use Rattle.itoa.proofs.Decimal.{decimal_two}
use Rattle.json_line.proofs.digits.place_first.Goals as goal

pub returns-then-number-lt10-clause-placed : goal.returns-then-number-lt10-clause-placed
returns-then-number-lt10-clause-placed c = rw (decimal_digit c.args.number c.if-number-lt10.true) c.place_byte.ensures

pub returns-else-number-lt10-clause-placed : goal.returns-else-number-lt10-clause-placed
returns-else-number-lt10-clause-placed c = rw (decimal_two c.args.number c.if-number-lt10.false c.requires.0) c.place_pair.ensures
