use Rattle.std.proofs.Common.{arith}
use Rattle.std.specs.Prelude.{decimal}
use Rattle.std.proofs.lemmas.List.{length-append}
use Rattle.row_json.proofs.Digits.{length_decimal}
use Rattle.row_json.proofs.time.TimeText.push_two_digits.Goals as goal

pub push_decimal-requires : goal.push_decimal-requires
push_decimal-requires c = omega (arith, length_decimal c.args.number c.ranges.number.fits)

pub returns-else-number-lt100-clause-short : goal.returns-else-number-lt100-clause-short
returns-else-number-lt100-clause-short c = rw c.push_decimal.ensures (omega (arith, length-append c.args.self.now (decimal c.args.number), length_decimal c.args.number c.ranges.number.fits))
