use Rattle.std.proofs.Common.{arith}
use Rattle.binlog_decimal.proofs.DecimalSteps.{below-bytes}
use Rattle.binlog_decimal.proofs.decimal.mask.is_negative.Goals as goal

pub returns-in-Some-clause-below : goal.returns-in-Some-clause-below
returns-in-Some-clause-below c = below-bytes c.args.bytes.now (λ k. omega (arith, c.type_inv.bytes k))

pub returns-in-None-clause-below : goal.returns-in-None-clause-below
returns-in-None-clause-below c = below-bytes c.args.bytes.now (λ k. omega (arith, c.type_inv.bytes k))
