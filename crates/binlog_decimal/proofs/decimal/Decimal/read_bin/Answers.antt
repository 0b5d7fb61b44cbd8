use Rattle.std.proofs.Common.{arith}
use Rattle.binlog_decimal.proofs.DecimalSources.{decimal_refused, decimal_empty}
use Rattle.binlog_decimal.proofs.decimal.Decimal.read_bin.Goals as goal

pub returns-then-scale-precision-clause-answer : goal.returns-then-scale-precision-clause-answer
returns-then-scale-precision-clause-answer g c =
    decimal_refused c.args.precision c.args.scale c.args.keep_prec _ _ c.if-scale-precision.true

pub returns-then-precision-eq0-clause-answer : goal.returns-then-precision-eq0-clause-answer
returns-then-precision-eq0-clause-answer g c =
    decimal_empty c.args.precision c.args.scale c.args.keep_prec c.in_ok-default.field-0 _ _ (omega (arith, c.if-scale-precision.false)) (omega (arith, c.if-precision-eq0.true)) c.in_ok-default.ensures
