use Rattle.binlog_decimal.specs.Lemmas.PackedDecimals.{exact_packed_decimal, exact_counted_decimal}
use Rattle.binlog_decimal.proofs.laws.packed_decimals_are_exact.Goals as goal

pub returns-clause-decimal : goal.returns-clause-decimal
returns-clause-decimal c = exact_packed_decimal

pub returns-clause-counted : goal.returns-clause-counted
returns-clause-counted c = exact_counted_decimal
