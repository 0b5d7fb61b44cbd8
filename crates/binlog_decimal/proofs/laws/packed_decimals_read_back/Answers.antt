use Rattle.binlog_decimal.specs.Lemmas.PackedDecimals.{packed_again, length-packed_bytes}
use Rattle.binlog_decimal.proofs.laws.packed_decimals_read_back.Goals as goal

pub returns-clause-again : goal.returns-clause-again
returns-clause-again c = packed_again

pub returns-clause-size : goal.returns-clause-size
returns-clause-size c = length-packed_bytes
