use Rattle.binlog_decimal.proofs.DecimalPrinting.{printed_again}
use Rattle.binlog_decimal.proofs.laws.printed_decimals_read_back.Goals as goal

pub returns : goal.returns
returns c = printed_again
