use Rattle.std.proofs.Common.{sym, ◌∙◌}
use Rattle.binlog_decimal.proofs.DecimalPutting.{zero_text}
use Rattle.binlog_decimal.proofs.LentDecimals.{first_set}
use Rattle.binlog_decimal.proofs.decimal.packed.zero_text_in.Goals as goal

pub returns : goal.returns
returns c = first_set c.args.room.now 48 c.told-room ∙ sym zero_text
