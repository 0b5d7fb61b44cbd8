use Rattle.std.proofs.Common.{sym}
use Rattle.binlog_decimal.proofs.TimeTexts.{short_pair}
use Rattle.binlog_decimal.proofs.time.text.two_digits.Goals as goal

pub returns-then-number-lt100 : goal.returns-then-number-lt100
returns-then-number-lt100 c = sym (short_pair c.args.number c.if-number-lt100.true)
