use Rattle.std.proofs.Common.{refl}
use Rattle.binlog_decimal.proofs.TimeTexts.{long_is_some}
use Rattle.binlog_decimal.proofs.time.text.TimeTextDisplay.fmt.Goals as goal

pub returns-in_default-clause-empty : goal.returns-in_default-clause-empty
returns-in_default-clause-empty g c = λ empty.
    absurd (long_is_some c.args.self.now.decimals c.args.self.now.time.now c.args.self.now.time.now.time_type refl c.in_default.ensures.long empty)
