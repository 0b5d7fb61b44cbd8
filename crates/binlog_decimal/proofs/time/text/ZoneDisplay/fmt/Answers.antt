use Rattle.std.proofs.Common.{◌/◌, ◌%◌, arith, rules}
use Rattle.std.proofs.Output.{has_written_of_eq}
use Rattle.binlog_decimal.proofs.TimeTexts.{short_hours}
use Rattle.binlog_decimal.proofs.time.text.ZoneDisplay.fmt.Goals as goal

pub returns-clause-writes : goal.returns-clause-writes
returns-clause-writes g c = λ plain ok.
    has_written_of_eq _ _ _ _ _ (rw (short_hours (c.unsigned_abs.result / 60 % 60) (omega arith)) (search rules)) (c.write.ensures.writes plain ok)
