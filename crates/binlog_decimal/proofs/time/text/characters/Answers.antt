use Rattle.std.proofs.Common.{subst, sym}
use Rattle.std.specs.Str.{IsAscii}
use Rattle.binlog_decimal.proofs.TimeTexts.{joined, IsAscii-characters}
use Rattle.binlog_decimal.proofs.time.text.characters.Goals as goal

pub returns : goal.returns
returns c =
    let all = joined c.args.time.now c.two_digits-century.result c.two_digits-year.result c.two_digits-month.result c.two_digits-day.result c.before_hour.result c.two_digits-hour.result c.two_digits-minute.result c.two_digits-second.result c.six_digits-fraction.result
    c.two_digits-century.ensures c.two_digits-year.ensures c.two_digits-month.ensures c.two_digits-day.ensures c.before_hour.ensures c.two_digits-hour.ensures c.two_digits-minute.ensures c.two_digits-second.ensures c.six_digits-fraction.ensures in
    record { all = all; ascii = subst IsAscii (sym all) (IsAscii-characters c.args.time.now) }
