use Rattle.binlog_decimal.proofs.TimeTexts.{is_date, is_datetime, is_time}
use Rattle.binlog_decimal.proofs.time.text.extent.Goals as goal

pub returns-in-MYSQL_TIMESTAMP_DATE-clause-text : goal.returns-in-MYSQL_TIMESTAMP_DATE-clause-text
returns-in-MYSQL_TIMESTAMP_DATE-clause-text c = is_date c.args.decimals c.args.time.now c.in-MYSQL_TIMESTAMP_DATE.is

pub returns-in-MYSQL_TIMESTAMP_DATETIME-clause-text : goal.returns-in-MYSQL_TIMESTAMP_DATETIME-clause-text
returns-in-MYSQL_TIMESTAMP_DATETIME-clause-text c = is_datetime c.args.decimals c.args.time.now c.fraction_len-end.result c.in-MYSQL_TIMESTAMP_DATETIME.is c.fraction_len-end.ensures.len

pub returns-else-time-ge100-clause-text : goal.returns-else-time-ge100-clause-text
returns-else-time-ge100-clause-text c =
    is_time c.args.decimals c.args.time.now c.from.result c.fraction_len-end.result c.in-MYSQL_TIMESTAMP_TIME.is c.if-time-ge100.false c.from.ensures c.fraction_len-end.ensures.len
