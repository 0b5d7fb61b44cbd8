-- The dates and times of packed numbers, as MySQL's `MYSQL_TIME`.
use Rattle.std.specs.Prelude.{ℤ, pos}
use Rattle.binlog_base.specs.PackedTimes.{time_fields, datetime_fields}
use Rattle.binlog_decimal.specs.declared.time.MysqlTime.{MysqlTime}
use Rattle.binlog_decimal.specs.declared.time.MysqlTimestampType.{MysqlTimestampType}
use Rattle.binlog_decimal.specs.declared.time.MysqlTimestampType.TheVariants.{MYSQL_TIMESTAMP_DATE, MYSQL_TIMESTAMP_DATETIME, MYSQL_TIMESTAMP_TIME}

-- the time of a packed TIME number, whose hours aren't split into days
abbrev pub time_of : ℤ → MysqlTime
time_of z = let t = time_fields z in record {
  year = 0;
  month = 0;
  day = 0;
  hour = t.hour;
  minute = t.minute;
  second = t.second;
  second_part = t.microsecond;
  neg = t.is_negative;
  time_type = MYSQL_TIMESTAMP_TIME;
  time_zone_displacement = pos 0;
}

-- the date and time of day of a packed DATETIME number, as a date or as a date and time
abbrev pub dated : MysqlTimestampType → ℤ → MysqlTime
dated time_type z = let d = datetime_fields z in record {
  year = d.year;
  month = d.month;
  day = d.day;
  hour = d.hour;
  minute = d.minute;
  second = d.second;
  second_part = d.microsecond;
  neg = d.is_negative;
  time_type = time_type;
  time_zone_displacement = pos 0;
}

-- the date and time of a packed DATETIME number
abbrev pub datetime_of : ℤ → MysqlTime
datetime_of = dated MYSQL_TIMESTAMP_DATETIME

-- the date of a packed DATETIME number
abbrev pub date_of : ℤ → MysqlTime
date_of = dated MYSQL_TIMESTAMP_DATE
