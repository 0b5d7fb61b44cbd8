-- The parts of dates and times, as they are read.
use Rattle.std.specs.Prelude.{ℕ, Bool}
use Rattle.binlog_base.specs.Values.{PlainValue, Date, Time}

-- the date with these parts, from the year down to the microseconds
abbrev pub date_of : ℕ × ℕ × ℕ × ℕ × ℕ × ℕ × ℕ → PlainValue
date_of d = Date d.0 d.1 d.2 d.3 d.4 d.5 d.6

-- the time with these parts: whether it is negative, and from the days down to the microseconds
abbrev pub time_of : Bool × ℕ × ℕ × ℕ × ℕ × ℕ → PlainValue
time_of t = Time t.0 t.1 t.2 t.3 t.4 t.5
