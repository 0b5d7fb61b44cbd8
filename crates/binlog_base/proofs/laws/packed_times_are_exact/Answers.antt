use Rattle.binlog_base.specs.Lemmas.PackedTimes.{exact_time2, exact_datetime2, exact_timestamp2}
use Rattle.binlog_base.proofs.laws.packed_times_are_exact.Goals as goal

pub returns-clause-time2 : goal.returns-clause-time2
returns-clause-time2 c = exact_time2

pub returns-clause-datetime2 : goal.returns-clause-datetime2
returns-clause-datetime2 c = exact_datetime2

pub returns-clause-timestamp2 : goal.returns-clause-timestamp2
returns-clause-timestamp2 c = exact_timestamp2
