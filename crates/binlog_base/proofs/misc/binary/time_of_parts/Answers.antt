use Rattle.std.proofs.Common.{arith}
use Rattle.std.proofs.lemmas.Int.{ints}
use Rattle.binlog_base.proofs.Fractions.{time2_sum_below}
use Rattle.binlog_base.proofs.misc.binary.time_of_parts.Goals as goal

pub returns-then-part-gt0 : goal.returns-then-part-gt0
returns-then-part-gt0 c =
    rw (time2_sum_below c.args.width c.args.whole c.args.part (omega arith) (omega arith))
    (omega (arith, ints, c.my_packed_time_make.ensures, c.microseconds_of-microseconds.ensures.value, c.fraction_modulus.ensures.value))
