use Rattle.std.proofs.Common.{arith}
use Rattle.binlog_decimal.proofs.decimal.Decimal.of_bytes.Goals as goal

pub invariant_of-decimal : goal.invariant_of-decimal
invariant_of-decimal c =
    let below = c.in_ok-negative.ensures.below in
    (below.0, below.1, omega (arith, c.unpack.auto.before, c.unpack.auto.after, c.split_at_mut-integer.ensures.front_len, c.split_at_mut-integer.ensures.back_len, c.requires.some, c.requires.scale))

pub invariant_of-decimal-else-keep_prec : goal.invariant_of-decimal-else-keep_prec
invariant_of-decimal-else-keep_prec c =
    let below = c.in_ok-negative.ensures.below in
    (below.0, below.1, omega (arith, c.unpack.auto.before, c.unpack.auto.after, c.split_at_mut-integer.ensures.front_len, c.split_at_mut-integer.ensures.back_len, c.requires.some, c.requires.scale))
