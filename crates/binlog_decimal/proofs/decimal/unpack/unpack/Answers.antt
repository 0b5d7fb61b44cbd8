use Rattle.std.proofs.Common.{Ok, Err, ◌+◌, ◌<◌, length, arith}
use Rattle.std.proofs.lemmas.Result.{err_from_is_err_and}
use Rattle.binlog_decimal.proofs.DecimalBytes.{AreHalves, halves, unpacked, no_integer, no_fraction, packed_at}
use Rattle.binlog_decimal.proofs.decimal.unpack.unpack.Goals as goal

pub returns-in_err-unpack_integer-clause-decimal : goal.returns-in_err-unpack_integer-clause-decimal
returns-in_err-unpack_integer-clause-decimal c =
    let p = err_from_is_err_and c.from_residual.result c.from_residual.ensures.1 in
    let i = length c.args.before.now in
    let f = length c.args.after.now in
    let front = c.split_at.result.0.now in
    let back = c.split_at.result.1.now in
    let x = c.args.bytes.now in
    let e = c.in_err-unpack_integer.field-0.0 in
    let h : AreHalves i x front back c.is_negative-negative.result = halves i c.digits_size.result x c.unmask.new.written front back c.is_negative-negative.result c.is_negative-negative.ensures.below c.is_negative-negative.ensures.sign c.unmask.ensures c.digits_size.ensures.size c.split_at.ensures.front c.split_at.ensures.back in
    rw (p.1, p.2) (packed_at (Err e) i f x (omega (arith, c.requires.some)) c.requires.size (no_integer (Unit {0}) i f x front back c.unpack_integer.new.digits c.is_negative-negative.result e h c.in_err-unpack_integer.ensures))

pub returns-in_err-unpack_fraction-clause-decimal : goal.returns-in_err-unpack_fraction-clause-decimal
returns-in_err-unpack_fraction-clause-decimal c =
    let p = err_from_is_err_and c.from_residual-in_err-unpack_fraction.result c.from_residual-in_err-unpack_fraction.ensures.1 in
    let i = length c.args.before.now in
    let f = length c.args.after.now in
    let front = c.split_at.result.0.now in
    let back = c.split_at.result.1.now in
    let x = c.args.bytes.now in
    let e = c.in_err-unpack_fraction.field-0.0 in
    let h : AreHalves i x front back c.is_negative-negative.result = halves i c.digits_size.result x c.unmask.new.written front back c.is_negative-negative.result c.is_negative-negative.ensures.below c.is_negative-negative.ensures.sign c.unmask.ensures c.digits_size.ensures.size c.split_at.ensures.front c.split_at.ensures.back in
    rw (p.1, p.2) (packed_at (Err e) i f x (omega (arith, c.requires.some)) c.requires.size (no_fraction (Unit {0}) i f x front back c.unpack_fraction.new.digits c.is_negative-negative.result e h c.in_err-unpack_fraction.ensures))

pub returns-clause-decimal : goal.returns-clause-decimal
returns-clause-decimal c =
    let i = length c.args.before.now in
    let f = length c.args.after.now in
    let front = c.split_at.result.0.now in
    let back = c.split_at.result.1.now in
    let x = c.args.bytes.now in
    let h : AreHalves i x front back c.is_negative-negative.result = halves i c.digits_size.result x c.unmask.new.written front back c.is_negative-negative.result c.is_negative-negative.ensures.below c.is_negative-negative.ensures.sign c.unmask.ensures c.digits_size.ensures.size c.split_at.ensures.front c.split_at.ensures.back in
    let some : 0 < i + f = omega (arith, c.requires.some) in
    packed_at (Ok _) i f x some c.requires.size (unpacked i f x front back c.unpack_integer.new.digits c.unpack_fraction.new.digits c.is_negative-negative.result some h c.in_ok-unpack_integer.ensures c.in_ok-unpack_fraction.ensures)

pub returns-clause-below : goal.returns-clause-below
returns-clause-below c = (c.in_ok-unpack_integer.ensures.below, c.in_ok-unpack_fraction.ensures.below)
