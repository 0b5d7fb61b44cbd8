use Rattle.std.proofs.Common.{rules, ◌^◌, pos, SFits}
use Rattle.std.specs.Int.{w64}
use Rattle.std.proofs.lemmas.Int.{wrapping_mul_is}
use Rattle.binlog_base.proofs.misc.packed.my_packed_time_make_int.Goals as goal

pub returns : goal.returns
returns c =
    let small : SFits w64 (pos (2 ^ 24)) = search rules in
    wrapping_mul_is w64 c.args.i (pos (2 ^ 24)) c.ranges.i small
