use Rattle.std.proofs.Common.{replicate, ◌≡◌, ◌++◌}
use Rattle.binlog_base.proofs.below.raw.skip.SkipMySerialize.serialize.Given as goal

abbrev pub invariant-loop : goal.invariant-loop
invariant-loop g l = l.buf.items ≡ l.initial.buf.items ++ replicate l.counter 0
