use Rattle.std.proofs.Common.{◌≡◌, ◌≤◌, ◌-◌, length, take}
use Rattle.std.specs.Io.KnownBytes.{Consumes}
use Rattle.binlog_base.proofs.below.io.transfers.read_exact.Given as goal

abbrev pub invariant-loop-at : goal.invariant-loop-at
invariant-loop-at g l = record {
  len : length l.buf ≡ length l.initial.buf;
  within : l.at ≤ length l.buf;
  bytes : Consumes (g.S.Source.remaining l.initial.source) (g.S.Source.remaining l.source) (take l.at l.buf);
  count : g.S.Source.failures l.source ≡ g.S.Source.failures l.initial.source;
}

abbrev pub decreases-loop-at : goal.decreases-loop-at
decreases-loop-at g l = length l.buf - l.at
