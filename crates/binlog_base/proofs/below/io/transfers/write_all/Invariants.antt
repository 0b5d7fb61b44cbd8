use Rattle.std.proofs.Common.{◌≡◌, ◌++◌, List, ℕ, length}
use Rattle.std.specs.Io.KnownBytes.{Appends}
use Rattle.binlog_base.proofs.below.io.transfers.write_all.Given as goal

abbrev pub invariant-loop-left : goal.invariant-loop-left
invariant-loop-left g l = record {
  count : g.S.Sink.failures l.sink ≡ g.S.Sink.failures l.initial.sink;
  bytes : (taken : List ℕ) × (taken ++ l.left ≡ l.initial.left) × Appends (g.S.Sink.contents l.initial.sink) (g.S.Sink.contents l.sink) taken;
}

abbrev pub decreases-loop-left : goal.decreases-loop-left
decreases-loop-left g l = length l.left
