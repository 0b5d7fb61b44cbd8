use Rattle.std.proofs.Common.{◌≡◌, ◌≤◌, ◌-◌, length, take}
use Rattle.std.specs.Io.KnownBytes.{Consumes}
use Rattle.binlog_file.proofs.reader.fill_front.Given as goal

abbrev pub invariant-loop-len : goal.invariant-loop-len
invariant-loop-len g l = record {
  most : l.len ≤ l.n;
  within : l.len ≤ length l.buffer.items;
  taken : Consumes (g.S.Source.remaining l.initial.source) (g.S.Source.remaining l.source) (take l.len l.buffer.items);
  counts : g.S.Source.failures l.source ≡ g.S.Source.failures l.initial.source;
}

abbrev pub decreases-loop-len : goal.decreases-loop-len
decreases-loop-len g l = l.n - l.len
