use Rattle.std.proofs.Common.{◌≡◌, ℕ, List, Option}
use Rattle.std.specs.Io.KnownBytes.{Appends}
use Rattle.binlog_decimal.specs.Workings.DecimalPacking.{groups_left}
use Rattle.binlog_decimal.proofs.decimal.Decimal.write_bin.Given as goal

-- bytes that are appended for the groups that are left complete those of the whole
abbrev pub invariant-loop-group : goal.invariant-loop-group
invariant-loop-group g l = record {
  count : g.S.Sink.failures l.writer ≡ g.S.Sink.failures l.initial.writer;
  rest : (new : Option (List ℕ)) → Appends (g.S.Sink.contents l.writer) new (groups_left l.group-iterator)
      → Appends (g.S.Sink.contents l.initial.writer) new (groups_left l.initial.group-iterator);
}
