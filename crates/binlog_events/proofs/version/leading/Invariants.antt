use Rattle.std.proofs.Common.{◌≡◌, ◌≤◌, length}
use Rattle.binlog_events.specs.Version.{leading}
use Rattle.binlog_events.proofs.version.leading.Given as goal

abbrev pub invariant-loop-number : goal.invariant-loop-number
invariant-loop-number l = record {
  same : leading l.number l.left ≡ leading 0 l.text;
  most : l.number ≤ 256;
}

abbrev pub decreases-loop-number : goal.decreases-loop-number
decreases-loop-number l = length l.left
