use Rattle.std.proofs.Common.{◌≡◌, length}
use Rattle.binlog_events.specs.Version.{occurs}
use Rattle.binlog_events.proofs.version.occurs.Given as goal

abbrev pub invariant-loop-left : goal.invariant-loop-left
invariant-loop-left l = occurs l.word l.left ≡ occurs l.word l.text

abbrev pub decreases-loop-left : goal.decreases-loop-left
decreases-loop-left l = length l.left
