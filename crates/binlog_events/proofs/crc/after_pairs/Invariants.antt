use Rattle.std.proofs.Common.{◌≡◌, ◌%◌, length}
use Rattle.binlog_events.specs.Crc32.{after_bytes}
use Rattle.binlog_events.proofs.crc.after_pairs.Given as goal

abbrev pub invariant-loop-left : goal.invariant-loop-left
invariant-loop-left l = record { same : after_bytes l.remainder l.left ≡ after_bytes l.start l.bytes; whole : length l.left % 8 ≡ 0 }

abbrev pub decreases-loop-left : goal.decreases-loop-left
decreases-loop-left l = length l.left
