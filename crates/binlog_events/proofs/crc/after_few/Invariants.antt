use Rattle.std.proofs.Common.{◌≡◌, drop}
use Rattle.binlog_events.specs.Crc32.{after_bytes}
use Rattle.binlog_events.proofs.crc.after_few.Given as goal

abbrev pub invariant-loop-byte : goal.invariant-loop-byte
invariant-loop-byte l = after_bytes l.remainder (drop l.byte-index l.bytes) ≡ after_bytes l.start l.bytes
