use Rattle.std.proofs.Common.{◌≡◌, ◌-◌, ◌++◌, map, take, drop}
use Rattle.binlog_decimal.proofs.decimal.mask.invert.Given as goal

abbrev pub invariant-loop-byte : goal.invariant-loop-byte
invariant-loop-byte l = l.bytes ≡ map (λ byte. 255 - byte) (take l.byte-index l.initial.bytes) ++ drop l.byte-index l.initial.bytes
