use Rattle.std.proofs.Common.{◌≡◌, ◌++◌, ◌+◌, ◌*◌, ◌≤◌, drop}
use Rattle.table_schema.specs.Completed.{packed, packed_from}
use Rattle.table_schema.proofs.fields.push_bits.Given as goal

abbrev pub invariant-loop-bit : goal.invariant-loop-bit
invariant-loop-bit l =
    (l.out.items ++ packed_from l.place l.byte (drop l.bit-index l.bits) ≡ l.initial.out.items ++ packed l.bits)
    × (l.byte + 2 * l.place ≤ 256)
    × (1 ≤ l.place)
