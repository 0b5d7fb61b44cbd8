use Rattle.std.proofs.Common.{◌≡◌, drop, is_some}
use Rattle.table_schema.specs.Values.{values_from, values_of}
use Rattle.table_schema.proofs.values.are_values.Given as goal

abbrev pub invariant-loop-byte : goal.invariant-loop-byte
invariant-loop-byte l = is_some (values_from l.place (drop l.byte-index l.text)) ≡ is_some (values_of l.text)
