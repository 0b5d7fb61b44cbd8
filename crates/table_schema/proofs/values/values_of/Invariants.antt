use Rattle.std.proofs.Common.{◌≡◌, ◌++◌, drop, map}
use Rattle.std.specs.Option.{option_map}
use Rattle.table_schema.specs.Values.{values_from, values_of, onto_names}
use Rattle.table_schema.proofs.values.values_of.Given as goal

abbrev pub invariant-loop-byte : goal.invariant-loop-byte
invariant-loop-byte l = option_map (λ ns. map (λ n. n.items) l.names.items ++ onto_names l.name.items ns) (values_from l.place (drop l.byte-index l.text)) ≡ values_of l.text
