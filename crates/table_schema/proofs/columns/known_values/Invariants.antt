use Rattle.std.proofs.Common.{◌≡◌, take, map}
use Rattle.table_schema.specs.Lines.{known_value}
use Rattle.table_schema.proofs.columns.known_values.Given as goal

abbrev pub invariant-loop-name : goal.invariant-loop-name
invariant-loop-name l = map (λ v. v.items) l.known.items ≡ map (known_value l.loses) (map (λ v. v.items) (take l.name-index l.names))
