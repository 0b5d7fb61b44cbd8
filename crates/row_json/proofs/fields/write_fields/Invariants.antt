use Rattle.std.proofs.Common.{take}
use Rattle.std.specs.List.{flat_map}
use Rattle.row_json.specs.Fields.{fields_json}
use Rattle.row_json.specs.Wrote.{Adds, named_tokens}
use Rattle.row_json.proofs.fields.write_fields.Given as goal

abbrev pub invariant-loop-name : goal.invariant-loop-name
invariant-loop-name l = Adds l.initial.out l.out (flat_map named_tokens (fields_json (take l.name-index l.fields)))
