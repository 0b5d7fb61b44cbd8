use Rattle.std.proofs.Common.{◌≡◌, ◌++◌, drop}
use Rattle.std.specs.Option.{option_map}
use Rattle.table_schema.specs.Files.{parts_of}
use Rattle.table_schema.proofs.keys.parts_of.Given as goal

abbrev pub invariant-loop-line : goal.invariant-loop-line
invariant-loop-line l = option_map (λ ps. l.parts.items ++ ps) (parts_of l.columns (drop l.line-index l.index)) ≡ parts_of l.columns l.index
