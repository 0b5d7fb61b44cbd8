use Rattle.std.proofs.Common.{◌≡◌, drop}
use Rattle.std.specs.List.{list_all}
use Rattle.table_schema.specs.Files.{is_whole}
use Rattle.table_schema.proofs.keys.are_whole.Given as goal

abbrev pub invariant-loop-line : goal.invariant-loop-line
invariant-loop-line l = list_all (is_whole l.columns) (drop l.line-index l.index) ≡ list_all (is_whole l.columns) l.index
