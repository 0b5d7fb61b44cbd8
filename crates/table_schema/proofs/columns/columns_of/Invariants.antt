use Rattle.std.proofs.Common.{◌≡◌, ◌++◌, length}
use Rattle.table_schema.specs.Texts.{pieces}
use Rattle.table_schema.specs.Search.{target_of, lines_while, column_taken}
use Rattle.table_schema.proofs.columns.columns_of.Given as goal

abbrev pub invariant-loop-line : goal.invariant-loop-line
invariant-loop-line l =
    l.columns.items ++ lines_while column_taken (target_of l.target) (pieces 10 l.left) ≡ lines_while column_taken (target_of l.target) (pieces 10 l.text)

abbrev pub decreases-loop-line : goal.decreases-loop-line
decreases-loop-line l = length l.left
