use Rattle.std.proofs.Common.{◌≡◌, length}
use Rattle.table_schema.specs.Lines.{has_word}
use Rattle.table_schema.proofs.columns.has_word.Given as goal

abbrev pub invariant-loop-first : goal.invariant-loop-first
invariant-loop-first l = has_word l.word l.left ≡ has_word l.word l.text

abbrev pub decreases-loop-first : goal.decreases-loop-first
decreases-loop-first l = length l.left
