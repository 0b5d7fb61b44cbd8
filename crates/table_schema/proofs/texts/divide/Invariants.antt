use Rattle.std.proofs.Common.{◌≡◌, ◌++◌, map, length}
use Rattle.table_schema.specs.Texts.{pieces}
use Rattle.table_schema.proofs.texts.divide.Given as goal

abbrev pub invariant-loop-field : goal.invariant-loop-field
invariant-loop-field l = map (λ f. f.now) l.fields.items ++ pieces 9 l.left ≡ pieces 9 l.line

abbrev pub decreases-loop-field : goal.decreases-loop-field
decreases-loop-field l = length l.left
