use Rattle.std.proofs.Common.{◌≡◌, length}
use Rattle.table_schema.specs.Types.{has_unsigned}
use Rattle.table_schema.proofs.types.has_unsigned.Given as goal

abbrev pub invariant-loop-word : goal.invariant-loop-word
invariant-loop-word l = has_unsigned l.left ≡ has_unsigned l.text

abbrev pub decreases-loop-word : goal.decreases-loop-word
decreases-loop-word l = length l.left
