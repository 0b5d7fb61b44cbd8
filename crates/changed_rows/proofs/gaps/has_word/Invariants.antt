use Rattle.std.proofs.Common.{◌≡◌, ℕ, length}
use Rattle.changed_rows.specs.Gaps.{has_word}
use Rattle.changed_rows.proofs.gaps.has_word.Given as goal

abbrev pub invariant-loop-first : goal.invariant-loop-first
invariant-loop-first l = has_word l.is_in_word l.rest l.fn.word ≡ has_word l.fn.is_in_word l.fn.text l.fn.word

abbrev pub decreases-loop-first : goal.decreases-loop-first
decreases-loop-first l = length l.rest
