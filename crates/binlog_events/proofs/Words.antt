-- A word at the front of a text is in the text.
use Rattle.std.proofs.Common.{◌≡◌, ℕ, ◌<◌, true, nat_eq, List, [], ◌∷◌, length, refl, arith}
use Rattle.std.specs.List.{starts_with}
use Rattle.binlog_events.specs.Version.{occurs}

pub occurs_here : (word x : List ℕ) → starts_with nat_eq x word ≡ true → 0 < length x → occurs word x ≡ true
occurs_here word [] h some = absurd (omega arith)
occurs_here word (c ∷ x) h some = rw h refl
