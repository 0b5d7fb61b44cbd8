-- Where a reading of changes is.
use Rattle.std.specs.Prelude.{◌≡◌, ℕ, Bool, true, false, List, [], ◌∷◌, Option, Result}
use Rattle.binlog_events.specs.declared.error.FileError.{FileError}
use Rattle.binlog_file.specs.declared.lent_changes.LentEvent.{LentEvent}
use Rattle.binlog_file.specs.Changes.{Wanted, Spot}
use Rattle.binlog_file.specs.Stream.{Reading, IsOutside}
use Rattle.binlog_file.specs.LentEvents.{PassesOver, NextEvent}
use Rattle.binlog_file.specs.SourceChanges.{Finds, spot_at}

-- The types of the events that are looked at beside rows events: those after which another GTID may be in
-- force, and those that say something of changes or which file follows.
abbrev pub seen_types : List ℕ
seen_types = 0xA2 ∷ 0x21 ∷ 0x02 ∷ 0x0F ∷ 0x12 ∷ 0x22 ∷ 0x2A ∷ 0xA5 ∷ 0x26 ∷ 0x1A ∷ 0x04 ∷ []

-- no event is passed over where each is looked at
abbrev pub Passes : Bool → Spot → Spot → Type 0
Passes true old at = at ≡ old
Passes false old at = (n : ℕ) × PassesOver seen_types n old at

-- whatever bytes the old reading finds, this is the next of their events that is looked at, or the error
abbrev pub SourceNext : Wanted → Bool → Option (List ℕ) → Reading → Option FileError → Option (Result LentEvent FileError) → Option (List ℕ) → Reading → Option FileError → Type 0
SourceNext wanted is_each old r p item new s q =
    (x : List ℕ) → Finds r old x
    → (z : List ℕ) × Finds s new z × (at : Spot) × Passes is_each (spot_at r.kept p x) at × NextEvent IsOutside wanted at item (spot_at s.kept q z)
