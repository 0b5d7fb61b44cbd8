-- What a step of a reading keeps.
use Rattle.std.specs.Prelude.{◌≡◌, ℕ, true, false, List, [], Option, Some, None, Ok, Err}
use Rattle.binlog_base.specs.Sources.{IsLeft}
use Rattle.binlog_events.specs.declared.error.FileError.{FileError}
use Rattle.binlog_file.specs.Changes.{Change}
use Rattle.binlog_file.specs.Stream.{Kept, Reading, lost_after}
use Rattle.binlog_file.specs.SourceChanges.{ReadsOn, lost_by}

-- events up to some place of the source were read
abbrev pub ReadsSome : Option (List ℕ) → Kept → Kept → Type 0
ReadsSome old k l = (mid : Option (List ℕ)) × ReadsOn old k mid l

-- events up to the end of the source were read, unless the reading was at its end before
abbrev pub ReadsAll : Option (List ℕ) → Reading → Kept → Type 0
ReadsAll old r l = (mid : Option (List ℕ)) × ReadsOn old r.kept mid l × (r.is_over ≡ false → IsLeft mid [])

-- A reading that no error ended keeps what its reader keeps after the events that were read: with a change
-- those up to its own; before an error that is pending those before it, unless it loses the reading; else
-- those so far, or all if it is at its end.
abbrev pub KeepsTo : Option (List ℕ) → Reading → Option Change → Option (List ℕ) → Reading → Option FileError → Type 0
KeepsTo old r (Some c) new s q = ReadsOn old r.kept new s.kept × (s.is_lost ≡ lost_by None r.is_lost (Some (Ok c)) q)
KeepsTo old r None new s (Some e) = (s.is_lost ≡ lost_after {A = Change} r.is_lost (Err e)) × (s.is_lost ≡ false → ReadsSome old r.kept s.kept)
KeepsTo old r None new s None = (s.is_lost ≡ r.is_lost) × (s.is_over ≡ false → ReadsOn old r.kept new s.kept) × (s.is_over ≡ true → ReadsAll old r s.kept)

-- the same of steps that gave no change, from a reading on; one that an error ended before stays as it is
abbrev pub KeptSoFar : Option FileError → Option (List ℕ) → Reading → Option (List ℕ) → Reading → Option FileError → Type 0
KeptSoFar None old r new s q = KeepsTo old r None new s q
KeptSoFar (Some e) old r new s q = (s ≡ r) × (q ≡ Some e)
