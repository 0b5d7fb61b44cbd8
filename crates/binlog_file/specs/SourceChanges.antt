-- Reading the changes of a file from a source, one at a time.
use Rattle.std.specs.Prelude.{◌≡◌, ℕ, IfSome, ◌+◌, ◌-◌, ◌*◌, ◌^◌, ◌<◌, Bool, true, false, if◌then◌else◌, List, [], length, Result, Ok, Err, Option, Some, None}
use Rattle.binlog_events.specs.declared.error.FileError.{FileError}
use Rattle.binlog_file.specs.Events.{Event, event, Place}
use Rattle.std.specs.Io.KnownBytes.{Consumes}
use Rattle.binlog_base.specs.Sources.{IsLeft}
use Rattle.binlog_file.specs.Stream.{Kept, Reading, IsOutside, HasBytes, lost_after, kept_after, count_after, CountsItem}
use Rattle.binlog_file.specs.declared.lent_changes.LentEvent.{LentEvent}
use Rattle.binlog_file.specs.LentEvents.{NextEvent, PassesOver, NextAsked}
use Rattle.binlog_file.specs.Changes.{Wanted, Change, Spot, spot, TakeGives, ChangeGives, count, LessensTo}

-- The bytes that a reading finds: none at its end; else those of its source, where they are known, if the
-- last of them has a position below 2^64.
abbrev pub Found : Bool → ℕ → Option (List ℕ) → List ℕ → Type 0
Found true at remaining x = x ≡ []
Found false at remaining x = (remaining ≡ Some x) × (at + length x < 2 ^ 64)

abbrev pub Finds : Reading → Option (List ℕ) → List ℕ → Type 0
Finds r remaining x = Found r.is_over r.kept.at remaining x

-- where a reading is that finds these bytes
abbrev pub place_at : Kept → List ℕ → Place
place_at k x = record { left = x; at = k.at; in_force = k.description }

abbrev pub spot_at : Kept → Option FileError → List ℕ → Spot
spot_at k pending x = spot (place_at k x) k.in_force pending

-- whatever bytes the old reading finds, what is left at the new one is what was left, or follows a change
abbrev pub SourceTakes : Wanted → Option (List ℕ) → Reading → Option FileError → Option Change → Option (List ℕ) → Reading → Option FileError → Type 0
SourceTakes wanted old r p c new s q = (x : List ℕ) → Finds r old x → (z : List ℕ) × Finds s new z × TakeGives IsOutside wanted (spot_at r.kept p x) c (spot_at s.kept q z)

-- whatever bytes the old reading finds, this is their next change, or the error that follows
abbrev pub SourceGives : Wanted → Option (List ℕ) → Reading → Option FileError → Option (Result Change FileError) → Option (List ℕ) → Reading → Option FileError → Type 0
SourceGives wanted old r p item new s q = (x : List ℕ) → Finds r old x → (z : List ℕ) × Finds s new z × ChangeGives IsOutside wanted (spot_at r.kept p x) item (spot_at s.kept q z)

-- how many positions are left, of which each event takes some
abbrev pub turns : Reading → ℕ
turns r = if r.is_over then 0 else 2 ^ 64 - r.kept.at

-- more items than are left
abbrev pub items_left : Reading → Option FileError → ℕ
items_left r pending = 2 * turns r + count pending

pub record SourceSteps (wanted : Wanted) (old : Option (List ℕ)) (r : Reading) (p : Option FileError) (item : Option (Result Change FileError)) (new : Option (List ℕ)) (s : Reading) (q : Option FileError) : Type 0 where
  pub gives : SourceGives wanted old r p item new s q
  pub lessens : LessensTo (items_left r p) item (items_left s q)

-- ---- counting the failures of the source

-- no failure of the source waits to be told: an error that is pending is that of an event whose bytes were
-- there
abbrev pub AreTold : Option FileError → Type 0
AreTold pending = IfSome pending (λ e. HasBytes e.error)

-- An item that is Reader adds one to the source's count of failures, and any other item, or none, leaves
-- the count as it is. So each failure is told by the call that it comes in.
abbrev pub CountsNext : {X : Type 0} → Option FileError → Option (Result X FileError) → Option FileError → ℕ → ℕ → Type 0
CountsNext p item q old new = AreTold p → CountsItem item old new × AreTold q

-- the same where the error is kept as pending
abbrev pub CountsPending : Option FileError → ℕ → ℕ → Type 0
CountsPending None old new = new ≡ old
CountsPending (Some e) old new = new ≡ count_after e.error old

-- ---- what a reading keeps, and its checkpoint

-- Events that were left at the old source were read, one after the other, and the rest is left at the new one.
-- What was kept before them and what is kept after them.
pub data ReadsOn (old : Option (List ℕ)) (k : Kept) : Option (List ℕ) → Kept → Type 0 where
  here : ReadsOn old k old k
  past : (mid new : Option (List ℕ)) (l : Kept) (y : List ℕ) (e : Event) → ReadsOn old k mid l → (event l.at l.description).spells y e → Consumes mid new y → ReadsOn old k new (kept_after l y e)

-- A reading keeps what its reader keeps after the events that were read: with an item those up to its own;
-- without one all that were left, unless it was at its end before, or is at the greatest position; and with an
-- error that doesn't lose it those before the error.
abbrev pub KeepsOn : {X : Type 0} → Option (List ℕ) → Reading → Option (Result X FileError) → Option (List ℕ) → Reading → Type 0
KeepsOn old r (Some (Ok _)) new s = ReadsOn old r.kept new s.kept
KeepsOn old r (Some (Err _)) new s = s.is_lost ≡ false → (mid : Option (List ℕ)) × ReadsOn old r.kept mid s.kept
KeepsOn old r None new s = (mid : Option (List ℕ)) × ReadsOn old r.kept mid s.kept × (r.is_over ≡ false → s.kept.at < 2 ^ 64 - 1 → IsLeft mid [])

-- whether the reading is lost: by an error that it gives, if bytes aren't lacking, and by one that is pending
abbrev pub lost_by : {X : Type 0} → Option FileError → Bool → Option (Result X FileError) → Option FileError → Bool
lost_by (Some _) lost item q = lost
lost_by None lost (Some item) None = lost_after lost item
lost_by None lost None None = lost
lost_by None lost item (Some _) = true

-- ---- events whose pairs of rows are lent

-- whatever bytes the old reading finds, this is their next event, or the error in place of it
abbrev pub SourceEvent : Wanted → Option (List ℕ) → Reading → Option FileError → Option (Result LentEvent FileError) → Option (List ℕ) → Reading → Option FileError → Type 0
SourceEvent wanted old r p item new s q = (x : List ℕ) → Finds r old x → (z : List ℕ) × Finds s new z × NextEvent IsOutside wanted (spot_at r.kept p x) item (spot_at s.kept q z)

-- whatever bytes the old reading finds, the new one is past the events at their start that aren't asked for
abbrev pub SourcePasses : List ℕ → Option (List ℕ) → Reading → Option FileError → Option (List ℕ) → Reading → Option FileError → Type 0
SourcePasses types old r p new s q = (x : List ℕ) → Finds r old x → (z : List ℕ) × Finds s new z × (n : ℕ) × PassesOver types n (spot_at r.kept p x) (spot_at s.kept q z)

-- whatever bytes the old reading finds, this is the next of their events that is asked for, or the error
abbrev pub SourceAsked : Wanted → List ℕ → Option (List ℕ) → Reading → Option FileError → Option (Result LentEvent FileError) → Option (List ℕ) → Reading → Option FileError → Type 0
SourceAsked wanted types old r p item new s q = (x : List ℕ) → Finds r old x → (z : List ℕ) × Finds s new z × NextAsked IsOutside wanted types (spot_at r.kept p x) item (spot_at s.kept q z)
