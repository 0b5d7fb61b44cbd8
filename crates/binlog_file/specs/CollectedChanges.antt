-- The changes of a reading, collected from pairs of rows that are lent. It is a module of its own because
-- LentEvent is a type of the code.
use Rattle.std.specs.Prelude.{◌≡◌, ◌⊎◌, List, [], ◌∷◌, Option, Some, None, Result, Ok, Err}
use Rattle.mysql_binlog_rows.specs.Images.{Pair}
use Rattle.binlog_events.specs.declared.error.EventError.{EventError}
use Rattle.binlog_events.specs.declared.error.FileError.{FileError}
use Rattle.binlog_file.specs.declared.lent_changes.LentEvent.{LentEvent}
use Rattle.binlog_file.specs.declared.lent_changes.LentEvent.TheVariants as lent
use Rattle.binlog_file.specs.Changes.{Wanted, Change, Spot, Left}
use Rattle.binlog_file.specs.LentChanges.{LentChange, PairGives, change_with}

-- the item with which a reading ends: none, or its error
abbrev pub last_item : {A : Type 0} → Option FileError → Option (Result A FileError)
last_item None = None
last_item (Some e) = Some (Err e)

-- the pairs of an event, one call after the other, up to the last item
abbrev pub GivesPairs : LentChange → List Pair → Option FileError → Type 0
GivesPairs old [] end = (p : Pair) × (new : LentChange) × PairGives old p (last_item end) new
GivesPairs old (p ∷ ps) end = (new : LentChange) × PairGives old p (Some (Ok tt)) new × GivesPairs new ps end

-- what one call for the next event gives, from a spot to another
abbrev pub Calls : Type 1
Calls = Spot → Option (Result LentEvent FileError) → Spot → Type 0

-- after the pairs of an event more is collected; after a pair that can't be read nothing more, and its error
-- is the last item
abbrev pub AfterPairs : Option FileError → Type 0 → List LentEvent → List Change → Option FileError → Type 0
AfterPairs None More events more out = More
AfterPairs (Some e) More events more out = (events ≡ []) × (more ≡ []) × (out ≡ Some e)

-- These events come from a spot on, one call after the other, up to the last item. Of each rows event all
-- pairs are asked for, and the changes are these events with their pairs.
abbrev pub Collects : Calls → Spot → List LentEvent → List Change → Option FileError → Type 0
Collects Next old [] changes out = (new : Spot) × Next old (last_item out) new × (changes ≡ [])
Collects Next old (lent.Other o ∷ events) changes out = (new : Spot) × Next old (Some (Ok (lent.Other o))) new × Collects Next new events changes out
Collects Next old (lent.Rows c ∷ events) changes out =
    (new : Spot) × Next old (Some (Ok (lent.Rows c))) new
    × (ps : List Pair) × (end : Option FileError) × GivesPairs c ps end
    × (more : List Change) × (changes ≡ change_with c ps ∷ more)
    × AfterPairs end (Collects Next new events more out) events more out

-- the error isn't the bytes'
abbrev pub IsEndedBy : (EventError → Type 0) → Option FileError → Type 0
IsEndedBy IsOther None = ⊥
IsEndedBy IsOther (Some e) = IsOther e.error

-- What is collected from a spot on is what is left there: the changes that own their pairs, and the error
-- that follows them; unless an error that isn't the bytes' ends it.
abbrev pub CollectsAll : (EventError → Type 0) → Wanted → Calls → Type 0
CollectsAll IsOther wanted Next = (from : Spot) (events : List LentEvent) (changes : List Change) (out : Option FileError) → Collects Next from events changes out → IsEndedBy IsOther out ⊎ Left wanted from changes out
