-- Checkpoints: bytes from which a reading goes on.
use Rattle.std.specs.Prelude.{◌≡◌, ◌≢◌, ◌⊎◌, ℕ, Bool, true, false, is_some, is_none, if◌then◌else◌, List, [], ◌∷◌, ◌++◌, map, Option, Some, None}
use Rattle.std.specs.Option.{option_map}
use Rattle.binlog_events.specs.declared.error.EventError.{EventError}
use Rattle.binlog_events.specs.declared.error.EventError.TheVariants as error
use Rattle.binlog_events.specs.declared.error.FileError.{FileError}
use Rattle.binlog_file.specs.Description.{Description}
use Rattle.binlog_file.specs.Events.{Event, event, after, AreEvents, AreEventsOfFile, magic, is_binlog}
use Rattle.binlog_file.specs.Tables.{InForce, nothing_in_force, in_force_after, in_force_after_all}
use Rattle.binlog_file.specs.Stream.{Kept, Reading, first_kept, kept_after}

-- the magic, the format description event, the last GTID event, and the table map events that the next
-- event finds, as they were read
abbrev pub checkpoint_of : Kept → List ℕ
checkpoint_of k = magic ++ k.stored.description ++ k.stored.gtid ++ (if k.in_force.ended then [] else k.stored.tables)

-- a reader has a checkpoint unless it was lost
abbrev pub checkpoint : Reading → Option (List ℕ)
checkpoint r = if r.is_lost then None else Some (checkpoint_of r.kept)

-- what a reader keeps after events that were read from the start
pub data Reached : Kept → Type 0 where
  start : Reached first_kept
  next : (k : Kept) (y : List ℕ) (e : Event) → Reached k → (event k.at k.description).spells y e → Reached (kept_after k y e)

-- the description in force after some events
abbrev pub after_all : Option Description → List Event → Option Description
after_all d [] = d
after_all d (e ∷ es) = after_all (after d e) es

-- These bytes are those of a file with events and no error. After them this description is in force, and
-- from the next event on the same tables as after this state.
pub record LeadsTo (c : List ℕ) (d : Option Description) (s : InForce) : Type 0 where
  pub bytes : List ℕ
  pub begins : c ≡ magic ++ bytes
  pub events : List Event
  pub are_events : AreEvents 4 None bytes events None
  pub description : after_all None events ≡ d
  pub in_force : (e : Event) → in_force_after (in_force_after_all nothing_in_force events) e ≡ in_force_after s e

-- an event without its position
abbrev pub unplaced : Event → Event
unplaced e = record e { position = 0 }

-- The file of some bytes followed by a rest has some events, and then those of the rest, and the same
-- error; only the positions differ.
pub record GoesOnWith (c : List ℕ) (rest : List ℕ) (es : List Event) (end : Option FileError) : Type 0 where
  pub first : List Event
  pub later : List Event
  pub last : Option FileError
  pub are_events : AreEventsOfFile (c ++ rest) (first ++ later) last
  pub same : map unplaced later ≡ map unplaced es
  pub same_error : option_map (λ e. e.error) last ≡ option_map (λ e. e.error) end

-- ---- going on after a checkpoint

-- a checkpoint may have this event: the first is a format description event, and none after it has rows
abbrev pub is_of_checkpoint : Option Description → Event → Bool
is_of_checkpoint in_force e = if is_some in_force then is_none e.rows else is_some e.description

-- the bytes begin with an event that a checkpoint may have; what is kept after it, and the bytes after it
pub record TakesStored (k : Kept) (x : List ℕ) (l : Kept) (rest : List ℕ) : Type 0 where
  pub bytes : List ℕ
  pub first : Event
  pub begins : x ≡ bytes ++ rest
  pub spells : (event k.at k.description).spells bytes first
  pub is_stored : is_of_checkpoint k.description first ≡ true
  pub kept : l ≡ kept_after k bytes first

-- the bytes are no event, or begin with one that a checkpoint can't have
abbrev pub NothingStored : Kept → List ℕ → Type 0
NothingStored k x = ((e : EventError) × (x ≢ []) × (event k.at k.description).refuses x e) ⊎ ((y rest : List ℕ) × (e : Event) × (x ≡ y ++ rest) × (event k.at k.description).spells y e × (is_of_checkpoint k.description e ≡ false))

-- the first of these, or else the second
abbrev pub ReadsStored : Bool → Kept → List ℕ → Kept → List ℕ → Type 0
ReadsStored true k x l rest = TakesStored k x l rest
ReadsStored false k x l rest = NothingStored k x

-- these bytes are a file of events that a checkpoint may have; what a reader keeps after them
pub data Restores : List ℕ → Kept → Type 0 where
  begun : Restores magic first_kept
  restored : (x y : List ℕ) (k : Kept) (e : Event) → Restores x k → (event k.at k.description).spells y e → is_of_checkpoint k.description e ≡ true → Restores (x ++ y) (kept_after k y e)

-- the bytes are no file of such events: another event, or none, comes before they end
abbrev pub IsNoCheckpoint : List ℕ → Type 0
IsNoCheckpoint c = (is_binlog c ≡ false) ⊎ ((x z : List ℕ) × (k : Kept) × (c ≡ x ++ z) × Restores x k × NothingStored k z)

-- what is kept by a reader that has read these bytes, and whose next event begins at this position
abbrev pub RestoresAt : List ℕ → ℕ → Kept → Type 0
RestoresAt c at l = (k : Kept) × Restores c k × (l ≡ record k { at = at })

-- The checkpoint of what a reader keeps is taken, and leads back to it: to the same description, and from the
-- next event on to the same tables.
pub record LeadsBack (k : Kept) (at : ℕ) : Type 0 where
  pub kept : Kept
  pub restores : RestoresAt (checkpoint_of k) at kept
  pub description : kept.description ≡ k.description
  pub in_force : (e : Event) → in_force_after kept.in_force e ≡ in_force_after k.in_force e

-- memory was refused, or the bytes are no checkpoint
abbrev pub IsRefused : List ℕ → EventError → Type 0
IsRefused c e = (e ≡ error.Memory) ⊎ ((e ≡ error.NotACheckpoint) × IsNoCheckpoint c)
