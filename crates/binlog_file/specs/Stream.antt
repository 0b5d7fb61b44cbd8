-- Reading events from a source. The bytes of a source are Some of those that are left in it, or None
-- where they aren't known.
use Rattle.std.specs.Prelude.{◌≡◌, ◌≢◌, ◌↔◌, ℕ, ◌+◌, ◌-◌, ◌^◌, ◌<◌, ◌≤◌, min, Bool, true, false, not, ◌||◌, IsTrue, List, [], length, Result, Ok, Err, IsErr, IfErr, Option, Some, None, ◌⊎◌}
use Rattle.std.specs.Io.KnownBytes.{Consumes, IsAtEnd}
use Rattle.binlog_base.specs.Sources.{IsLeft}
use Rattle.binlog_base.specs.Failures.{one_more_failure}
use Rattle.binlog_events.specs.declared.error.EventError.{EventError}
use Rattle.binlog_events.specs.declared.error.EventError.TheVariants as error
use Rattle.binlog_events.specs.declared.error.FileError.{FileError}
use Rattle.binlog_file.specs.Description.{Description}
use Rattle.binlog_file.specs.Events.{Raw, raw_event, Event, event, Glance, glance_of, after, is_binlog, no_binlog}
use Rattle.binlog_file.specs.Tables.{InForce, nothing_in_force, in_force_after}
use Rattle.binlog_file.specs.Workings.Stored.{Stored, nothing_stored, stored_after}

-- these are the next n bytes of a source, or all that were left, which are fewer
pub record Fills (n : ℕ) (old new : Option (List ℕ)) (bytes : List ℕ) : Type 0 where
  pub fits : length bytes ≤ n
  pub taken : Consumes old new bytes
  pub ends : length bytes < n → IsAtEnd new

-- the source failed, or memory was refused
abbrev pub IsOutside : EventError → Type 0
IsOutside e = (e ≡ error.Reader) ⊎ (e ≡ error.Memory)

-- ---- counting the failures of a source

-- bytes are lacking: the source ended within an event, or failed
abbrev pub lacks_bytes : EventError → Bool
lacks_bytes (error.Cut n) = true
lacks_bytes error.Reader = true
lacks_bytes _ = false

-- the bytes were there
abbrev pub HasBytes : EventError → Type 0
HasBytes e = lacks_bytes e ≡ false

-- the count of failures after an error: only Reader adds one
abbrev pub count_after : EventError → ℕ → ℕ
count_after error.Reader old = one_more_failure old
count_after _ old = old

-- A call that answers Reader adds one to its source's count of failures. Any other answer leaves the count
-- as it is.
abbrev pub CountsError : {X : Type 0} → Result X EventError → ℕ → ℕ → Type 0
CountsError (Ok _) old new = new ≡ old
CountsError (Err e) old new = new ≡ count_after e old

-- the same of an error with its position
abbrev pub CountsAt : {X : Type 0} → Result X FileError → ℕ → ℕ → Type 0
CountsAt (Ok _) old new = new ≡ old
CountsAt (Err e) old new = new ≡ count_after e.error old

-- the same of an item, or of none
abbrev pub CountsItem : {X : Type 0} → Option (Result X FileError) → ℕ → ℕ → Type 0
CountsItem None old new = new ≡ old
CountsItem (Some item) old new = CountsAt item old new

-- ---- reading the bytes of an event

-- the bytes of the event at the start, which are taken; nothing if no bytes were left; or the error with
-- which those that were left are refused
abbrev pub RawGives : Option (List ℕ) → Result (Option Raw) EventError → Option (List ℕ) → Type 0
RawGives old (Ok None) new = IsLeft old []
RawGives old (Ok (Some r)) new = (y : List ℕ) × raw_event.spells y r × Consumes old new y
RawGives old (Err e) new = IsOutside e ⊎ ((x : List ℕ) × (x ≢ []) × raw_event.refuses x e × IsLeft old x)

-- what a reader keeps between events: the position, the description and the tables in force, and the
-- bytes of the events that a checkpoint has
pub record Kept : Type 0 where
  pub at : ℕ
  pub description : Option Description
  pub in_force : InForce
  pub stored : Stored

abbrev pub kept : ℕ → Option Description → InForce → Stored → Kept
kept at d s stored = record { at = at; description = d; in_force = s; stored = stored }

-- after the four bytes with which a file begins
abbrev pub first_kept : Kept
first_kept = kept 4 None nothing_in_force nothing_stored

-- what is kept after an event of these bytes; a position is at most 2^64 - 1
abbrev pub kept_after : Kept → List ℕ → Event → Kept
kept_after k y e = kept (min (k.at + e.header.event_size) (2 ^ 64 - 1)) (after k.description e) (in_force_after k.in_force e) (stored_after k.stored k.in_force.ended e y)

-- The event at the start of the bytes, which are taken; nothing if no bytes were left; or the error with
-- which those that were left are refused.
abbrev pub ReadGives : Option (List ℕ) → Kept → Result (Option Event) EventError → Option (List ℕ) → Kept → Type 0
ReadGives old k (Ok None) new l = IsLeft old [] × (l ≡ k)
ReadGives old k (Ok (Some e)) new l = (y : List ℕ) × (event k.at k.description).spells y e × Consumes old new y × (l ≡ kept_after k y e)
ReadGives old k (Err e) new l = IsOutside e ⊎ ((x : List ℕ) × (x ≢ []) × (event k.at k.description).refuses x e × IsLeft old x)

-- the same, with a glance at the event in place of it
abbrev pub GlanceGives : Option (List ℕ) → Kept → Result (Option Glance) EventError → Option (List ℕ) → Kept → Type 0
GlanceGives old k (Ok None) new l = ReadGives old k (Ok None) new l
GlanceGives old k (Ok (Some g)) new l = (e : Event) × (g ≡ glance_of e) × ReadGives old k (Ok (Some e)) new l
GlanceGives old k (Err e) new l = ReadGives old k (Err e) new l

-- the same, and the error with the position where the bytes begin
abbrev pub EventGives : Option (List ℕ) → Kept → Result (Option Event) FileError → Option (List ℕ) → Kept → Type 0
EventGives old k (Ok e) new l = ReadGives old k (Ok e) new l
EventGives old k (Err e) new l = (e.position ≡ k.at) × ReadGives old k (Err e.error) new l

-- the error of a source that doesn't begin with the bytes of a binlog file
abbrev pub NoHeader : Option (List ℕ) → FileError → Type 0
NoHeader old e = ((e.position ≡ 0) × IsOutside e.error) ⊎ ((x : List ℕ) × (is_binlog x ≡ false) × (e ≡ no_binlog x) × IsLeft old x)

-- what a reader keeps, whether it is at its end, and whether it was lost there: an event couldn't be read
-- whose bytes were there
pub record Reading : Type 0 where
  pub kept : Kept
  pub is_over : Bool
  pub is_lost : Bool

-- an error but one of bytes that are lacking loses the reading
abbrev pub lost_after : {A : Type 0} → Bool → Result A FileError → Bool
lost_after lost (Ok _) = lost
lost_after lost (Err e) = lost || not (lacks_bytes e.error)

-- the same, and the error with the position where the bytes begin
abbrev pub GlanceAt : Option (List ℕ) → Kept → Result (Option Glance) FileError → Option (List ℕ) → Kept → Type 0
GlanceAt old k (Ok g) new l = GlanceGives old k (Ok g) new l
GlanceAt old k (Err e) new l = EventGives old k (Err e) new l

-- A glance at the next event of a reader that isn't at its end, or the error, after which it is. Where bytes
-- are lacking, what is kept stays.
pub record ReaderGlances (old : Option (List ℕ)) (r : Reading) (result : Result (Option Glance) FileError) (new : Option (List ℕ)) (s : Reading) : Type 0 where
  pub glances : GlanceAt old r.kept result new s.kept
  pub ended : IsTrue s.is_over ↔ IsErr result
  pub lost : s.is_lost ≡ lost_after r.is_lost result
  pub stays : IfErr result (λ e. lacks_bytes e.error ≡ true → s.kept ≡ r.kept)

-- The next event, or the error, after which the reader is at its end. At its end it gives nothing, and
-- leaves all as it is. Where bytes are lacking, what is kept stays.
pub record ReaderGives (old : Option (List ℕ)) (r : Reading) (result : Result (Option Event) FileError) (new : Option (List ℕ)) (s : Reading) : Type 0 where
  pub reads : r.is_over ≡ false → EventGives old r.kept result new s.kept
  pub over : r.is_over ≡ true → (result ≡ Ok None) × (s ≡ r) × (new ≡ old)
  pub ended : IsTrue s.is_over ↔ ((r.is_over ≡ true) ⊎ IsErr result)
  pub lost : s.is_lost ≡ lost_after r.is_lost result
  pub stays : IfErr result (λ e. lacks_bytes e.error ≡ true → s.kept ≡ r.kept)

-- the type of the event that was read last: that of the one that was read now, if one was
abbrev pub last_type_after : {E A : Type 0} → (A → ℕ) → Option ℕ → Result (Option A) E → Option ℕ
last_type_after type last (Ok (Some a)) = Some (type a)
last_type_after type last (Ok None) = last
last_type_after type last (Err e) = last

-- the reader isn't at its end, and neither at the greatest position
abbrev pub MayGoOn : Reading → Type 0
MayGoOn r = (r.is_over ≡ false) × (r.kept.at < 2 ^ 64 - 1)
