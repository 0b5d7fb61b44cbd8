-- What a reading of changes in memory does with an event.
use Rattle.std.specs.Prelude.{◌≡◌, ◌⊎◌, ℕ, ◌+◌, ◌<◌, ◌≤◌, List, [], length, Result, Ok, Err, Option, Some, None}
use Rattle.binlog_base.specs.Format.{Parses, SpellsPrefix}
use Rattle.binlog_events.specs.declared.error.EventError.{EventError}
use Rattle.binlog_events.specs.declared.error.FileError.{FileError}
use Rattle.binlog_file.specs.Description.{Description}
use Rattle.binlog_file.specs.Events.{Raw, Event, Glance, glance_of, event, event_of_raw, Place, Steps}
use Rattle.binlog_file.specs.Tables.{InForce, in_force_after}
use Rattle.binlog_file.specs.Changes.{IsMemory}

-- a glance at an event, and the description that the event is, if it is one
pub record Seen : Type 0 where
  pub glance : Glance
  pub description : Option Description

abbrev pub seen : Glance → Option Description → Seen
seen g d = record { glance = g; description = d }

abbrev pub seen_of : Event → Seen
seen_of e = seen (glance_of e) e.description

-- The bytes are an event, whose tables are taken, and this is what is seen of it; or they are refused with
-- the error; or memory was refused.
abbrev pub SeesRaw : ℕ → Option Description → InForce → Raw → Result Seen EventError → InForce → Type 0
SeesRaw at d s r (Ok n) t = (e : Event) × (n ≡ seen_of e) × ((x : List ℕ) → Parses (event_of_raw at d r) (Ok e) x x) × (t ≡ in_force_after s e)
SeesRaw at d s r (Err e) t = IsMemory e ⊎ ((x : List ℕ) → Parses (event_of_raw at d r) (Err e) x x)

-- The same for the event at the start of some bytes, which leaves these bytes.
abbrev pub SeesAt : ℕ → Option Description → InForce → List ℕ → Seen → List ℕ → InForce → Type 0
SeesAt at d s x n left t = (e : Event) × (n ≡ seen_of e) × SpellsPrefix (event at d) e x left × (length left + 19 ≤ length x) × (t ≡ in_force_after s e)

-- A glance at the event at the start of the bytes, whose tables are taken; nothing if there are none; or
-- the error, or that memory was refused, after which none are left.
abbrev pub GlanceSteps : Place → InForce → Option (Result Glance FileError) → Place → InForce → Type 0
GlanceSteps p s None q t = Steps p None q
GlanceSteps p s (Some (Ok g)) q t = (e : Event) × (g ≡ glance_of e) × Steps p (Some (Ok e)) q × (t ≡ in_force_after s e)
GlanceSteps p s (Some (Err e)) q t = Steps p (Some (Err e)) q ⊎ (IsMemory e.error × (0 < length p.left) × (q.left ≡ []))
