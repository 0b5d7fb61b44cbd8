-- What a reader does with the bytes of an event.
use Rattle.std.specs.Prelude.{◌≡◌, ◌⊎◌, List, ℕ, ◌++◌, Result, Ok, Err}
use Rattle.binlog_base.specs.Format.{Parses}
use Rattle.binlog_events.specs.declared.error.EventError.{EventError}
use Rattle.binlog_file.specs.Events.{Raw, Event, Glance, glance_of, event_of_raw}
use Rattle.binlog_file.specs.Stream.{Kept, kept_after, IsOutside}

-- The bytes are an event, which is kept, and this is a glance at it; or they are refused with the error;
-- or memory was refused.
abbrev pub TakesRaw : Kept → Raw → Result Glance EventError → Kept → Type 0
TakesRaw k r (Ok g) l = (e : Event) × (g ≡ glance_of e) × ((x : List ℕ) → Parses (event_of_raw k.at k.description r) (Ok e) x x) × (l ≡ kept_after k (r.head ++ r.rest) e)
TakesRaw k r (Err e) l = IsOutside e ⊎ ((x : List ℕ) → Parses (event_of_raw k.at k.description r) (Err e) x x)
