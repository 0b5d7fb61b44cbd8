-- What a reader keeps, and what is in its buffer. It is a module of its own because these are types of
-- the code.
use Rattle.std.specs.Prelude.{ℕ, List, take, Option, Result, Ok, Err}
use Rattle.std.specs.Option.{option_map}
use Rattle.std.specs.Result.{result_map_both}
use Rattle.binlog_file.specs.TableMaps.{held_by}
use Rattle.binlog_file.specs.Events.{Raw, raw, Glance}
use Rattle.binlog_file.specs.Stream as Spec
use Rattle.binlog_events.specs.declared.error.FileError.{FileError}
use Rattle.binlog_file.specs.declared.reader.Kept.{Kept}
use Rattle.binlog_file.specs.declared.reader.EventStreamReader.{EventStreamReader}
use Rattle.binlog_file.specs.declared.reader.EventBuffer.{EventBuffer}
use Rattle.binlog_file.specs.declared.reader.Filled.{Filled}
use Rattle.binlog_file.specs.declared.sighting.Sighting.{Sighting}

abbrev pub kept_by : Kept → Spec.Kept
kept_by k = Spec.kept k.position k.description (held_by k.tables) k.stored

abbrev pub reading_of : EventStreamReader → Spec.Reading
reading_of r = record { kept = kept_by r.kept; is_over = r.is_over; is_lost = r.is_lost }

-- ---- the event in a buffer

abbrev pub raw_in : EventBuffer → Filled → Raw
raw_in b f = raw (take 19 b.head.items) f.header (take f.rest_len b.rest.items)

-- a glance at the event with these bytes after the header
abbrev pub glance_of_bytes : List ℕ → Sighting → Glance
glance_of_bytes rest s = record {
  origin = record { position = s.position; timestamp = s.header.timestamp; server_id = s.header.server_id };
  header = s.header;
  rows = s.rows;
  body = take s.body_len rest;
}

abbrev pub glance_in : EventBuffer → Sighting → Glance
glance_in b s = glance_of_bytes b.rest.items s

-- what was found, seen otherwise
abbrev pub found : {E A B : Type 0} → (A → B) → Result (Option A) E → Result (Option B) E
found f (Ok o) = Ok (option_map f o)
found f (Err e) = Err e

abbrev pub item_in : EventBuffer → Option (Result Sighting FileError) → Option (Result Glance FileError)
item_in b item = option_map (result_map_both (glance_in b) (λ e. e)) item
