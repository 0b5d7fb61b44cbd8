-- The bytes of the events that a checkpoint has.
use Rattle.std.specs.Prelude.{ℕ, ◌||◌, Bool, true, false, nat_eq, if◌then◌else◌, List, [], ◌++◌, Option, Some, None}
use Rattle.binlog_events.specs.Events.{Event}

-- the bytes of the format description event, of the last GTID event after it, and of the table map events
-- since a statement ended, as they were read
pub record Stored : Type 0 where
  pub description : List ℕ
  pub gtid : List ℕ
  pub tables : List ℕ

abbrev pub nothing_stored : Stored
nothing_stored = record { description = []; gtid = []; tables = [] }

-- MySQL's GTID_LOG_EVENT, ANONYMOUS_GTID_LOG_EVENT and GTID_TAGGED_LOG_EVENT, and MariaDB's GTID_EVENT
abbrev pub is_gtid : ℕ → Bool
is_gtid type = nat_eq type 0x21 || nat_eq type 0x22 || nat_eq type 0x2A || nat_eq type 0xA2

abbrev pub is_there : {A : Type 0} → Option A → Bool
is_there None = false
is_there (Some a) = true

abbrev pub description_after : List ℕ → Event → List ℕ → List ℕ
description_after old e y = if is_there e.description then y else old

-- a format description gives the GTID event up
abbrev pub gtid_after : List ℕ → Event → List ℕ → List ℕ
gtid_after old e y = if is_there e.description then [] else if is_gtid e.header.event_type then y else old

-- a format description gives the table map events up, and so does an event after the end of a statement
abbrev pub tables_after : List ℕ → Bool → Event → List ℕ → List ℕ
tables_after old ended e y = (if is_there e.description || ended then [] else old) ++ (if is_there e.table then y else [])

-- what is stored after an event of these bytes; ended: whether a statement ended with the event before
abbrev pub stored_after : Stored → Bool → Event → List ℕ → Stored
stored_after s ended e y = record {
  description = description_after s.description e y;
  gtid = gtid_after s.gtid e y;
  tables = tables_after s.tables ended e y;
}
