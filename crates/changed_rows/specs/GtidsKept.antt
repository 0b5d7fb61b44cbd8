-- The GTID that is in force after events of a file, and after those of a checkpoint.
use Rattle.std.specs.Prelude.{ℕ, List, [], ◌∷◌, ◌++◌, Option}
use Rattle.binlog_file.specs.Events.{Event, glance_of}
use Rattle.binlog_file.specs.LentEvents.{other_of}
use Rattle.binlog_file.specs.Stream.{Kept}
use Rattle.binlog_file.specs.Checkpoints.{Reached, start, next}
use Rattle.changed_rows.specs.Gtids.{gtid_after}

-- the GTID after an event of a file
abbrev pub gtid_past : Option (List ℕ) → Event → Option (List ℕ)
gtid_past old e = gtid_after old (other_of (glance_of e))

-- the GTID after events, one after the other
abbrev pub gtid_after_all : Option (List ℕ) → List Event → Option (List ℕ)
gtid_after_all old [] = old
gtid_after_all old (e ∷ es) = gtid_after_all (gtid_past old e) es

-- the events that were read from the start, for which a checkpoint stands
abbrev pub events_read : {k : Kept} → Reached k → List Event
events_read start = []
events_read (next k y e r spelled) = events_read r ++ e ∷ []
