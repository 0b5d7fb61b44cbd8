-- Which file follows.
use Rattle.std.specs.Prelude.{ℕ, ◌&&◌, nat_eq, nat_le, if◌then◌else◌, List, length, drop, Option, Some, None}
use Rattle.binlog_file.specs.LentChanges.{OtherEvent}

-- the name of the file that follows: what a ROTATE event has after a position (8 bytes)
abbrev pub next_file : OtherEvent → Option (List ℕ)
next_file e = if nat_eq e.header.event_type 0x04 && nat_le 8 (length e.body) then Some (drop 8 e.body) else None
