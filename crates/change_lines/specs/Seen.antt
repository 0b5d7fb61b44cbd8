-- Which names of tables came.
use Rattle.std.specs.Prelude.{◌≡◌, ◌&&◌, ℕ, nat_le, if◌then◌else◌, length, take, Option, Some, None}
use Rattle.std.specs.Option.{is_some}
use Rattle.byteorder.specs.Endian.{little_number}
use Rattle.binlog_table.specs.TableMap.{TableMap}
use Rattle.binlog_file.specs.Events.{rows_type}
use Rattle.binlog_file.specs.LentChanges.{OtherEvent}
use Rattle.changed_rows.specs.Counted.{Name}
use Rattle.changed_rows.specs.declared.table_names.TableNames.{TableNames}
use Rattle.changed_rows.specs.declared.named.Named.{Named}
use Rattle.changed_rows.specs.SeenNames.{SeesMore}

-- The table of a rows event: the one in force under the table id, with which the event's body begins (6 bytes).
abbrev pub table_in_force : (ℕ → Option TableMap) → OtherEvent → Option TableMap
table_in_force in_force e =
    if is_some (rows_type e.header.event_type) && nat_le 6 (length e.body) then in_force (little_number 6 (take 6 e.body)) else None

-- a table came, if names are looked for
abbrev pub SeesIn : TableNames → Name → Option Named → Option Named → Type 0
SeesIn names t None new = new ≡ None
SeesIn names t (Some old) None = ⊥
SeesIn names t (Some old) (Some new) = SeesMore names t old new
