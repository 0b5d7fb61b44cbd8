-- The table map events in force.
use Rattle.std.specs.Prelude.{ℕ, ◌%◌, Bool, false, nat_eq, if◌then◌else◌, List, [], ◌∷◌, slice_index, Option, Some, None}
use Rattle.binlog_table.specs.TableMap.{TableMap}
use Rattle.mysql_binlog_rows.specs.declared.rows_event.event.RowsEventCtx.{RowsEventCtx}
use Rattle.binlog_events.specs.Description.{Description}
use Rattle.binlog_events.specs.Events.{Event}

-- for each table id, the table map event that rows events of this table are read with
abbrev pub Tables : Type 0
Tables = ℕ → Option TableMap

abbrev pub no_tables : Tables
no_tables id = None

abbrev pub with_table : Tables → TableMap → Tables
with_table old t id = if nat_eq id t.table_id then Some t else old id

-- a table map event takes the place of one with its table id
abbrev pub with_map : Tables → Option TableMap → Tables
with_map old None id = old id
with_map old (Some t) id = with_table old t id

-- a format description gives up all tables
abbrev pub given_up : Tables → Option Description → Tables
given_up old None id = old id
given_up old (Some d) id = None

-- STMT_END_F is the lowest bit after the table id, which has 4 bytes if the post-header has 6, and 6
-- bytes if it has more
abbrev pub has_end_flag : Option RowsEventCtx → List ℕ → Bool
has_end_flag None body = false
has_end_flag (Some ctx) body = nat_eq (slice_index body (if nat_eq ctx.post_header_len 6 then 4 else 6) % 2) 1

-- the event is a rows event, and the last of its statement
abbrev pub ends_statement : Event → Bool
ends_statement e = has_end_flag e.rows e.body

-- the tables in force after some events, and whether a statement ended with the last of them
pub record InForce : Type 0 where
  pub tables : Tables
  pub ended : Bool

abbrev pub nothing_in_force : InForce
nothing_in_force = record { tables = no_tables; ended = false }

-- the tables that the next event finds: none if a statement has ended
abbrev pub found : Tables → Bool → Tables
found old ended id = if ended then None else old id

abbrev pub in_force_after : InForce → Event → InForce
in_force_after old e = record {
  tables = with_map (given_up (found old.tables old.ended) e.description) e.table;
  ended = ends_statement e;
}

abbrev pub in_force_after_all : InForce → List Event → InForce
in_force_after_all old [] = old
in_force_after_all old (e ∷ es) = in_force_after_all (in_force_after old e) es

-- the table map event that is in force for a table id after these events of a file
abbrev pub in_force : List Event → ℕ → Option TableMap
in_force es id = (in_force_after_all nothing_in_force es).tables id
