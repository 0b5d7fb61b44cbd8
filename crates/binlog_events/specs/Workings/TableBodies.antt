-- Table map events by the bytes of their bodies.
use Rattle.std.specs.Prelude.{ℕ, ◌+◌, ◌*◌, List, Result, Ok, Err}
use Rattle.binlog_base.specs.Format.{FormatOf, Parses, all_of, map_fault}
use Rattle.binlog_base.specs.declared.below.columns.server.Server.{Server}
use Rattle.binlog_table.specs.TableMap.{TableMap, table_map_of}
use Rattle.binlog_events.specs.declared.error.EventError.{EventError}
use Rattle.binlog_events.specs.declared.error.EventError.TheVariants as error
use Rattle.binlog_events.specs.Header.{Header}
use Rattle.binlog_events.specs.Events.{Parts, Event, with_table}

-- This is what all bytes of a body are as a server's table map event, under a post-header length.
abbrev pub ReadsTable : Server → ℕ → List ℕ → Result TableMap EventError → Type 0
ReadsTable server n body r = (x : List ℕ) → Parses (map_fault (all_of body (table_map_of server n)) error.TableMap) r x x

-- a table map event that is kept, its body, and what that was read by
pub record KeptTable : Type 0 where
  pub server : Server
  pub post_header_len : ℕ
  pub body : List ℕ
  pub table : TableMap

-- How many bytes of memory a kept table map event takes, whose body has n bytes: the body, its parts, which
-- are copies of as many bytes at most, and what holds them.
abbrev pub table_weight : ℕ → ℕ
table_weight n = 2 * n + 768

-- a table map event whose body isn't read yet, and what that is read by
pub record UnreadTable : Type 0 where
  pub position : ℕ
  pub header : Header
  pub parts : Parts
  pub server : Server
  pub post_header_len : ℕ

-- the event, if its body says this
abbrev pub event_with : UnreadTable → TableMap → Event
event_with u t = with_table u.position u.header u.parts t

-- the bytes of an event are refused with the error; or they are the event of this body
abbrev pub LeavesTable : FormatOf EventError Event → Result UnreadTable EventError → Type 0
LeavesTable f (Err e) = (x : List ℕ) → Parses f (Err e) x x
LeavesTable f (Ok u) =
    ((t : TableMap) → ReadsTable u.server u.post_header_len u.parts.body (Ok t) → (x : List ℕ) → Parses f (Ok (event_with u t)) x x)
    × ((e : EventError) → ReadsTable u.server u.post_header_len u.parts.body (Err e) → (x : List ℕ) → Parses f (Err e) x x)
