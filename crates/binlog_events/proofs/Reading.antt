-- An event is read part by part.
use Rattle.std.proofs.Common.{◌≡◌, ℕ, nat_eq, true, false, List, length, Option, Some, Result, Ok, Err, refl, ap, ◌≤◌, ◌+◌, arith, length-append}
use Rattle.binlog_base.specs.Format.{Parses, ReadsAs, SpellsPrefix, all_of, map_value, map_fault}
use Rattle.binlog_events.specs.declared.error.EventError.{EventError}
use Rattle.binlog_events.specs.declared.error.EventError.TheVariants as error
use Rattle.binlog_base.specs.declared.fault.Fault.{Fault}
use Rattle.binlog_base.specs.declared.below.columns.server.Server.{Server}
use Rattle.binlog_base.specs.declared.below.columns.server.Server.TheVariants.{MySql}
use Rattle.binlog_table.specs.TableMap.{TableMap, of_server, table_map_of}
use Rattle.binlog_table.specs.Lemmas.TableMap.{exact_table_map, same_table_map}
use Rattle.binlog_events.specs.Lemmas.Formats.{exact_event}
use Rattle.binlog_events.specs.Header.{Header}
use Rattle.binlog_events.specs.Description.{Description, description, post_header_len}
use Rattle.binlog_events.specs.Events.{Raw, Parts, Event, raw_event, event, other_event, event_of_raw, is_description, has_checksum, parts_of, with_description, with_table}

-- an event from its bytes: a format description, or any other
pub described : (at : ℕ) (d : Option Description) (r : Raw) (h : Header) (p : Parts) (x : List ℕ) (result : Result Event EventError)
    → h ≡ r.header → parts_of (has_checksum d r) r ≡ Ok p → is_description r ≡ true
    → Parses (map_value (all_of p.body (description (length p.body))) (with_description at h p)) result x x
    → Parses (event_of_raw at d r) result x x
described at d r h p x (Ok e) eh b is g = rw (b, is, ← eh) g
described at d r h p x (Err e) eh b is g = rw (b, is, ← eh) g

pub other : (at : ℕ) (d : Option Description) (r : Raw) (h : Header) (p : Parts) (x : List ℕ) (result : Result Event EventError)
    → h ≡ r.header → parts_of (has_checksum d r) r ≡ Ok p → is_description r ≡ false
    → Parses (other_event at d h p) result x x
    → Parses (event_of_raw at d r) result x x
other at d r h p x (Ok e) eh b is g = rw (b, is, ← eh) g
other at d r h p x (Err e) eh b is g = rw (b, is, ← eh) g

-- an event at the start of bytes, from its bytes
pub from_raw : (at : ℕ) (d : Option Description) (r : Raw) (old mid : List ℕ) (result : Result Event EventError)
    → raw_event.parse old ≡ Ok (r, mid) → ((x : List ℕ) → Parses (event_of_raw at d r) result x x) → Parses (event at d) result old mid
unfolding event
from_raw at d r old mid (Ok e) p g = rw p (g mid)
from_raw at d r old mid (Err e) p g = rw p (g mid)

pub table_chosen : (at : ℕ) (d : Description) (h : Header) (p : Parts) (result : Result Event EventError) (x : List ℕ) → nat_eq h.event_type 0x13 ≡ true
    → Parses (map_value (map_fault (all_of p.body (table_map_of d.server (post_header_len d 0x13))) error.TableMap) (with_table at h p)) result x x → Parses (other_event at (Some d) h p) result x x
table_chosen at d h p (Ok e) x is q = rw is q
table_chosen at d h p (Err e) x is q = rw is q

-- what MySQL's layout reads is a server's table map event, but for the server
pub servers_table : (server : Server) (n : ℕ) (body left x : List ℕ) (t u : TableMap) → (table_map_of MySql n).parse body ≡ Ok (t, left) → u ≡ of_server server t
    → Parses (map_fault (all_of body (table_map_of server n)) error.TableMap) (Ok u) x x
servers_table server n body left x t u p is =
    let read = (exact_table_map MySql n).sound body t left p in
    let again = (same_table_map MySql server n).spells body t read.1 in
    rw ((exact_table_map server n).complete body (of_server server t) again, is) refl

pub no_servers_table : (server : Server) (n : ℕ) (body x : List ℕ) (e : Fault) → (table_map_of MySql n).parse body ≡ Err e
    → Parses (map_fault (all_of body (table_map_of server n)) error.TableMap) (Err (error.TableMap e)) x x
no_servers_table server n body x e p =
    let again = (same_table_map MySql server n).refuses body e ((exact_table_map MySql n).refused_sound body e p) in
    rw ((exact_table_map server n).refused_complete body e again) refl

-- an event has the bytes of a header at least
pub long : (at : ℕ) (d : Option Description) (y : List ℕ) (e : Event) → (event at d).spells y e → 19 ≤ length y
unfolding event raw_event
long at d y e s =
    let raw = s.4 in
    let head = raw.4 in
    omega (arith, ap length s.3, length-append s.1 s.2, ap length raw.3, length-append raw.1 raw.2, head.1)

pub long_enough : (at : ℕ) (d : Option Description) (e : Event) (old new : List ℕ) → SpellsPrefix (event at d) e old new → length new + 19 ≤ length old
long_enough at d e old new s = omega (arith, ap length s.1, length-append s.0 new, long at d s.0 e s.2)

-- by spelling
pub read_event : (at : ℕ) (d : Option Description) (result : Result Event EventError) (old new : List ℕ) → Parses (event at d) result old new → ReadsAs false (λ e. e) (event at d) result old new
read_event at d (Ok e) old new h = (exact_event at d).sound old e new h
read_event at d (Err e) old new h = (exact_event at d).refused_sound old e h
