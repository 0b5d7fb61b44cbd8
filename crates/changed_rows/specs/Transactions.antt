-- Whether a transaction is open.
use Rattle.std.specs.Prelude.{ℕ, ◌||◌, ◌%◌, nat_eq, if◌then◌else◌, Bool, true, false, List, codes, slice_get, unwrap_or}
use Rattle.changed_rows.specs.Gaps.{begins_with, statement_in}
use Rattle.binlog_file.specs.LentChanges.{OtherEvent}

-- The GTID event of MariaDB with this body opens a transaction: its flags, after a number (8 bytes) and a domain
-- (4), don't say that the statement stands alone (1).
abbrev pub opens_group : List ℕ → Bool
opens_group body = nat_eq (unwrap_or (slice_get body 12) 1 % 2) 0

-- whether a transaction is open after a statement
abbrev pub open_after_statement : Bool → List ℕ → Bool
open_after_statement is_open s =
    if begins_with s (codes "BEGIN") || begins_with s (codes "XA START") then true
    else if begins_with s (codes "ROLLBACK TO") then is_open
    else if begins_with s (codes "COMMIT") || begins_with s (codes "ROLLBACK") then false
    else is_open

-- whether a transaction is open after an event, from whether one was before it
abbrev pub open_after : Bool → OtherEvent → Bool
open_after is_open e =
    let type = e.header.event_type in
    if nat_eq type 0xA2 then opens_group e.body
    else if nat_eq type 0x02 then open_after_statement is_open (statement_in e.body)
    else if nat_eq type 0x0F || (nat_eq type 0x21 || (nat_eq type 0x22 || nat_eq type 0x2A)) then false
    else is_open
