-- The global transaction id (GTID) that is in force, as text.
use Rattle.std.specs.Prelude.{ℕ, ◌||◌, if◌then◌else◌, List, ◌++◌, length, nat_eq, nat_lt, codes, decimal, slice_range, Option, Some, None}
use Rattle.std.specs.Fmt.{signed_decimal}
use Rattle.std.specs.Int.{w64, cast_signed}
use Rattle.byteorder.specs.Endian.{little_number}
use Rattle.hex.specs.Hex.{encode_lower}
use Rattle.binlog_file.specs.LentChanges.{OtherEvent}

-- bytes in hexadecimal, after a dash
abbrev pub part_text : List ℕ → List ℕ
part_text bytes = codes "-" ++ encode_lower bytes

-- a UUID of 16 bytes, in hexadecimal, with dashes
abbrev pub uuid_text : List ℕ → List ℕ
uuid_text u =
    (((encode_lower (slice_range u 0 4) ++ part_text (slice_range u 4 6)) ++ part_text (slice_range u 6 8)) ++ part_text (slice_range u 8 10)) ++ part_text (slice_range u 10 16)

-- the body of MySQL's event: flags (1 byte), a UUID (16), a number (8)
abbrev pub mysql_gtid : List ℕ → Option (List ℕ)
mysql_gtid body =
    if nat_lt (length body) 25 then None
    else Some (uuid_text (slice_range body 1 17) ++ (codes ":" ++ signed_decimal (cast_signed w64 (little_number 8 (slice_range body 17 25)))))

-- the body of MariaDB's event: a sequence number (8 bytes), a domain (4)
abbrev pub mariadb_gtid : ℕ → List ℕ → Option (List ℕ)
mariadb_gtid server body =
    if nat_lt (length body) 12 then None
    else Some (decimal (little_number 4 (slice_range body 8 12)) ++ (codes "-" ++ (decimal server ++ (codes "-" ++ decimal (little_number 8 (slice_range body 0 8))))))

-- The GTID after an event: that of a GTID event; none after a format description event, and after MySQL's
-- events of transactions without a GTID or with a tag.
abbrev pub gtid_after : Option (List ℕ) → OtherEvent → Option (List ℕ)
gtid_after old e =
    let type = e.header.event_type in
    if nat_eq type 0x21 then mysql_gtid e.body
    else if nat_eq type 0xA2 then mariadb_gtid e.header.server_id e.body
    else if nat_eq type 0x0F || (nat_eq type 0x22 || nat_eq type 0x2A) then None
    else old
