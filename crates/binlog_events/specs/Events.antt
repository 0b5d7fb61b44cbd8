-- The events of a file.
use Rattle.std.specs.Prelude.{◌≡◌, ◌≢◌, ℕ, ◌+◌, ◌-◌, ◌%◌, ◌<◌, ◌≤◌, Bool, false, true, nat_lt, nat_eq, not, ◌||◌, ◌&&◌, if◌then◌else◌, List, [], ◌∷◌, ◌++◌, length, take, drop, set, slice_index, Result, Ok, Err, Option, Some, None}
use Rattle.std.specs.Bool.{MatchBool}
use Rattle.std.specs.List.{starts_with}
use Rattle.std.specs.Option.{option_map}
use Rattle.byteorder.specs.Endian.{little_number}
use Rattle.binlog_base.specs.Format.{FormatOf, take_or, no_bytes, refusal, check, within, all_of, sequence, map_value, map_fault, choice}
use Rattle.binlog_table.specs.TableMap.{TableMap, table_map_of}
use Rattle.binlog_consts.specs.declared.consts.event_type.EventType.{EventType}
use Rattle.binlog_consts.specs.declared.consts.event_type.EventType.TheVariants as types
use Rattle.mysql_binlog_rows.specs.declared.rows_event.event.RowsEventCtx.{RowsEventCtx}
use Rattle.binlog_events.specs.declared.error.EventError.{EventError}
use Rattle.binlog_events.specs.declared.error.EventError.TheVariants as error
use Rattle.binlog_events.specs.declared.error.FileError.{FileError}
use Rattle.binlog_events.specs.declared.origin.Origin.{Origin}
use Rattle.binlog_events.specs.Crc32.{crc32}
use Rattle.binlog_events.specs.Header.{Header, header, is_ignorable}
use Rattle.binlog_events.specs.Version.{knows_checksums}
use Rattle.binlog_events.specs.Description.{Description, description, post_header_len}

-- ---- the bytes of an event

-- head: the bytes of the header, and header: what they say; rest: the bytes after the header
pub record Raw : Type 0 where
  pub head : List ℕ
  pub header : Header
  pub rest : List ℕ

abbrev pub raw : List ℕ → Header → List ℕ → Raw
raw head h rest = record { head = head; header = h; rest = rest }

-- n bytes of an event
abbrev pub taken : ℕ → FormatOf EventError (List ℕ)
taken n = take_or (λ there. error.Cut (n - there)) n

-- how many bytes follow the header
abbrev pub rest_len : Header → Result ℕ EventError
rest_len h = if nat_lt h.event_size 19 then Err (error.EventSize h.event_size) else Ok (h.event_size - 19)

unfoldable pub raw_event : FormatOf EventError Raw
raw_event =
    sequence (taken 19) (λ head.
    sequence (map_fault (within head header) error.Description) (λ h.
    sequence (check (rest_len h)) (λ n.
    map_value (taken n) (raw head h))))

abbrev pub is_description : Raw → Bool
is_description r = nat_eq r.header.event_type 0x0F

-- ---- the checksum

-- A format description ends with a checksum if its server knows checksums, whatever the algorithm; any
-- other event does if the description that is in force says so.
abbrev pub has_checksum : Option Description → Raw → Bool
has_checksum None r = is_description r && knows_checksums (take 50 (drop 2 r.rest))
has_checksum (Some d) r = if is_description r then knows_checksums (take 50 (drop 2 r.rest)) else d.has_checksums

-- The checksum of a format description is left unread unless its algorithm, the byte before the
-- checksum, is CRC-32.
abbrev pub is_checked : Raw → Bool
is_checked r = not (is_description r) || nat_eq (slice_index r.rest (length r.rest - 5)) 1

-- the bytes of the header with the flag LOG_EVENT_BINLOG_IN_USE_F cleared
abbrev pub cleared : List ℕ → List ℕ
cleared head = set head 17 (slice_index head 17 - slice_index head 17 % 2)

-- the bytes that the checksum is of, before those of the body
abbrev pub summed_head : Raw → List ℕ
summed_head r = if is_description r then cleared r.head else r.head

-- the body, and the checksum after it
pub record Parts : Type 0 where
  pub body : List ℕ
  pub checksum : Option ℕ

-- the body, whose checksum is right if it is checked
abbrev pub summed : Bool → List ℕ → ℕ → List ℕ → Result Parts EventError
summed checked head found body =
    if not checked || nat_eq found (crc32 (head ++ body))
    then Ok (record { body = body; checksum = Some found })
    else Err (error.Checksum found (crc32 (head ++ body)))

unfoldable pub parts_of : Bool → Raw → Result Parts EventError
parts_of false r = Ok (record { body = r.rest; checksum = None })
parts_of true r =
    let n = length r.rest - 4 in
    if nat_lt (length r.rest) 4 then Err (error.EventSize r.header.event_size) else summed (is_checked r) (summed_head r) (little_number 4 (drop n r.rest)) (take n r.rest)

-- ---- what an event is

-- position: where it begins in the file.
-- body: the bytes after the header, without the checksum after them.
-- rows: what is needed to read the body of a rows event; none for events of other types.
-- description, table: what the body says, if it is a format description or a table map event.
pub record Event : Type 0 where
  pub position : ℕ
  pub header : Header
  pub body : List ℕ
  pub checksum : Option ℕ
  pub rows : Option RowsEventCtx
  pub description : Option Description
  pub table : Option TableMap

-- where an event comes from
abbrev pub origin_of : Event → Origin
origin_of e = record { position = e.position; timestamp = e.header.timestamp; server_id = e.header.server_id }

-- what the changes of a file need of an event
pub record Glance : Type 0 where
  pub origin : Origin
  pub header : Header
  pub rows : Option RowsEventCtx
  pub body : List ℕ

abbrev pub glance_of : Event → Glance
glance_of e = record { origin = origin_of e; header = e.header; rows = e.rows; body = e.body }

-- the event is neither a format description nor a table map event
abbrev pub is_plain : Raw → Bool
is_plain r = not (nat_eq r.header.event_type 0x0F) && not (nat_eq r.header.event_type 0x13)

-- events that hold rows, or hide them, and aren't read: the rows events of MySQL before 5.1.16, a
-- compressed transaction, and MariaDB's compressed rows events
abbrev pub has_unread_rows : ℕ → Bool
has_unread_rows type = (nat_lt 0x13 type && nat_lt type 0x17) || nat_eq type 0x28 || (nat_lt 0xA5 type && nat_lt type 0xAC)

-- the types of MySQL up to GTID_TAGGED_LOG_EVENT, and MariaDB's ANNOTATE_ROWS_EVENT,
-- BINLOG_CHECKPOINT_EVENT, GTID_EVENT, GTID_LIST_EVENT and QUERY_COMPRESSED_EVENT
abbrev pub is_known : ℕ → Bool
is_known type = nat_lt type 0x2B || (nat_lt 0x9F type && nat_lt type 0xA4) || nat_eq type 0xA5

-- Whether the event can be read, or passed over. MariaDB's START_ENCRYPTION_EVENT (0xA4), after which a
-- file is encrypted, is passed over with the flag LOG_EVENT_IGNORABLE_F alone: so a server writes it to a
-- client, and the rest plain.
abbrev pub is_supported : Header → Bool
is_supported h = not (has_unread_rows h.event_type) && (is_known h.event_type || is_ignorable h)

-- the type of a rows event
abbrev pub rows_type : ℕ → Option EventType
rows_type n =
    if nat_eq n 0x17 then Some types.WRITE_ROWS_EVENT_V1
    else if nat_eq n 0x18 then Some types.UPDATE_ROWS_EVENT_V1
    else if nat_eq n 0x19 then Some types.DELETE_ROWS_EVENT_V1
    else if nat_eq n 0x1E then Some types.WRITE_ROWS_EVENT
    else if nat_eq n 0x1F then Some types.UPDATE_ROWS_EVENT
    else if nat_eq n 0x20 then Some types.DELETE_ROWS_EVENT
    else if nat_eq n 0x27 then Some types.PARTIAL_UPDATE_ROWS_EVENT
    else None

-- what is needed to read the body of a rows event; none for any other type
unfoldable pub rows_ctx : Description → ℕ → Option RowsEventCtx
rows_ctx d n = option_map (λ type. record {
  event_type = type;
  post_header_len = post_header_len d n;
  write_rows_post_header_len = post_header_len d 0x1E;
}) (rows_type n)

abbrev pub plain : ℕ → Header → Parts → Option RowsEventCtx → Event
plain at h p rows = record {
  position = at;
  header = h;
  body = p.body;
  checksum = p.checksum;
  rows = rows;
  description = None;
  table = None;
}

abbrev pub with_description : ℕ → Header → Parts → Description → Event
with_description at h p d = record {
  position = at;
  header = h;
  body = p.body;
  checksum = p.checksum;
  rows = None;
  description = Some d;
  table = None;
}

abbrev pub with_table : ℕ → Header → Parts → TableMap → Event
with_table at h p t = record {
  position = at;
  header = h;
  body = p.body;
  checksum = p.checksum;
  rows = None;
  description = None;
  table = Some t;
}

-- the event that names the file which follows: a server begins a stream with one
abbrev pub is_rotate : Header → Bool
is_rotate h = nat_eq h.event_type 0x04

-- An event that is no format description. Before the first description only the names of files may
-- come: their bodies aren't read, and whether a checksum ends them isn't known.
abbrev pub other_event : ℕ → Option Description → Header → Parts → FormatOf EventError Event
other_event at None h p = choice (is_rotate h) (no_bytes (plain at h p None)) (refusal error.NoDescription)
other_event at (Some d) h p =
    choice (nat_eq h.event_type 0x13)
    (map_value (map_fault (all_of p.body (table_map_of d.server (post_header_len d 0x13))) error.TableMap) (with_table at h p))
    (choice (is_supported h) (no_bytes (plain at h p (rows_ctx d h.event_type))) (refusal (error.NotSupported h.event_type)))

-- what the bytes of an event say: the checksum is right, and then its body is read
abbrev pub event_of_raw : ℕ → Option Description → Raw → FormatOf EventError Event
event_of_raw at in_force r =
    sequence (check (parts_of (has_checksum in_force r) r)) (λ p.
    choice (is_description r)
    (map_value (all_of p.body (description (length p.body))) (with_description at r.header p))
    (other_event at in_force r.header p))

-- An event that begins at a position, after the description that is in force: the header, and as many
-- bytes after it as it says.
unfoldable pub event : ℕ → Option Description → FormatOf EventError Event
event at in_force = sequence raw_event (event_of_raw at in_force)

-- ---- the events of a file

-- the description that is in force after an event
abbrev pub after : Option Description → Event → Option Description
after d e = if_described e.description d
  where
    if_described : Option Description → Option Description → Option Description
    if_described None d = d
    if_described (Some new) d = Some new

-- From a position on, the bytes are these events, one after the other, and then nothing; or bytes that
-- begin with no event, with this error.
abbrev pub AreEvents : ℕ → Option Description → List ℕ → List Event → Option FileError → Type 0
AreEvents at d x [] None = x ≡ []
AreEvents at d x [] (Some e) = (x ≢ []) × (e.position ≡ at) × (event at d).refuses x e.error
AreEvents at d x (e ∷ es) end = (y z : List ℕ) × (x ≡ y ++ z) × (event at d).spells y e × AreEvents (at + length y) (after d e) z es end

abbrev pub magic : List ℕ
magic = 0xFE ∷ 0x62 ∷ 0x69 ∷ 0x6E ∷ []

abbrev pub magic_of_encrypted : List ℕ
magic_of_encrypted = 0xFD ∷ 0x62 ∷ 0x69 ∷ 0x6E ∷ []

abbrev pub is_binlog : List ℕ → Bool
is_binlog x = starts_with nat_eq x magic

-- the error of a file that is no binlog file
abbrev pub no_binlog : List ℕ → FileError
no_binlog x = record {
  position = 0;
  error = if starts_with nat_eq x magic_of_encrypted then error.Encrypted else error.NotABinlogFile;
}

-- the events of a file, and the error that follows them
abbrev pub AreEventsOfFile : List ℕ → List Event → Option FileError → Type 0
AreEventsOfFile x es end = MatchBool (is_binlog x) (AreEvents 4 None (drop 4 x) es end) ((es ≡ []) × (end ≡ Some (no_binlog x)))

-- ---- a reading of the events

-- where a reading is: the bytes that are left, their position in the file, and the description that is
-- in force
pub record Place : Type 0 where
  pub left : List ℕ
  pub at : ℕ
  pub in_force : Option Description

abbrev pub first_place : List ℕ → Place
first_place x = record { left = drop 4 x; at = 4; in_force = None }

-- the events that are left at a place
abbrev pub AreLeft : Place → List Event → Option FileError → Type 0
AreLeft p es end = AreEvents p.at p.in_force p.left es end

-- The event at the start of the bytes, which leaves the bytes after it; nothing if there are none; or
-- the error, which leaves none.
abbrev pub NextGives : Place → Option (Result Event FileError) → Place → Type 0
NextGives p None q = (p.left ≡ []) × (q.left ≡ [])
NextGives p (Some (Ok e)) q = (y : List ℕ) × (p.left ≡ y ++ q.left) × (event p.at p.in_force).spells y e × (q.at ≡ p.at + length y) × (q.in_force ≡ after p.in_force e)
NextGives p (Some (Err e)) q = (p.left ≢ []) × (q.left ≡ []) × (e.position ≡ p.at) × (event p.at p.in_force).refuses p.left e.error

-- each event takes at least 19 bytes; an error takes all of them
abbrev pub Shrinks : List ℕ → Option (Result Event FileError) → List ℕ → Type 0
Shrinks old None new = (old ≡ []) × (new ≡ [])
Shrinks old (Some (Ok e)) new = length new + 19 ≤ length old
Shrinks old (Some (Err e)) new = (0 < length old) × (new ≡ [])

pub record Steps (p : Place) (r : Option (Result Event FileError)) (q : Place) : Type 0 where
  pub gives : NextGives p r q
  pub shrinks : Shrinks p.left r q.left

-- whatever is left at the place, follows these events of the file
pub record SoFar (x : List ℕ) (es : List Event) (p : Place) : Type 0 where
  pub magic : is_binlog x ≡ true
  pub whole : (more : List Event) (end : Option FileError) → AreLeft p more end → AreLeft (first_place x) (es ++ more) end
