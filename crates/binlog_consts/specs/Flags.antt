-- The flags of each flags type by their names, and the conversion of a number to flags.
use Rattle.std.specs.Prelude.{ℕ, List, [], ◌∷◌, ◌==◌, if◌then◌else◌, codes, Result, Ok, Err}
use Rattle.std.specs.Int.RustNames.{bit_and}
use Rattle.bitflags.specs.Sets.{Row, known_bits}
use Rattle.binlog_consts.specs.declared.consts.flags.EventFlags.{EventFlags}
use Rattle.binlog_consts.specs.declared.consts.flags.SemiSyncFlags.{SemiSyncFlags}
use Rattle.binlog_consts.specs.declared.consts.flags.GtidFlags.{GtidFlags}
use Rattle.binlog_consts.specs.declared.consts.flags.RowsEventFlags.{RowsEventFlags}
use Rattle.binlog_consts.specs.declared.consts.flags.UserVarFlags.{UserVarFlags}

-- the conversion of a number to flags: the flags with its bits, or an error that holds the number
-- where a bit is set that the table doesn't have
abbrev pub known_flags : {F E : Type 0} → List Row → (ℕ → F) → (ℕ → E) → ℕ → Result F E
known_flags table flags refused n = if bit_and n (known_bits table) == n then Ok (flags n) else Err (refused n)

-- the flags in an event's header
abbrev pub event_flags : List Row
event_flags =
    (codes "LOG_EVENT_BINLOG_IN_USE_F", 0x0001)
    ∷ (codes "LOG_EVENT_FORCED_ROTATE_F", 0x0002)
    ∷ (codes "LOG_EVENT_THREAD_SPECIFIC_F", 0x0004)
    ∷ (codes "LOG_EVENT_SUPPRESS_USE_F", 0x0008)
    ∷ (codes "LOG_EVENT_UPDATE_TABLE_MAP_VERSION_F", 0x0010)
    ∷ (codes "LOG_EVENT_ARTIFICIAL_F", 0x0020)
    ∷ (codes "LOG_EVENT_RELAY_LOG_F", 0x0040)
    ∷ (codes "LOG_EVENT_IGNORABLE_F", 0x0080)
    ∷ (codes "LOG_EVENT_NO_FILTER_F", 0x0100)
    ∷ (codes "LOG_EVENT_MTS_ISOLATE_F", 0x0200)
    ∷ []

-- the flags that come before an event under semi-synchronous replication
abbrev pub semi_sync_flags : List Row
semi_sync_flags =
    (codes "SEMI_SYNC_ACK_REQ", 0x01)
    ∷ []

-- the flags of a GTID event
abbrev pub gtid_flags : List Row
gtid_flags =
    (codes "MAY_HAVE_SBR", 0x01)
    ∷ []

-- the flags of a rows event
abbrev pub rows_event_flags : List Row
rows_event_flags =
    (codes "STMT_END", 0x0001)
    ∷ (codes "NO_FOREIGN_KEY_CHECKS", 0x0002)
    ∷ (codes "RELAXED_UNIQUE_CHECKS", 0x0004)
    ∷ (codes "COMPLETE_ROWS", 0x0008)
    ∷ []

-- the flags of a user variable
abbrev pub user_var_flags : List Row
user_var_flags =
    (codes "UNSIGNED", 0x01)
    ∷ []

-- ---- the flags of each type with these bits

abbrev pub event_flags_of : ℕ → EventFlags
event_flags_of bits = record { 0 = bits }

abbrev pub semi_sync_flags_of : ℕ → SemiSyncFlags
semi_sync_flags_of bits = record { 0 = bits }

abbrev pub gtid_flags_of : ℕ → GtidFlags
gtid_flags_of bits = record { 0 = bits }

abbrev pub rows_event_flags_of : ℕ → RowsEventFlags
rows_event_flags_of bits = record { 0 = bits }

abbrev pub user_var_flags_of : ℕ → UserVarFlags
user_var_flags_of bits = record { 0 = bits }
