-- The header of an event.
use Rattle.std.specs.Prelude.{ℕ, ◌/◌, ◌%◌, Bool, nat_eq}
use Rattle.binlog_base.specs.Format.{Format, sequence, map_value}
use Rattle.binlog_base.specs.Numbers.{little_endian}

pub record Header : Type 0 where
  pub timestamp : ℕ
  pub event_type : ℕ
  pub server_id : ℕ
  pub event_size : ℕ
  pub log_pos : ℕ
  pub flags : ℕ

-- the time, the type, the server's id, the size of the whole event, the place after it, and the flags
unfoldable pub header : Format Header
header =
    sequence (little_endian 4) (λ timestamp.
    sequence (little_endian 1) (λ event_type.
    sequence (little_endian 4) (λ server_id.
    sequence (little_endian 4) (λ event_size.
    sequence (little_endian 4) (λ log_pos.
    map_value (little_endian 2) (λ flags.
    record {
      timestamp = timestamp;
      event_type = event_type;
      server_id = server_id;
      event_size = event_size;
      log_pos = log_pos;
      flags = flags;
    }))))))

-- LOG_EVENT_BINLOG_IN_USE_F is the lowest bit
abbrev pub in_use : Header → Bool
in_use h = nat_eq (h.flags % 2) 1

-- LOG_EVENT_IGNORABLE_F is the bit 0x80
abbrev pub is_ignorable : Header → Bool
is_ignorable h = nat_eq (h.flags / 0x80 % 2) 1
