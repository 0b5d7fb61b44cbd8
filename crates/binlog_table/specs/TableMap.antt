-- The layout of MySQL's table map event.
use Rattle.std.specs.Prelude.{ℕ, ◌==◌, if◌then◌else◌, List}
use Rattle.binlog_base.specs.Format.{Format, take_bytes, sequence, map_value, all_left}
use Rattle.binlog_base.specs.Numbers.{little_endian, lenenc}
use Rattle.binlog_base.specs.Strings.{u8_string, lenenc_string, skip_bytes}
use Rattle.binlog_base.specs.Bits.{bitmap_len}
use Rattle.binlog_base.specs.declared.below.columns.server.Server.{Server}
use Rattle.binlog_base.specs.declared.below.columns.server.Server.TheVariants.{MySql}

-- A table id takes 4 bytes where the event's post-header has 6 bytes, else 6 bytes; the lowest
-- first.
unfoldable pub table_id : ℕ → Format ℕ
table_id post_header_len = little_endian (if post_header_len == 6 then 4 else 6)

-- a table map event, without its place in memory, and the server by whose groups its optional
-- metadata is read, which no byte tells
pub record TableMap : Type 0 where
  pub server : Server
  pub table_id : ℕ
  pub flags : ℕ
  pub database : List ℕ
  pub table : List ℕ
  pub columns_count : ℕ
  pub types : List ℕ
  pub metadata : List ℕ
  pub null_bits : List ℕ
  pub optional_metadata : List ℕ

-- the same event, read as a server's
abbrev pub of_server : Server → TableMap → TableMap
of_server server t = record t { server = server }

-- the same event without the number of its table and its flags: all that it tells of the table
abbrev pub without_id : TableMap → TableMap
without_id t = record t { table_id = 0; flags = 0 }

-- The parts of a server's event, one after the other: table id, flags, database, any byte, table,
-- any byte, the count of the columns, a type byte for each, the columns' metadata, a null bit for
-- each, and the optional metadata to the end.
unfoldable pub table_map_of : Server → ℕ → Format TableMap
table_map_of server post_header_len =
    sequence (table_id post_header_len) (λ id.
    sequence (little_endian 2) (λ flags.
    sequence u8_string (λ database.
    sequence (skip_bytes 1) (λ _.
    sequence u8_string (λ table.
    sequence (skip_bytes 1) (λ _.
    sequence lenenc (λ count.
    sequence (take_bytes count) (λ types.
    sequence lenenc_string (λ metadata.
    sequence (take_bytes (bitmap_len count)) (λ null_bits.
    map_value all_left (λ optional. record {
      server = server;
      table_id = id;
      flags = flags;
      database = database;
      table = table;
      columns_count = count;
      types = types;
      metadata = metadata;
      null_bits = null_bits;
      optional_metadata = optional;
    })))))))))))

-- the parts of an event of MySQL
abbrev pub table_map : ℕ → Format TableMap
table_map post_header_len = table_map_of MySql post_header_len
