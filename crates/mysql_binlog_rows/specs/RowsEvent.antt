-- The layout of a rows event of MySQL's binary log.
use Rattle.std.specs.Prelude.{◌≡◌, ◌++◌, ℕ, ◌+◌, ◌-◌, ◌^◌, ◌==◌, min, Bool, true, false, List, [], length, Option, Some, None}
use Rattle.std.specs.Bool.{beq}
use Rattle.std.specs.Option.{option_map}
use Rattle.std.specs.Cmp.Lexicographic.{pointwise}
use Rattle.binlog_base.specs.declared.bits.BitOrder.TheVariants.{LeastSignificantFirst}
use Rattle.binlog_base.specs.Format.{Format, take_bytes, no_bytes, sequence, map_value, choice, all_left}
use Rattle.binlog_base.specs.Numbers.{little_endian, lenenc, lenenc_bytes}
use Rattle.binlog_base.specs.Bits.{bits_of, bitmap_len}
use Rattle.binlog_consts.specs.declared.consts.event_type.EventType.{EventType}
use Rattle.mysql_binlog_rows.specs.declared.rows_event.event.RowsEventCtx.{RowsEventCtx}
use Rattle.binlog_consts.specs.declared.consts.event_type.EventType.TheVariants as event
use Rattle.binlog_table.specs.TableMap.{table_id}

-- whether the events of a type have images before the change: updates and deletes have
abbrev pub has_before : EventType → Bool
has_before event.UPDATE_ROWS_EVENT = true
has_before event.UPDATE_ROWS_EVENT_V1 = true
has_before event.PARTIAL_UPDATE_ROWS_EVENT = true
has_before event.DELETE_ROWS_EVENT = true
has_before event.DELETE_ROWS_EVENT_V1 = true
has_before _ = false

-- whether the events of a type have images after the change: all but deletes have
abbrev pub has_after : EventType → Bool
has_after event.DELETE_ROWS_EVENT = false
has_after event.DELETE_ROWS_EVENT_V1 = false
has_after _ = true

-- whether the images after the change have options
abbrev pub has_options : EventType → Bool
has_options event.PARTIAL_UPDATE_ROWS_EVENT = true
has_options _ = false

-- the types whose events are written with extra data
abbrev pub writes_extra_data : EventType → Bool
writes_extra_data event.WRITE_ROWS_EVENT = true
writes_extra_data event.UPDATE_ROWS_EVENT = true
writes_extra_data event.DELETE_ROWS_EVENT = true
writes_extra_data event.PARTIAL_UPDATE_ROWS_EVENT = true
writes_extra_data _ = false

-- a rows event, whatever its place in memory
pub record RowsEvent : Type 0 where
  pub event_type : EventType
  pub table_id : ℕ
  pub flags : ℕ
  pub extra_data : List ℕ
  pub num_columns : ℕ
  pub before : Option (List ℕ)
  pub after : Option (List ℕ)
  pub rows_data : List ℕ

-- the extra data: its length in two bytes, which counts these two bytes as well, and the data
unfoldable pub extra_data : Format (List ℕ)
extra_data = sequence (little_endian 2) (λ n. take_bytes (n - 2))

-- the bitmap of an image, a bit for each column, if the event has the image
unfoldable pub bitmap : Bool → ℕ → Format (Option (List ℕ))
bitmap is_there count = choice is_there (map_value (take_bytes (bitmap_len count)) Some) (no_bytes None)

-- The parts of a rows event: the table id, whose length follows from the event's own post-header
-- length; the flags; the extra data if that post-header length is the one of WRITE_ROWS_EVENT; the
-- number of columns; the bitmaps of the images that the type has; and the rows data to the end.
unfoldable pub rows_event : RowsEventCtx → Format RowsEvent
rows_event ctx =
    sequence (table_id ctx.post_header_len) (λ id.
    sequence (little_endian 2) (λ flags.
    sequence (choice (ctx.post_header_len == ctx.write_rows_post_header_len) extra_data (no_bytes [])) (λ extra.
    sequence lenenc (λ count.
    sequence (bitmap (has_before ctx.event_type) count) (λ before.
    sequence (bitmap (has_after ctx.event_type) count) (λ after.
    map_value all_left (λ rows.
    record {
      event_type = ctx.event_type;
      table_id = id;
      flags = flags;
      extra_data = extra;
      num_columns = count;
      before = before;
      after = after;
      rows_data = rows;
    })))))))

-- the last of the bytes are these
abbrev pub EndsWith : List ℕ → List ℕ → Type 0
EndsWith bytes end = (start : List ℕ) × (bytes ≡ start ++ end)

-- which columns are in an image: a bit for each column of the event
abbrev pub image_columns : ℕ → Option (List ℕ) → Option (List Bool)
image_columns count bitmap = option_map (bits_of LeastSignificantFirst count) bitmap

-- whether the event has both images, and they have the same columns
abbrev pub same_columns : Option (List Bool) → Option (List Bool) → Bool
same_columns (Some a) (Some b) = pointwise beq a b
same_columns (Some a) None = false
same_columns None b = false

-- how many bytes the bitmap of an image has; 0 where the event doesn't have the image
abbrev pub bitmap_length : Option (List ℕ) → ℕ
bitmap_length None = 0
bitmap_length (Some bytes) = length bytes

-- The length of an event's body: the table id, the flags and the length of the extra data take 6, 2
-- and 2 bytes. It is at most the greatest length that an event header can give, less the header.
abbrev pub event_len : RowsEvent → ℕ
event_len e =
    min (6 + 2 + 2 + length e.extra_data + length (lenenc_bytes e.num_columns) + bitmap_length e.before + bitmap_length e.after + length e.rows_data) (2 ^ 32 - 1 - 19)
