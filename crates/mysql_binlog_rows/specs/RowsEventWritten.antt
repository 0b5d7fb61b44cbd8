-- What is written of a rows event.
use Rattle.std.specs.Prelude.{◌≡◌, ◌≢◌, ℕ, ◌+◌, ◌<◌, ◌≤◌, ◌^◌, ◌==◌, Bool, false, List, [], ◌++◌, length, Option, Some, None, Ok, if◌then◌else◌}
use Rattle.std.specs.Option.{ForSome, is_some}
use Rattle.binlog_base.specs.Endian.{little_bytes}
use Rattle.binlog_base.specs.Numbers.{lenenc_bytes}
use Rattle.binlog_base.specs.Bits.{bitmap_len}
use Rattle.mysql_binlog_rows.specs.declared.rows_event.event.RowsEventCtx.{RowsEventCtx}
use Rattle.mysql_binlog_rows.specs.RowsEvent.{RowsEvent, has_before, has_after, rows_event, writes_extra_data}

-- the bits of an image: they are there where the event's type has the image, in as many bytes as
-- they take
pub record IsBitmap (is_there : Bool) (count : ℕ) (bits : Option (List ℕ)) : Type 0 where
  pub there : is_some bits ≡ is_there
  pub len : ForSome bits (λ b. length b ≡ bitmap_len count)

-- Which parts an event can have: numbers of their widths, extra data whose length fits in two bytes
-- with these two, and a bit for each column in each image that the event's type has.
pub record IsRowsEvent (e : RowsEvent) : Type 0 where
  pub table_id : e.table_id < 256 ^ 6
  pub flags : e.flags < 256 ^ 2
  pub extra_data : length e.extra_data ≤ 65533
  pub num_columns : e.num_columns < 256 ^ 8
  pub before : IsBitmap (has_before e.event_type) e.num_columns e.before
  pub after : IsBitmap (has_after e.event_type) e.num_columns e.after
  pub rows_data : length e.rows_data < 256 ^ 8

-- extra data after its length with the two bytes of the length, or nothing
unfoldable pub extra_data_bytes : Bool → List ℕ → List ℕ
extra_data_bytes is_written extra = if is_written then little_bytes 2 (length extra + 2) ++ extra else []

-- the bitmap of an image; no bytes where the event doesn't have the image
abbrev pub bitmap_bytes : Option (List ℕ) → List ℕ
bitmap_bytes None = []
bitmap_bytes (Some bits) = bits

-- From the count of the columns on: the count, the bits of the images that are there, and the rows
-- data.
unfoldable pub columns_bytes : RowsEvent → List ℕ
columns_bytes e = lenenc_bytes e.num_columns ++ (bitmap_bytes e.before ++ (bitmap_bytes e.after ++ e.rows_data))

-- The bytes of an event: the table id in six bytes, the flags in two, extra data for four of the
-- types alone, and the columns.
unfoldable pub written_rows_event : RowsEvent → List ℕ
written_rows_event e = little_bytes 6 e.table_id ++ (little_bytes 2 e.flags ++ (extra_data_bytes (writes_extra_data e.event_type) e.extra_data ++ columns_bytes e))

-- a reading with a table id of six bytes, which takes extra data exactly for the types that write
-- it
pub record ReadsAsWritten (ctx : RowsEventCtx) : Type 0 where
  pub six_bytes : ctx.post_header_len ≢ 6
  pub extra_data : (ctx.post_header_len == ctx.write_rows_post_header_len) ≡ writes_extra_data ctx.event_type

-- an event of another type has no extra data that writing would lose
abbrev pub KeepsExtraData : RowsEvent → Type 0
KeepsExtraData e = writes_extra_data e.event_type ≡ false → e.extra_data ≡ []

-- ---- the laws

-- What is written of an event spells it, for each such reading of its type.
abbrev pub WrittenEventsSpellThemselves : Type 0
WrittenEventsSpellThemselves = (e : RowsEvent) → IsRowsEvent e → KeepsExtraData e → (ctx : RowsEventCtx) → ctx.event_type ≡ e.event_type → ReadsAsWritten ctx → (rows_event ctx).spells (written_rows_event e) e

-- An event has the type that it was read with. Where extra data was taken exactly for the types
-- that write it, none is lost.
abbrev pub ReadEventsKeepExtraData : Type 0
ReadEventsKeepExtraData = (ctx : RowsEventCtx) (x : List ℕ) (e : RowsEvent) → (rows_event ctx).spells x e → (ctx.post_header_len == ctx.write_rows_post_header_len) ≡ writes_extra_data ctx.event_type → (e.event_type ≡ ctx.event_type) × KeepsExtraData e

-- So an event that was read is written as bytes that are read as the same event, all of them.
abbrev pub WrittenEventsReadBack : Type 0
WrittenEventsReadBack = (old new : RowsEventCtx) (x : List ℕ) (e : RowsEvent) → (rows_event old).spells x e → (old.post_header_len == old.write_rows_post_header_len) ≡ writes_extra_data old.event_type
    → new.event_type ≡ old.event_type → ReadsAsWritten new → IsRowsEvent e → (rows_event new).parse (written_rows_event e) ≡ Ok (e, [])
