-- What is written of a table map event.
use Rattle.std.specs.Prelude.{◌≡◌, ℕ, ◌<◌, ◌≤◌, ◌^◌, List, [], ◌∷◌, ◌++◌, length}
use Rattle.binlog_base.specs.Endian.{little_bytes}
use Rattle.binlog_base.specs.Numbers.{lenenc_bytes}
use Rattle.binlog_base.specs.Strings.{u8_string_bytes, lenenc_string_bytes}
use Rattle.binlog_base.specs.Bits.{bitmap_len}
use Rattle.binlog_table.specs.TableMap.{TableMap}

-- Which parts an event can have: a type byte and a null bit for each column, names whose length
-- fits in one byte, and numbers of their widths.
pub record IsTableMap (t : TableMap) : Type 0 where
  pub table_id : t.table_id < 256 ^ 6
  pub flags : t.flags < 256 ^ 2
  pub database : length t.database ≤ 255
  pub table : length t.table ≤ 255
  pub columns_count : t.columns_count < 256 ^ 8
  pub types : length t.types ≡ t.columns_count
  pub metadata : length t.metadata < 256 ^ 8
  pub null_bits : length t.null_bits ≡ bitmap_len t.columns_count
  pub optional_metadata : length t.optional_metadata < 256 ^ 8

-- a name after its length in one byte, and a zero byte
unfoldable pub name_bytes : List ℕ → List ℕ
name_bytes name = u8_string_bytes name ++ 0 ∷ []

-- From the count of the columns on: the count, their types, their metadata after its length, their
-- null bits, the optional metadata.
unfoldable pub columns_bytes : TableMap → List ℕ
columns_bytes t = lenenc_bytes t.columns_count ++ (t.types ++ (lenenc_string_bytes t.metadata ++ (t.null_bits ++ t.optional_metadata)))

-- The bytes of an event: the table id in six bytes, the flags in two, both names, and the columns.
unfoldable pub written_table_map : TableMap → List ℕ
written_table_map t = little_bytes 6 t.table_id ++ (little_bytes 2 t.flags ++ (name_bytes t.database ++ (name_bytes t.table ++ columns_bytes t)))
