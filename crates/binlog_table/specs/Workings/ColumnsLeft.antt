-- The columns that are left, as they are visited in order.
use Rattle.std.specs.Prelude.{◌≡◌, ℕ, zero, suc, ◌+◌, ◌<◌, ◌^◌, Bool, true, false, List, [], ◌∷◌, length, take, Result, Ok, Some, slice_get, if◌then◌else◌}
use Rattle.std.specs.Option.{option_map}
use Rattle.binlog_base.specs.declared.fault.Fault.{Fault}
use Rattle.binlog_base.specs.declared.below.columns.column_type.ColumnType.{ColumnType}
use Rattle.binlog_base.specs.declared.below.columns.server.Server.{Server}
use Rattle.binlog_base.specs.Strings.{lenenc_string}
use Rattle.binlog_base.specs.Items.{items}
use Rattle.binlog_base.specs.Servers.{character_group, enum_or_set_group}
use Rattle.binlog_table.specs.declared.table_map.optional.columns.Walk.{Walk}
use Rattle.binlog_table.specs.declared.table_map.optional.columns.Stretch.{Stretch}
use Rattle.binlog_table.specs.declared.table_map.optional.columns.TableColumn.{TableColumn}
use Rattle.binlog_table.specs.Chunks.{ChunksLeft, chunk_left}
use Rattle.binlog_table.specs.ColumnTypes.{raw_type_of, real_type_of, json_count}
use Rattle.binlog_table.specs.Fields.{is_numeric_number}
use Rattle.binlog_table.specs.Lists.{taken_after}
use Rattle.binlog_table.specs.Workings.KeysLeft.{key_left, keys_taken}
use Rattle.binlog_table.specs.Workings.CharsetsLeft.{row_charset, charsets_taken, NoCharsetsLeft}
use Rattle.binlog_table.specs.TableColumns.{Column, Parts, column_by, columns_by, typed, named, charset_by, ordinal_of}
use Rattle.binlog_table.specs.Steps.{count_to, reads_name, takes_key}

-- a column, without its place in memory
abbrev pub seen_column : TableColumn → Column
seen_column c = record {
  column_type = c.column_type;
  metadata = option_map (λ m. m.now) c.metadata;
  unsigned = c.unsigned;
  charset = c.charset;
  name = c.name;
  is_key = c.is_key;
  json_place = c.json_place;
}

-- the sign bit of the next numeric column; false where none is left
abbrev pub first_bit : List Bool → Bool
first_bit [] = false
first_bit (b ∷ bits) = b

-- the sign bits after that one
abbrev pub bits_after_first : List Bool → List Bool
bits_after_first [] = []
bits_after_first (b ∷ bits) = bits

-- the sign bits that are left after a column: a numeric column takes one
abbrev pub bits_after : Bool → List Bool → List Bool
bits_after true bits = bits_after_first bits
bits_after false bits = bits

-- whether a column is unsigned: a numeric column has the next sign bit
abbrev pub bit_here : Bool → List Bool → Bool
bit_here true bits = first_bit bits
bit_here false bits = false

-- whether the column that comes j columns after the next one is unsigned, by the type bytes and the
-- sign bits that are left
abbrev pub sign_left : Server → List ℕ → List Bool → ℕ → Bool
sign_left server [] bits j = false
sign_left server (raw ∷ types) bits zero = bit_here (is_numeric_number server raw) bits
sign_left server (raw ∷ types) bits (suc j) = sign_left server types (bits_after (is_numeric_number server raw) bits) j

-- the type bytes and the metadata that are left
abbrev pub chunks_of : Walk → ChunksLeft
chunks_of w = record { types = w.types.now; metadata = option_map (λ m. m.now) w.metadata }

-- the real type of the column that comes j columns after the next one
abbrev pub type_left : Walk → ℕ → Result ColumnType Fault
type_left w j = typed (real_type_of (raw_type_of (slice_get w.types.now j)) (chunk_left (chunks_of w) j))

-- the parts of the columns that are left, each by how many columns after the next one it comes
unfoldable pub parts_left : Walk → Parts
parts_left w = record {
  type = type_left w;
  chunk = chunk_left (chunks_of w);
  sign = sign_left w.server w.types.now w.signs;
  charset = charset_by w.server (row_charset w.characters) (row_charset w.enums) (type_left w);
  name = named (items lenenc_string w.names.bytes);
  key = key_left w.column w.keys.keys;
  json_place = λ j. w.json_place + json_count (take j w.types.now);
}

-- after one step, column j is what column j + 1 was before it
pub record Follows (p q : Parts) : Type 0 where
  pub type : (j : ℕ) → q.type j ≡ p.type (suc j)
  pub chunk : (j : ℕ) → q.chunk j ≡ p.chunk (suc j)
  pub sign : (j : ℕ) → q.sign j ≡ p.sign (suc j)
  pub charset : (j : ℕ) → q.charset j ≡ p.charset (suc j)
  pub name : (j : ℕ) → q.name j ≡ p.name (suc j)
  pub key : (j : ℕ) → q.key j ≡ p.key (suc j)
  pub json_place : (j : ℕ) → q.json_place j ≡ p.json_place (suc j)

-- the character set of a column of a type, by those of the next columns of both groups; 0 for a
-- type of neither
abbrev pub charset_here : Server → ColumnType → Result ℕ Fault → Result ℕ Fault → Result ℕ Fault
charset_here server type character enum = if character_group server type then character else (if enum_or_set_group server type then enum else Ok 0)

-- the character sets of a group before and after a column is read: if the column is in the group,
-- one fewer is to come
abbrev pub Advances : Bool → (ℕ → Result ℕ Fault) → (ℕ → Result ℕ Fault) → Type 0
Advances true f g = (k : ℕ) → g k ≡ f (suc k)
Advances false f g = (k : ℕ) → g k ≡ f k

-- the steps so far: one for each field, for each item of the lists, and for each column
abbrev pub steps_of : Walk → ℕ
steps_of w = w.fields + w.column + w.names.taken + w.keys.taken + w.characters.taken + w.enums.taken

-- the steps once n more columns are walked over
unfoldable pub steps_ahead : Walk → ℕ → ℕ
steps_ahead w n =
    let p = parts_left w in
    w.fields + (w.column + n) + taken_after lenenc_string w.names (count_to (reads_name p) n)
    + keys_taken w.keys (count_to (takes_key p) n)
    + charsets_taken w.characters (ordinal_of (character_group w.server) p.type n)
    + charsets_taken w.enums (ordinal_of (enum_or_set_group w.server) p.type n)

-- the most steps without a further column, because each item of the lists takes at least a byte
abbrev pub most_of : Walk → ℕ
most_of w = w.fields + w.column + (w.names.taken + length w.names.bytes) + (w.keys.taken + w.keys.room) + (w.characters.taken + w.characters.room) + (w.enums.taken + w.enums.room)

-- the counts fit, whatever is left
pub record HasRoom (w : Walk) : Type 0 where
  pub characters : w.characters.ordinal + length w.types.now < 2 ^ 64
  pub enums : w.enums.ordinal + length w.types.now < 2 ^ 64
  pub column : w.column + length w.types.now < 2 ^ 64
  pub json_place : w.json_place + length w.types.now < 2 ^ 64

-- nothing is left of the lists of names, keys and character sets
pub record NoListsLeft (w : Walk) : Type 0 where
  pub names : items lenenc_string w.names.bytes ≡ []
  pub keys : w.keys.keys ≡ []
  pub characters : NoCharsetsLeft w.characters
  pub enums : NoCharsetsLeft w.enums

-- a walk n columns later in a stretch of columns that no list tells of, with the sign bits that are
-- left there
abbrev pub walk_at : Walk → ℕ → Stretch → List Bool → Walk
walk_at w n s signs = record w { types = s.types; metadata = Some s.metadata; signs = signs; column = w.column + n; json_place = s.json_place }

-- the columns that are left, up to the first with a fault
unfoldable pub columns_left : Walk → List (Result Column Fault)
columns_left w = columns_by (column_by (parts_left w)) (length w.types.now)

-- the values of a function from 0 to n
abbrev pub values_to : (ℕ → ℕ) → ℕ → List ℕ
values_to f zero = f 0 ∷ []
values_to f (suc n) = f 0 ∷ values_to (λ i. f (suc i)) n

-- the steps once none, one, two and more of the columns that are left are walked over
abbrev pub all_ahead : Walk → List ℕ
all_ahead w = values_to (steps_ahead w) (length (columns_left w))
