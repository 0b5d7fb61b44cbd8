-- The metadata of each column of a table map event: its chunk of the columns' metadata.
use Rattle.std.specs.Prelude.{◌≡◌, ℕ, zero, suc, List, [], ◌∷◌, ◌++◌, length, take, Result, Ok, Err, Option, Some, None, option_and_then}
use Rattle.binlog_base.specs.declared.below.columns.column_type.ColumnType.{ColumnType}
use Rattle.binlog_base.specs.declared.below.columns.column_type.ColumnType.TheVariants as column
use Rattle.binlog_base.specs.declared.fault.Fault.{Fault}
use Rattle.binlog_base.specs.declared.fault.Fault.TheVariants.{Unhandled}
use Rattle.binlog_base.specs.Format.{Format, take_bytes, no_bytes, refusal, sequence, map_value}
use Rattle.binlog_base.specs.Numbers.{little_endian}
use Rattle.binlog_base.specs.ColumnTypes.{column_type_of}

-- how many bytes of metadata a column of a type has; TYPED_ARRAY is defined below
abbrev pub metadata_len : ColumnType → ℕ
metadata_len column.MYSQL_TYPE_FLOAT = 1
metadata_len column.MYSQL_TYPE_DOUBLE = 1
metadata_len column.MYSQL_TYPE_TINY_BLOB = 1
metadata_len column.MYSQL_TYPE_MEDIUM_BLOB = 1
metadata_len column.MYSQL_TYPE_LONG_BLOB = 1
metadata_len column.MYSQL_TYPE_BLOB = 1
metadata_len column.MYSQL_TYPE_GEOMETRY = 1
metadata_len column.MYSQL_TYPE_JSON = 1
metadata_len column.MYSQL_TYPE_VECTOR = 1
metadata_len column.MYSQL_TYPE_TIMESTAMP2 = 1
metadata_len column.MYSQL_TYPE_DATETIME2 = 1
metadata_len column.MYSQL_TYPE_TIME2 = 1
metadata_len column.MYSQL_TYPE_VARCHAR = 2
metadata_len column.MYSQL_TYPE_VAR_STRING = 2
metadata_len column.MYSQL_TYPE_STRING = 2
metadata_len column.MYSQL_TYPE_ENUM = 2
metadata_len column.MYSQL_TYPE_SET = 2
metadata_len column.MYSQL_TYPE_BIT = 2
metadata_len column.MYSQL_TYPE_NEWDECIMAL = 2
metadata_len _ = 0

-- The metadata of the type inside a TYPED_ARRAY: VARCHAR has 3 bytes there. An array in an array is
-- not supported.
abbrev pub inner_metadata : ColumnType → Format (List ℕ)
inner_metadata column.MYSQL_TYPE_VARCHAR = take_bytes 3
inner_metadata column.MYSQL_TYPE_TYPED_ARRAY = refusal Unhandled
inner_metadata type = take_bytes (metadata_len type)

-- the metadata after the inner type byte of a TYPED_ARRAY; an unknown inner type gives its fault
abbrev pub array_metadata : Result ColumnType Fault → Format (List ℕ)
array_metadata (Ok inner) = inner_metadata inner
array_metadata (Err e) = refusal e

-- the chunk of a TYPED_ARRAY: the type byte of the inner type and the inner type's metadata
abbrev pub array_chunk : Format (List ℕ)
array_chunk = sequence (little_endian 1) (λ inner. map_value (array_metadata (column_type_of inner)) (λ metadata. inner ∷ metadata))

-- the chunk of a column of a type
abbrev pub type_chunk : ColumnType → Format (List ℕ)
type_chunk column.MYSQL_TYPE_TYPED_ARRAY = array_chunk
type_chunk type = take_bytes (metadata_len type)

-- the chunk of a column by its type byte; an unknown type gives its fault
abbrev pub chunk_of_type : Result ColumnType Fault → Format (List ℕ)
chunk_of_type (Ok type) = type_chunk type
chunk_of_type (Err e) = refusal e

-- the chunk of a column with this type byte
unfoldable pub chunk : ℕ → Format (List ℕ)
chunk raw_type = chunk_of_type (column_type_of raw_type)

-- the chunks of columns with these type bytes, one after the other
abbrev pub chunks : List ℕ → Format (List (List ℕ))
chunks [] = no_bytes []
chunks (raw_type ∷ types) = sequence (chunk raw_type) (λ first. map_value (chunks types) (λ others. first ∷ others))

-- Column i has the chunk `last`: the metadata begins with the chunks of the columns 0 to i, of
-- which it is the last.
pub record HasChunk (types metadata : List ℕ) (i : ℕ) (last : List ℕ) : Type 0 where
  pub front : List ℕ
  pub after : List ℕ
  pub whole : metadata ≡ front ++ after
  pub before : List (List ℕ)
  pub count : length before ≡ i
  pub spelled : (chunks (take (suc i) types)).spells front (before ++ last ∷ [])

-- the chunk that was read, if it could be
abbrev pub first_chunk : Result (List ℕ × List ℕ) Fault → Option (List ℕ)
first_chunk (Ok r) = Some r.0
first_chunk (Err e) = None

-- what is found in the metadata after a chunk that could be read
abbrev pub after_chunk : {A : Type 0} → Result (List ℕ × List ℕ) Fault → (List ℕ → Option A) → Option A
after_chunk (Ok r) f = f r.1
after_chunk (Err e) f = None

-- the chunk of column i as a function: that of the first column, or one in the metadata after it
abbrev pub chunk_at : List ℕ → List ℕ → ℕ → Option (List ℕ)
chunk_at [] metadata i = None
chunk_at (raw_type ∷ types) metadata zero = first_chunk ((chunk raw_type).parse metadata)
chunk_at (raw_type ∷ types) metadata (suc i) = after_chunk ((chunk raw_type).parse metadata) (λ after. chunk_at types after i)

-- A walk over the columns: the type bytes of the columns that are left, and the metadata that is
-- left for them, or None after a column without a chunk.
pub record ChunksLeft : Type 0 where
  pub types : List ℕ
  pub metadata : Option (List ℕ)

-- the chunk of the column that comes i columns after the next one
abbrev pub chunk_left : ChunksLeft → ℕ → Option (List ℕ)
chunk_left left i = option_and_then (λ metadata. chunk_at left.types metadata i) left.metadata

-- the chunk of the next column, by its type and the metadata that is left
abbrev pub typed_chunk : ColumnType → Option (List ℕ) → Option (List ℕ)
typed_chunk type metadata = option_and_then (λ m. first_chunk ((type_chunk type).parse m)) metadata

-- the metadata that is left after it
abbrev pub after_typed : ColumnType → Option (List ℕ) → Option (List ℕ)
after_typed type metadata = option_and_then (λ m. after_chunk ((type_chunk type).parse m) Some) metadata
