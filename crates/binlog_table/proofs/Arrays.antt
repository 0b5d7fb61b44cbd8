-- The chunk of a TYPED_ARRAY is a prefix of the bytes.
use Rattle.std.proofs.Common.{◌≡◌, ℕ, ◌+◌, List, ◌∷◌, ◌++◌, length, take, Ok, refl, sym, ap, ◌∙◌, arith}
use Rattle.std.proofs.lemmas.List.{take_at}
use Rattle.binlog_base.specs.declared.below.columns.column_type.ColumnType.{ColumnType}
use Rattle.binlog_base.specs.declared.below.columns.column_type.ColumnType.TheVariants as column
use Rattle.binlog_base.specs.Format.{take_bytes}
use Rattle.binlog_base.specs.Lemmas.Format.{exact_take_bytes}
use Rattle.binlog_base.specs.Numbers.{little_endian}
use Rattle.binlog_base.specs.ColumnTypes.{column_type_of}
use Rattle.binlog_base.specs.Lemmas.Numbers.{exact_little_endian}
use Rattle.binlog_base.specs.Lemmas.NumbersWritten.{byte_spelled}
use Rattle.binlog_table.specs.Chunks.{metadata_len, inner_metadata, array_chunk}

-- n bytes that were read are a prefix of the bytes
bytes_front : (n : ℕ) (x m left : List ℕ) → (take_bytes n).parse x ≡ Ok (m, left) → x ≡ m ++ left
bytes_front n x m left h =
    let f = (exact_take_bytes n).sound x m left h in
    f.1 ∙ ap (λ (t : List ℕ). t ++ left) (sym f.2.0)

inner_front : (type : ColumnType) (x m left : List ℕ) → (inner_metadata type).parse x ≡ Ok (m, left) → x ≡ m ++ left
inner_front column.MYSQL_TYPE_VARCHAR x m left h = bytes_front 3 x m left h
inner_front column.MYSQL_TYPE_TYPED_ARRAY x m left h = absurd cc
inner_front type x m left h = bytes_front (metadata_len type) x m left h

pub array_front : (type : ColumnType) (x : List ℕ) (b : ℕ) (after m left : List ℕ) → (little_endian 1).parse x ≡ Ok (b, after) → (inner_metadata type).parse after ≡ Ok (m, left) → x ≡ (b ∷ m) ++ left
array_front type x b after m left first second =
    let f = (exact_little_endian 1).sound x b after first in
    f.1 ∙ ap (λ (t : List ℕ). t ++ after) (byte_spelled f.0 b f.2) ∙ ap (λ (t : List ℕ). b ∷ t) (inner_front type after m left second)

pub array_taken : (x : List ℕ) (b : ℕ) (m left : List ℕ) → x ≡ (b ∷ m) ++ left → take (1 + length m) x ≡ b ∷ m
array_taken x b m left h = ap (take (1 + length m)) h ∙ take_at (b ∷ m) left (1 + length m) (omega arith)

-- a read of the byte and of the metadata is a read of the chunk
pub array_reads : (type : ColumnType) (x : List ℕ) (b : ℕ) (after m left : List ℕ) → (little_endian 1).parse x ≡ Ok (b, after) → column_type_of b ≡ Ok type → (inner_metadata type).parse after ≡ Ok (m, left) → array_chunk.parse x ≡ Ok (take (1 + length m) x, left)
array_reads type x b after m left first known second =
    let taken = array_taken x b m left (array_front type x b after m left first second) in
    rw (taken, first, known, second) refl
