-- The scalars of a tree.
use Rattle.std.proofs.Common.{◌≡◌, ℕ, false, List, length, Result, Ok, Err, refl}
use Rattle.std.specs.Prelude.{nat_lt, ℤ}
use Rattle.std.specs.Str.{is_utf8}
use Rattle.byteorder.specs.Endian.{little_number, twos_complement}
use Rattle.binlog_base.specs.declared.below.columns.column_type.ColumnType.{ColumnType}
use Rattle.binlog_base.specs.declared.below.columns.column_type.ColumnType.TheVariants as column
use Rattle.binlog_base.specs.declared.fault.Fault.{Fault}
use Rattle.binlog_base.specs.declared.fault.Fault.TheVariants.{InvalidUtf8, OpaqueTooShort}
use Rattle.binlog_base.specs.Faults.{OfBytes}
use Rattle.binlog_base.specs.Format.{Format, IsExact}
use Rattle.binlog_base.specs.Lemmas.Faults.{bind_of_bytes, cond_of_bytes}
use Rattle.binlog_decimal.specs.declared.time.MysqlTime.{MysqlTime}
use Rattle.binlog_decimal.specs.PackedDecimals.{counted_decimal}
use Rattle.binlog_decimal.specs.Times.{date_of, time_of, datetime_of}
use Rattle.binlog_decimal.specs.Lemmas.PackedDecimals.{exact_counted_decimal}
use Rattle.binlog_values.specs.JsonbValues.{Scalar, Null, Boolean, I16, U16, I32, U32, I64, U64, F64, Text, Opaque}
use Rattle.binlog_values.specs.JsonbTrees.{text, decimal, date_time, packed_number, packed_time, opaque_scalar, tree_scalar}

parse_of_bytes : {A : Type 0} (f : Format A) → IsExact f → (x : List ℕ) (r : Result (A × List ℕ) Fault) → f.parse x ≡ r → OfBytes r
parse_of_bytes f exact x (Ok p) h = tt
parse_of_bytes f exact x (Err e) h = exact.of_bytes x e (exact.refused_sound x e h)

time_of_bytes : (time : ℤ → MysqlTime) (bytes : List ℕ) → OfBytes (packed_time time bytes)
time_of_bytes time bytes =
    let number : Result ℤ Fault = Ok (twos_complement 8 (little_number 8 bytes)) in
    bind_of_bytes (packed_number bytes) (λ z. Ok (date_time (time z))) (cond_of_bytes (nat_lt (length bytes) 8) (Err OpaqueTooShort) number refl tt) (λ z. tt)

opaque_of_bytes : (type : ColumnType) (bytes : List ℕ) → OfBytes (opaque_scalar type bytes)
unfolding opaque_scalar
opaque_of_bytes column.MYSQL_TYPE_NEWDECIMAL bytes =
    bind_of_bytes ((counted_decimal false).parse bytes) (λ d. Ok (decimal d.0)) (parse_of_bytes (counted_decimal false) (exact_counted_decimal false) bytes _ refl) (λ d. tt)
opaque_of_bytes column.MYSQL_TYPE_DATE bytes = time_of_bytes date_of bytes
opaque_of_bytes column.MYSQL_TYPE_TIME bytes = time_of_bytes time_of bytes
opaque_of_bytes column.MYSQL_TYPE_DATETIME bytes = time_of_bytes datetime_of bytes
opaque_of_bytes column.MYSQL_TYPE_TIMESTAMP bytes = time_of_bytes datetime_of bytes
opaque_of_bytes _ bytes = tt

-- a scalar's fault is one that bytes can have
pub scalar_of_bytes : (s : Scalar) → OfBytes (tree_scalar s)
unfolding tree_scalar
scalar_of_bytes Null = tt
scalar_of_bytes (Boolean b) = tt
scalar_of_bytes (I16 n) = tt
scalar_of_bytes (U16 n) = tt
scalar_of_bytes (I32 n) = tt
scalar_of_bytes (U32 n) = tt
scalar_of_bytes (I64 n) = tt
scalar_of_bytes (U64 n) = tt
scalar_of_bytes (F64 bits) = tt
scalar_of_bytes (Text bytes) = cond_of_bytes (is_utf8 bytes) (Ok (text bytes)) (Err InvalidUtf8) tt refl
scalar_of_bytes (Opaque type bytes) = opaque_of_bytes type bytes
