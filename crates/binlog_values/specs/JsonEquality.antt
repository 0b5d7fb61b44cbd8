-- When two values of binary JSON, or two diffs, are equal.
use Rattle.std.specs.Prelude.{ℕ, ℤ, pos, Bool, true, false, List, [], ◌==◌, ◌&&◌}
use Rattle.std.specs.Ordering.{int_eq, on}
use Rattle.std.specs.Option.{option_eq}
use Rattle.std.specs.Cmp.Lexicographic.{pointwise}
use Rattle.binlog_base.specs.ColumnTypes.{column_number}
use Rattle.binlog_values.specs.declared.jsondiff.JsonDiffOperation.{JsonDiffOperation}
use Rattle.binlog_values.specs.declared.jsondiff.JsonDiffOperation.TheVariants as operation
use Rattle.binlog_values.specs.JsonbValues.{JsonbValue, scalar, nested, Null, Boolean, I16, U16, I32, U32, I64, U64, F64, Text, Opaque}
use Rattle.binlog_values.specs.JsonDiffs.{Diff}

-- The parts of a value: the number of its type; its number, which for a literal is the literal's,
-- for a container the count of its elements, and for an opaque value that of its column type; and
-- its bytes.
pub record Parts : Type 0 where
  pub type : ℕ
  pub number : ℤ
  pub bytes : List ℕ

-- the number of a container's type, by whether it is an array and whether it is large
abbrev pub container_type : Bool → Bool → ℕ
container_type false false = 0
container_type false true = 1
container_type true false = 2
container_type true true = 3

abbrev pub parts : ℕ → ℤ → List ℕ → Parts
parts type number bytes = record { type = type; number = number; bytes = bytes }

-- the parts of a value
abbrev pub parts_of : JsonbValue → Parts
parts_of (nested c) = parts (container_type c.is_array c.is_large) (pos c.count) c.bytes
parts_of (scalar Null) = parts 4 (pos 0) []
parts_of (scalar (Boolean true)) = parts 4 (pos 1) []
parts_of (scalar (Boolean false)) = parts 4 (pos 2) []
parts_of (scalar (I16 n)) = parts 5 n []
parts_of (scalar (U16 n)) = parts 6 (pos n) []
parts_of (scalar (I32 n)) = parts 7 n []
parts_of (scalar (U32 n)) = parts 8 (pos n) []
parts_of (scalar (I64 n)) = parts 9 n []
parts_of (scalar (U64 n)) = parts 10 (pos n) []
parts_of (scalar (F64 bits)) = parts 11 (pos bits) []
parts_of (scalar (Text bytes)) = parts 12 (pos 0) bytes
parts_of (scalar (Opaque type bytes)) = parts 15 (pos (column_number type)) bytes

-- the parts are the same
abbrev pub same_parts : Parts → Parts → Bool
same_parts p q = p.type == q.type && int_eq p.number q.number && pointwise ◌==◌ p.bytes q.bytes

-- the two values have the same parts
abbrev pub same_json : JsonbValue → JsonbValue → Bool
same_json = on parts_of same_parts

abbrev pub operation_number : JsonDiffOperation → ℕ
operation_number operation.REPLACE = 0
operation_number operation.INSERT = 1
operation_number operation.REMOVE = 2

-- the two diffs have the same operation, the same path, and the same value, if any
abbrev pub same_diff : Diff → Diff → Bool
same_diff d e = operation_number d.operation == operation_number e.operation && pointwise ◌==◌ d.path e.path && option_eq same_json d.value e.value
