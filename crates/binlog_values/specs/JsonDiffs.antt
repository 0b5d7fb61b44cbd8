-- The diffs of JSON documents, as a partial update has them.
use Rattle.std.specs.Prelude.{ℕ, Bool, true, false, List, [], ◌∷◌, Result, Option, Some, None}
use Rattle.binlog_base.specs.declared.fault.Fault.{Fault}
use Rattle.binlog_base.specs.declared.fault.Fault.TheVariants.{UnknownJsonDiffOperation}
use Rattle.binlog_base.specs.Format.{Format, no_bytes, check, sequence, inside, map_value, choice}
use Rattle.binlog_base.specs.Numbers.{little_endian, lenenc}
use Rattle.binlog_base.specs.Strings.{lenenc_string}
use Rattle.binlog_base.specs.Tables.{from_table}
use Rattle.binlog_values.specs.declared.jsondiff.JsonDiffOperation.{JsonDiffOperation}
use Rattle.binlog_values.specs.declared.jsondiff.JsonDiffOperation.TheVariants as operation
use Rattle.binlog_values.specs.JsonbValues.{JsonbValue, json}

-- the operations by their numbers
abbrev pub diff_operations : List (ℕ × JsonDiffOperation)
diff_operations = (0, operation.REPLACE) ∷ (1, operation.INSERT) ∷ (2, operation.REMOVE) ∷ []

-- the operation of a number, or the number's fault
abbrev pub diff_operation_of : ℕ → Result JsonDiffOperation Fault
diff_operation_of n = from_table diff_operations UnknownJsonDiffOperation n

-- a diff: what is done at a path of a document, and with which value
pub record Diff : Type 0 where
  pub operation : JsonDiffOperation
  pub path : List ℕ
  pub value : Option JsonbValue

-- whether a diff of the operation has a value
abbrev pub has_value : JsonDiffOperation → Bool
has_value operation.REMOVE = false
has_value _ = true

-- the value of a diff: a length-encoded length, and in as many bytes a value of binary JSON
unfoldable pub diff_value : Format JsonbValue
diff_value = sequence lenenc (λ n. inside n json)

-- the path of a diff, with its length before it, and the value, unless the operation is REMOVE
unfoldable pub diff_after : JsonDiffOperation → Format Diff
diff_after operation =
    sequence lenenc_string (λ path.
    map_value (choice (has_value operation) (map_value diff_value Some) (no_bytes None)) (λ value.
    record { operation = operation; path = path; value = value }))

-- a diff: the number of the operation, and what follows by the operation
unfoldable pub diff : Format Diff
diff = sequence (little_endian 1) (λ n. sequence (check (diff_operation_of n)) diff_after)
