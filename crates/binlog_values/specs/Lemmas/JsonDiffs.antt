-- Reading diffs is exact, and a diff takes at least a byte.
use Rattle.std.specs.Prelude.{ℕ, Some, None}
use Rattle.std.proofs.Common.{refl}
use Rattle.binlog_base.specs.declared.fault.Fault.TheVariants.{UnknownJsonDiffOperation}
use Rattle.binlog_base.specs.Format.{IsExact, check, sequence}
use Rattle.binlog_base.specs.Items.{Eats}
use Rattle.binlog_base.specs.Numbers.{little_endian, lenenc}
use Rattle.binlog_base.specs.Strings.{lenenc_string}
use Rattle.binlog_base.specs.Lemmas.Format.{exact_no_bytes, exact_check, exact_sequence, exact_inside, exact_map_value, exact_choice}
use Rattle.binlog_base.specs.Lemmas.Faults.{fault_of_bytes, table_of_bytes}
use Rattle.binlog_base.specs.Lemmas.Items.{eats_both, eats_little}
use Rattle.binlog_base.specs.Lemmas.Numbers.{exact_little_endian, exact_lenenc}
use Rattle.binlog_base.specs.Lemmas.Strings.{exact_lenenc_string}
use Rattle.binlog_values.specs.declared.jsondiff.JsonDiffOperation.{JsonDiffOperation}
use Rattle.binlog_values.specs.JsonbValues.{json}
use Rattle.binlog_values.specs.Lemmas.JsonbValues.{exact_json}
use Rattle.binlog_values.specs.JsonDiffs.{diff_operations, diff_operation_of, has_value, diff_value, diff_after, diff}

exact_value : IsExact diff_value
unfolding diff_value
exact_value = exact_sequence lenenc _ exact_lenenc (λ n. exact_inside n json exact_json)

exact_operation : (n : ℕ) → IsExact (check (diff_operation_of n))
exact_operation n = exact_check (diff_operation_of n) (λ e h. fault_of_bytes (diff_operation_of n) e (table_of_bytes diff_operations UnknownJsonDiffOperation n refl) h)

exact_rest : (operation : JsonDiffOperation) → IsExact (diff_after operation)
unfolding diff_after
exact_rest operation =
    exact_sequence lenenc_string _ exact_lenenc_string (λ path.
    exact_map_value _ _ (exact_choice (has_value operation) _ _ (exact_map_value diff_value Some exact_value) (exact_no_bytes None)))

exact_typed : (n : ℕ) → IsExact (sequence (check (diff_operation_of n)) diff_after)
exact_typed n = exact_sequence _ _ (exact_operation n) exact_rest

pub exact_diff : IsExact diff
unfolding diff
exact_diff = exact_sequence _ _ (exact_little_endian 1) exact_typed

pub eats_diff : Eats diff
unfolding diff
eats_diff = eats_both (little_endian 1) _ (eats_little 0) exact_typed
