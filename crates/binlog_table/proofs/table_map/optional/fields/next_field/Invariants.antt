use Rattle.std.proofs.Common.{◌≡◌, ◌≤◌, length}
use Rattle.binlog_table.specs.Fields.{fields}
use Rattle.binlog_table.proofs.table_map.optional.fields.next_field.Given as goal

abbrev pub invariant-loop-item : goal.invariant-loop-item
invariant-loop-item l = record {
  same : fields (record { numeric = l.numeric; columns = l.columns; left = l.raw }) ≡ fields (record { numeric = l.numeric; columns = l.columns; left = l.fn.raw });
  room : length l.raw.bytes ≤ length l.fn.raw.bytes;
}

abbrev pub decreases-loop-item : goal.decreases-loop-item
decreases-loop-item l = length l.raw.bytes
