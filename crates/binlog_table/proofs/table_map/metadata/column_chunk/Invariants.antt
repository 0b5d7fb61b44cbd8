use Rattle.std.proofs.Common.{◌≡◌, ◌-◌, ◌≤◌, drop}
use Rattle.binlog_table.specs.Chunks.{chunk_at}
use Rattle.binlog_table.proofs.table_map.metadata.column_chunk.Given as goal

abbrev pub invariant-loop-i : goal.invariant-loop-i
invariant-loop-i l = record {
  before : l.i ≤ l.index;
  after : chunk_at (drop l.i l.types) l.buf.0.now (l.index - l.i) ≡ chunk_at l.types l.metadata l.index;
}
