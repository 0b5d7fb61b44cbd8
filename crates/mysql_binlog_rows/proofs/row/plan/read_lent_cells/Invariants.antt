use Rattle.std.proofs.Common.{◌≡◌, ◌≤◌, length, drop, vec_len, vec_capacity}
use Rattle.binlog_cells.specs.LentCells.{lent_values}
use Rattle.mysql_binlog_rows.specs.Workings.Plans.{slot_cells}
use Rattle.mysql_binlog_rows.proofs.Loop.{with_front}
use Rattle.mysql_binlog_rows.proofs.row.plan.read_lent_cells.Given as goal

abbrev pub invariant-loop-slot : goal.invariant-loop-slot
invariant-loop-slot l = record {
  len : vec_len l.cells ≡ l.slot-index;
  room : length l.slots ≤ vec_capacity l.cells;
  so_far : with_front (lent_values l.cells.items) ((slot_cells l.partials (drop l.slot-index l.slots) l.end l.bits).parse l.buf.0.now) ≡ (slot_cells l.partials l.slots l.end l.nulls).parse l.fn.buf.0.now;
}
