use Rattle.std.proofs.Common.{◌≡◌, ◌≤◌, length, drop, map, vec_len, vec_capacity}
use Rattle.std.specs.Option.{option_map}
use Rattle.binlog_cells.specs.Cells.{cell_of}
use Rattle.mysql_binlog_rows.specs.Workings.Plans.{slot_cells}
use Rattle.mysql_binlog_rows.proofs.Loop.{with_front}
use Rattle.mysql_binlog_rows.proofs.row.plan.read_cells.Given as goal

abbrev pub invariant-loop-slot : goal.invariant-loop-slot
invariant-loop-slot l = record {
  len : vec_len l.values ≡ l.slot-index;
  room : length l.slots ≤ vec_capacity l.values;
  so_far : with_front (map (option_map cell_of) l.values.items) ((slot_cells l.partials (drop l.slot-index l.slots) l.end l.null_bits).parse l.buf.0.now) ≡ (slot_cells l.partials l.slots l.end l.nulls).parse l.fn.buf.0.now;
}
