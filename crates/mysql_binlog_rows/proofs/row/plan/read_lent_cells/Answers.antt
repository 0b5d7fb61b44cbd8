use Rattle.std.proofs.Common.{◌≡◌, ◌+◌, Bool, List, false, Ok, get_or, drop, ap, sym, ◌∙◌, arith}
use Rattle.std.proofs.lemmas.Result.{err_from_is_err_and}
use Rattle.mysql_binlog_rows.specs.Workings.Plans.{slot_cell, slot_cells}
use Rattle.binlog_cells.specs.Cells.{one_more}
use Rattle.binlog_cells.specs.LentCells.{lent_values}
use Rattle.mysql_binlog_rows.proofs.Loop.{with_front, puts_on, put_stops, all_well, all_ill}
use Rattle.mysql_binlog_rows.proofs.row.plan.read_lent_cells.Goals as goal

pub returns-in-None : goal.returns-in-None
returns-in-None c = all_well _ _ _ _ _ _ _ _ c.loop-slot-test.false c.in-None.is c.loop-slot.invariant.so_far

pub returns-in-Some : goal.returns-in-Some
returns-in-Some c = λ other. all_ill _ _ _ _ _ _ _ _ _ c.loop-slot-test.false c.in-Some.is c.loop-slot.invariant.so_far

pub loop-slot-preserved : goal.loop-slot-preserved
loop-slot-preserved c = record {
  len = omega (arith, c.in_ok-put_lent_cell.ensures.len, c.loop-slot.invariant.len);
  room = omega (arith, c.in_ok-put_lent_cell.ensures.capacity, c.loop-slot.invariant.room);
  so_far =
      let later = ap (λ (ns : List Bool). with_front (lent_values c.put_lent_cell.new.cells.items) ((slot_cells c.args.partials.now (drop (c.loop-slot.slot-index + 1) c.args.slots.now) c.args.end ns).parse c.put_lent_cell.new.buf.0.now)) c.next_bit-is_null.ensures.rest in
      let read : (one_more (lent_values c.loop-slot.cells.items) (slot_cell (get_or c.loop-slot.bits 0 false) c.args.partials.now c.slot-item.result)).parse c.loop-slot.buf.0.now ≡ Ok (lent_values c.put_lent_cell.new.cells.items, c.put_lent_cell.new.buf.0.now) =
      ap (λ (b : Bool). (one_more (lent_values c.loop-slot.cells.items) (slot_cell b c.args.partials.now c.slot-item.result)).parse c.loop-slot.buf.0.now) (sym c.next_bit-is_null.ensures.bit) ∙ c.in_ok-put_lent_cell.ensures.cell in
      later ∙ puts_on c.args.partials.now _ _ c.args.slots.now c.args.end c.loop-slot.bits c.loop-slot.slot-index c.loop-slot.buf.0.now c.put_lent_cell.new.buf.0.now c.slot-item.result _
      c.loop-slot-test.true c.slot-item.is read c.loop-slot.invariant.so_far;
}

pub returns-in_err-put_lent_cell : goal.returns-in_err-put_lent_cell
returns-in_err-put_lent_cell c =
    let p = err_from_is_err_and c.from_residual-in_err-put_lent_cell.result c.from_residual-in_err-put_lent_cell.ensures.1 in
    rw (p.1, p.2) (λ other.
    put_stops c.args.partials.now _ c.args.slots.now c.args.end c.loop-slot.bits c.loop-slot.slot-index c.loop-slot.buf.0.now c.slot-item.result _ _
    c.loop-slot-test.true c.slot-item.is
    (ap (λ (b : Bool). (one_more (lent_values c.loop-slot.cells.items) (slot_cell b c.args.partials.now c.slot-item.result)).parse c.loop-slot.buf.0.now) (sym c.next_bit-is_null.ensures.bit) ∙ c.in_err-put_lent_cell.ensures.cell)
    c.loop-slot.invariant.so_far)
