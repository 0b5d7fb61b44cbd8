use Rattle.std.proofs.Common.{◌≡◌, ◌+◌, Bool, List, false, Ok, get_or, drop, ap, sym, ◌∙◌, map, arith}
use Rattle.std.specs.Option.{option_map}
use Rattle.std.proofs.lemmas.Result.{err_from_is_err_and}
use Rattle.mysql_binlog_rows.specs.Workings.Plans.{slot_cell, slot_cells}
use Rattle.binlog_cells.specs.Cells.{cell_of, one_more}
use Rattle.mysql_binlog_rows.proofs.Loop.{with_front, puts_on, put_stops, all_well, all_ill}
use Rattle.mysql_binlog_rows.proofs.row.plan.read_cells.Goals as goal

pub returns-in-None : goal.returns-in-None
returns-in-None c = all_well _ _ _ _ _ _ _ _ c.loop-slot-test.false c.in-None.is c.loop-slot.invariant.so_far

pub returns : goal.returns
returns c = λ other. all_ill _ _ _ _ _ _ _ _ _ c.loop-slot-test.false c.in-Some.is c.loop-slot.invariant.so_far

pub loop-slot-preserved : goal.loop-slot-preserved
loop-slot-preserved c = record {
  len = omega (arith, c.in_ok-add_nullable_cell.ensures.len, c.loop-slot.invariant.len);
  room = omega (arith, c.in_ok-add_nullable_cell.ensures.capacity, c.loop-slot.invariant.room);
  so_far =
      let later = ap (λ (ns : List Bool). with_front (map (option_map cell_of) c.add_nullable_cell.new.values.items) ((slot_cells c.args.partials.now (drop (c.loop-slot.slot-index + 1) c.args.slots.now) c.args.end ns).parse c.add_nullable_cell.new.buf.0.now)) c.next_bit-is_null.ensures.rest in
      let read : (one_more (map (option_map cell_of) c.loop-slot.values.items) (slot_cell (get_or c.loop-slot.null_bits 0 false) c.args.partials.now c.slot-item.result)).parse c.loop-slot.buf.0.now ≡ Ok (map (option_map cell_of) c.add_nullable_cell.new.values.items, c.add_nullable_cell.new.buf.0.now) =
      ap (λ (b : Bool). (one_more (map (option_map cell_of) c.loop-slot.values.items) (slot_cell b c.args.partials.now c.slot-item.result)).parse c.loop-slot.buf.0.now) (sym c.next_bit-is_null.ensures.bit) ∙ c.in_ok-add_nullable_cell.ensures.cell in
      later ∙ puts_on c.args.partials.now _ _ c.args.slots.now c.args.end c.loop-slot.null_bits c.loop-slot.slot-index c.loop-slot.buf.0.now c.add_nullable_cell.new.buf.0.now c.slot-item.result _
      c.loop-slot-test.true c.slot-item.is read c.loop-slot.invariant.so_far;
}

pub returns-in_err-add_nullable_cell : goal.returns-in_err-add_nullable_cell
returns-in_err-add_nullable_cell c =
    let p = err_from_is_err_and c.from_residual-in_err-add_nullable_cell.result c.from_residual-in_err-add_nullable_cell.ensures.1 in
    rw (p.1, p.2) (λ other.
    put_stops c.args.partials.now _ c.args.slots.now c.args.end c.loop-slot.null_bits c.loop-slot.slot-index c.loop-slot.buf.0.now c.slot-item.result _ _
    c.loop-slot-test.true c.slot-item.is
    (ap (λ (b : Bool). (one_more (map (option_map cell_of) c.loop-slot.values.items) (slot_cell b c.args.partials.now c.slot-item.result)).parse c.loop-slot.buf.0.now) (sym c.next_bit-is_null.ensures.bit) ∙ c.in_err-add_nullable_cell.ensures.cell other)
    c.loop-slot.invariant.so_far)
