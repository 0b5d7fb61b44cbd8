use Rattle.std.proofs.Common.{rules, ◌≡◌, length, Ok, ap, ◌∙◌, sym, arith}
use Rattle.binlog_base.specs.ColumnTypes.{column_type_of}
use Rattle.binlog_table.proofs.Arrays.{array_front, array_taken, array_reads}
use Rattle.binlog_table.proofs.table_map.metadata.eat_array.Goals as goal

pub slice_bounds-result-end : goal.slice_bounds-result-end
slice_bounds-result-end c =
    let whole = array_front c.in_ok-from_number.field-0 c.args.buf.now.0.now c.in_ok-inner.inner c.deserialize.new.buf.0.now c.in_ok-metadata.metadata.now c.eat_inner.new.buf.0.now c.in_ok-inner.ensures.parses c.in_ok-metadata.ensures in
    sym (ap length (array_taken c.args.buf.now.0.now c.in_ok-inner.inner c.in_ok-metadata.metadata.now c.eat_inner.new.buf.0.now whole) ∙ (omega arith))

pub returns : goal.returns
returns c =
    let known : column_type_of c.in_ok-inner.inner ≡ Ok c.in_ok-from_number.field-0 = search rules in
    array_reads c.in_ok-from_number.field-0 c.args.buf.now.0.now c.in_ok-inner.inner c.deserialize.new.buf.0.now c.in_ok-metadata.metadata.now c.eat_inner.new.buf.0.now c.in_ok-inner.ensures.parses known c.in_ok-metadata.ensures
