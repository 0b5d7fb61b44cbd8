use Rattle.std.proofs.Common.{◌≡◌, Ok}
use Rattle.binlog_base.specs.Strings.{lenenc_string}
use Rattle.binlog_base.specs.Items.{times}
use Rattle.binlog_table.proofs.table_map.optional.variants.read_values.Given as goal

abbrev pub invariant-loop-time : goal.invariant-loop-time
invariant-loop-time l = (times l._time lenenc_string).parse l.fn.buf.0.now ≡ Ok (l.values.items, l.buf.0.now)
