use Rattle.std.proofs.Common.{◌≡◌, ◌++◌, map}
use Rattle.std.specs.Option.{option_map}
use Rattle.binlog_base.specs.Values.{plain_of}
use Rattle.binlog_cells.specs.Cells.{PlainCell, cell_of}
use Rattle.mysql_binlog_rows.proofs.row.binlog_row.BinlogRow.into_row.Given as goal

abbrev pub invariant-loop-value : goal.invariant-loop-value
invariant-loop-value l =
    map (option_map PlainCell) (map (option_map plain_of) l.values.items) ++ map (option_map cell_of) l.value-iterator.rest.items ≡ l.fn.self.values
