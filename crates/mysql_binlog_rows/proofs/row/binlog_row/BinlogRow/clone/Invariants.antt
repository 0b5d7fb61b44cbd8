use Rattle.std.proofs.Common.{◌≡◌, take, map}
use Rattle.std.specs.Option.{option_map}
use Rattle.binlog_cells.specs.Cells.{cell_of}
use Rattle.mysql_binlog_rows.proofs.row.binlog_row.BinlogRow.clone.Given as goal

abbrev pub invariant-loop-value : goal.invariant-loop-value
invariant-loop-value l = map (option_map cell_of) l.values.items ≡ map (option_map cell_of) (take l.value-index l.value-items)
