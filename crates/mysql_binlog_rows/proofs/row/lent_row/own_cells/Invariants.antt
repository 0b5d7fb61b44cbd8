use Rattle.std.proofs.Common.{◌≡◌, take, map}
use Rattle.std.specs.Option.{option_map}
use Rattle.binlog_cells.specs.Cells.{cell_of}
use Rattle.binlog_cells.specs.LentCells.{lent_values}
use Rattle.mysql_binlog_rows.proofs.row.lent_row.own_cells.Given as goal

abbrev pub invariant-loop-cell : goal.invariant-loop-cell
invariant-loop-cell l = map (option_map cell_of) l.values.items ≡ lent_values (take l.cell-index l.cells)
