use Rattle.std.proofs.Common.{◌≡◌, ◌++◌, map, Some}
use Rattle.std.specs.Option.{option_map}
use Rattle.binlog_cells.specs.Cells.{cell_of}
use Rattle.mysql_binlog_rows.specs.RowValues.{AreThere}
use Rattle.mysql_binlog_rows.proofs.row.binlog_row.BinlogRow.unwrap.Given as goal

abbrev pub invariant-loop-value : goal.invariant-loop-value
invariant-loop-value l = record {
  there : AreThere (map (option_map cell_of) l.value-iterator.rest.items);
  so_far : map (λ v. Some (cell_of v)) l.values.items ++ map (option_map cell_of) l.value-iterator.rest.items ≡ l.fn.self.values;
}
