use Rattle.std.proofs.Common.{◌≡◌}
use Rattle.binlog_base.specs.Bits.{bits_of}
use Rattle.binlog_base.specs.declared.bits.BitOrder.TheVariants.{LeastSignificantFirst}
use Rattle.binlog_table.specs.TableColumns.{table_columns}
use Rattle.table_schema.specs.Fits.{fit_columns}
use Rattle.table_schema.proofs.fit.fit_columns.Given as goal

abbrev pub invariant-loop-column : goal.invariant-loop-column
invariant-loop-column l =
    fit_columns l.has_signs l.table.server l.nulls l.left l.column-iterator.columns
    ≡ fit_columns l.has_signs l.table.server (bits_of LeastSignificantFirst l.table.columns_count l.table.null_bits) l.columns (table_columns l.table)
