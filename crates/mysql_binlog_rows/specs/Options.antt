-- The numbers of the options of row values.
use Rattle.std.specs.Prelude.{ℕ, List, [], ◌∷◌}
use Rattle.mysql_binlog_rows.specs.declared.row.options.BinlogRowValueOptions.{BinlogRowValueOptions}
use Rattle.mysql_binlog_rows.specs.declared.row.options.BinlogRowValueOptions.TheVariants as option

-- the options by their numbers
abbrev pub row_value_options : List (ℕ × BinlogRowValueOptions)
row_value_options = (1, option.PARTIAL_JSON_UPDATES) ∷ []
