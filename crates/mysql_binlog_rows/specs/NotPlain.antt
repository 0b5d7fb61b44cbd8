-- Why a row isn't a row of plain values.
use Rattle.std.specs.Prelude.{◌≡◌, ⊤, ℕ, List, ◌∷◌, ◌++◌, length, map, Option, Some, Err}
use Rattle.std.specs.Option.{option_map}
use Rattle.binlog_base.specs.Values.{PlainValue}
use Rattle.mysql_binlog_rows.specs.declared.row.binlog_row.BinlogRowToRowError.{BinlogRowToRowError}
use Rattle.mysql_binlog_rows.specs.declared.row.binlog_row.BinlogRowToRowError.TheVariants as error
use Rattle.binlog_cells.specs.Cells.{Cell, PlainCell, to_plain}

-- there is a value at index i, and it is not plain
abbrev pub IsNotPlain : ℕ → Option Cell → BinlogRowToRowError → Type 0
IsNotPlain i value (error.NotPlain offset why) = (offset ≡ i) × (v : Cell) × (value ≡ Some v) × (to_plain v ≡ Err why)
IsNotPlain i value error.Memory = ⊥

-- memory was refused; or the values before this index are plain, or were taken, and the value at it
-- is not plain
abbrev pub IsRefused : List (Option Cell) → BinlogRowToRowError → Type 0
IsRefused values error.Memory = ⊤
IsRefused values (error.NotPlain i why) =
    (before : List (Option PlainValue)) × (v : Cell) × (later : List (Option Cell)) × (values ≡ map (option_map PlainCell) before ++ Some v ∷ later) × (length before ≡ i) × (to_plain v ≡ Err why)
