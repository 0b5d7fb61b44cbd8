-- The first value of a row that isn't plain.
use Rattle.std.proofs.Common.{◌≡◌, ℕ, List, ◌∷◌, ◌++◌, length, map, Option, sym, ap, ◌∙◌}
use Rattle.std.specs.Option.{option_map}
use Rattle.binlog_base.specs.Values.{PlainValue}
use Rattle.mysql_binlog_rows.specs.declared.row.binlog_row.BinlogRowToRowError.{BinlogRowToRowError}
use Rattle.mysql_binlog_rows.specs.declared.row.binlog_row.BinlogRowToRowError.TheVariants as error
use Rattle.binlog_cells.specs.Cells.{Cell, PlainCell}
use Rattle.mysql_binlog_rows.specs.NotPlain.{IsNotPlain, IsRefused}

pub refused_at : (before : List (Option PlainValue)) (i : ℕ) (value : Option Cell) (later : List (Option Cell)) (e : BinlogRowToRowError) → length before ≡ i → IsNotPlain i value e
    → IsRefused (map (option_map PlainCell) before ++ value ∷ later) e
refused_at before i value later error.Memory len h = absurd h
refused_at before i value later (error.NotPlain offset why) len h =
    (before, h.1, later, ap (λ (v : Option Cell). map (option_map PlainCell) before ++ v ∷ later) h.2, len ∙ sym h.0, h.3)
