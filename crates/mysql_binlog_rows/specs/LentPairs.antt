-- Pairs of lent rows, and what a call of `next_lent` answers.
use Rattle.std.specs.Prelude.{◌≡◌, ⊤, Bool, true, false, List, ℕ, Option, Some, None, Result, Ok, Err}
use denote.Ref.{Bor}
use Rattle.binlog_base.specs.declared.fault.Fault.{Fault}
use Rattle.mysql_binlog_rows.specs.Images.{BinlogRow, Pair}

-- the row, if it is there
abbrev pub row_if : Bool → BinlogRow → Option BinlogRow
row_if true row = Some row
row_if false row = None

-- the pair that was read, with the bytes of the rest
abbrev pub lent_at_rest : Pair → Result (Bor (List ℕ)) Fault → Result (Pair × List ℕ) Fault
lent_at_rest pair (Ok rest) = Ok (pair, rest.now)
lent_at_rest pair (Err e) = Err e

-- the result for the pair that was read
abbrev pub lent_result : Pair → Result (Unit {0}) Fault → Result Pair Fault
lent_result pair (Ok _) = Ok pair
lent_result pair (Err e) = Err e

-- the item for the pair that was read
abbrev pub lent_item : Pair → Option (Result (Unit {0}) Fault) → Option (Result Pair Fault)
lent_item pair None = None
lent_item pair (Some r) = Some (lent_result pair r)

-- the buffer holds no row, unless a pair was read into it
abbrev pub EmptyUnlessRead : Option (Result (Unit {0}) Fault) → Pair → Type 0
EmptyUnlessRead None pair = pair ≡ (None, None)
EmptyUnlessRead (Some (Ok _)) pair = ⊤
EmptyUnlessRead (Some (Err _)) pair = pair ≡ (None, None)
