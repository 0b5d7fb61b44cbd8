-- Rows events whose pairs of rows are lent, one at a time.
use Rattle.std.specs.Prelude.{◌≡◌, ◌⊎◌, ℕ, ◌+◌, true, false, List, [], ◌∷◌, ◌++◌, length, Option, Some, None, Result, Ok, Err}
use Rattle.std.specs.Option.{option_map}
use Rattle.binlog_base.specs.declared.fault.Fault.{Fault}
use Rattle.binlog_table.specs.TableMap.{TableMap}
use Rattle.mysql_binlog_rows.specs.RowsEvent.{RowsEvent}
use Rattle.mysql_binlog_rows.specs.Images.{Pair, pair}
use Rattle.mysql_binlog_rows.specs.Cover.{IsPair, EndsWith, Covers}
use Rattle.binlog_events.specs.declared.error.EventError.{EventError}
use Rattle.binlog_events.specs.declared.error.EventError.TheVariants as error
use Rattle.binlog_events.specs.declared.error.FileError.{FileError}
use Rattle.binlog_events.specs.declared.origin.Origin.{Origin}
use Rattle.binlog_file.specs.Header.{Header}
use Rattle.binlog_file.specs.Tables.{Tables}
use Rattle.binlog_file.specs.Changes.{Wanted, is_dummy, IsMemory, Change}

-- A rows event, and the table map event that it is read with.
-- left: the rows data that is left; count: how many pairs were given before it.
pub record LentChange : Type 0 where
  pub origin : Origin
  pub rows : RowsEvent
  pub table : TableMap
  pub left : List ℕ
  pub count : ℕ

-- an event that is given as it is
pub record OtherEvent : Type 0 where
  pub origin : Origin
  pub header : Header
  pub body : List ℕ

-- a rows event of which no pair was given yet
abbrev pub unread : Origin → RowsEvent → TableMap → LentChange
unread from rows t = record { origin = from; rows = rows; table = t; left = rows.rows_data; count = 0 }

-- the rows event is wanted, and its table map event is the one that is in force for it
pub record Opens (wanted : Wanted) (ts : Tables) (from : Origin) (rows : RowsEvent) (c : LentChange) : Type 0 where
  pub is_real : is_dummy rows ≡ false
  pub in_force : ts rows.table_id ≡ Some c.table
  pub is_wanted : wanted from.position c.table rows.event_type ≡ true
  pub is_unread : c ≡ unread from rows c.table

-- The next pair of an event is read into a buffer. The pair is the one at the start of the rows data that
-- is left, or none where nothing is left. Or this is the error of the pair that can't be read, with its
-- number; or memory was refused. Nothing is left after an error, and the buffer holds no row.
abbrev pub PairGives : LentChange → Pair → Option (Result (Unit {0}) FileError) → LentChange → Type 0
PairGives old p None new = (old.left ≡ []) × (new ≡ old) × (p ≡ (None, None))
PairGives old p (Some (Ok _)) new = (x : List ℕ) × (old.left ≡ x ++ new.left) × IsPair (pair old.table old.rows) x p × (new ≡ record old { left = new.left; count = old.count + 1 })
PairGives old p (Some (Err e)) new =
    (new ≡ record old { left = [] }) × (p ≡ (None, None)) × (e.position ≡ old.origin.position)
    × (IsMemory e.error ⊎ ((f : Fault) × EndsWith (pair old.table old.rows) old.left (Some f) × (e.error ≡ error.RowsData old.count f)))

-- ---- the owned changes

-- the change of an event whose rows data is these pairs
abbrev pub change_with : LentChange → List Pair → Change
change_with c ps = record { origin = c.origin; rows = c.rows; table = c.table; pairs = ps }

-- the error of the pair that comes after these, if it has a fault
abbrev pub error_after : List Pair → Option Fault → Option EventError
error_after ps end = option_map (λ f. error.RowsData (length ps) f) end

-- What was left of the rows data is covered by the pair and what covers the rest; or by no pair, before a
-- fault or none.
abbrev pub CoversOn : LentChange → Pair → Option (Result (Unit {0}) FileError) → LentChange → Type 0
CoversOn old p None new = Covers (pair old.table old.rows) old.left [] None
CoversOn old p (Some (Ok _)) new = (ps : List Pair) (end : Option Fault) → Covers (pair old.table old.rows) new.left ps end → Covers (pair old.table old.rows) old.left (p ∷ ps) end
CoversOn old p (Some (Err e)) new = IsMemory e.error ⊎ ((f : Fault) × Covers (pair old.table old.rows) old.left [] (Some f) × (e.position ≡ old.origin.position) × (e.error ≡ error.RowsData old.count f))
