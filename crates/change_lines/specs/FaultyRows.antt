-- The rows of an event before one that can't be read or written.
use Rattle.std.specs.Prelude.{◌≡◌, ◌⊎◌, ◌+◌, ℕ, List, ◌++◌, Some}
use Rattle.binlog_base.specs.declared.fault.Fault.{Fault}
use Rattle.mysql_binlog_rows.specs.Images.{Pair, pair}
use Rattle.mysql_binlog_rows.specs.Cover.{IsPair, EndsWith}
use Rattle.binlog_events.specs.declared.error.EventError.{EventError}
use Rattle.binlog_events.specs.declared.error.EventError.TheVariants as error
use Rattle.binlog_events.specs.declared.error.FileError.{FileError}
use Rattle.binlog_file.specs.LentChanges.{LentChange}
use Rattle.row_json.specs.Columns.{columns_of}
use Rattle.row_json.specs.Faults.{IsFaultOfPair}
use Rattle.changed_rows.specs.Names.{up_to_most}

-- the row at the start of this rest can't be read
abbrev pub IsUnreadable : LentChange → List ℕ → Fault → Type 0
IsUnreadable c rest f = EndsWith (pair c.table c.rows) rest (Some f)

-- the row at the start of this rest can't be written: its first faulty document is this
abbrev pub IsUnwritable : LentChange → List ℕ → Fault → Type 0
IsUnwritable c rest f = (x more : List ℕ) × (p : Pair) × (rest ≡ x ++ more) × IsPair (pair c.table c.rows) x p × IsFaultOfPair (columns_of c.table) c.rows p f

-- The error of the row of an event that comes after n others, with which this rest begins. It has the row's number: how
-- many rows of the event are before it. (Before the n rows there are c.count, none where the event is one that a reading
-- gives.)
abbrev pub IsRowError : LentChange → ℕ → List ℕ → EventError → Type 0
IsRowError c n rest e = (f : Fault) × ((IsUnreadable c rest f × (e ≡ error.RowsData (c.count + n) f)) ⊎ (IsUnwritable c rest f × (e ≡ error.RowsData (up_to_most n) f)))

-- an event is skipped from its row on that comes after n others, with which this rest begins, by this error of that row
abbrev pub IsSkippedAt : LentChange → ℕ → List ℕ → FileError → Type 0
IsSkippedAt c n rest e = (e.position ≡ c.origin.position) × IsRowError c n rest e.error
