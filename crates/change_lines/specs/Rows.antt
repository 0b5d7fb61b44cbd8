-- The lines of the rows of an event.
use Rattle.std.specs.Prelude.{◌≡◌, ℕ, suc, List, [], ◌∷◌, ◌++◌, length, Option, None}
use Rattle.std.specs.List.{concat}
use Rattle.binlog_base.specs.Format.{Format}
use Rattle.mysql_binlog_rows.specs.RowsEvent.{RowsEvent}
use Rattle.mysql_binlog_rows.specs.Images.{Pair, pair}
use Rattle.mysql_binlog_rows.specs.Cover.{ArePairs, Covers}
use Rattle.binlog_file.specs.LentChanges.{LentChange}
use Rattle.row_json.specs.Columns.{Column}
use Rattle.row_json.specs.Rows.{IsLine}
use Rattle.changed_rows.specs.declared.source.Source.{Source}
use Rattle.changed_rows.specs.Names.{up_to_most}
use Rattle.changed_rows.specs.Sources.{members_in, source_at}
use Rattle.change_lines.specs.Outputs.{Outputs}

-- the rows data begins with these pairs of rows, without gaps, and goes on with this rest, whatever it is
abbrev pub BeginsWith : Format Pair → List ℕ → List Pair → List ℕ → Type 0
BeginsWith pair rows_data ps rest = (parts : List (List ℕ)) × (rows_data ≡ concat parts ++ rest) × ArePairs pair parts ps

-- Lines of rows, one after the other. Of the first, which has this number, and of each one after it, the
-- line is what it has to be.
abbrev pub AreLinesBy : (ℕ → Pair → List ℕ → Type 0) → ℕ → List Pair → List ℕ → Type 0
AreLinesBy Is row [] text = text ≡ []
AreLinesBy Is row (p ∷ ps) text = (line more : List ℕ) × Is row p line × AreLinesBy Is (suc row) ps more × (text ≡ line ++ more)

-- a line of JSON of a row of an event of this source
abbrev pub IsJsonLine : List Column → RowsEvent → Source → ℕ → Pair → List ℕ → Type 0
IsJsonLine cs e s row p line = IsLine cs e (members_in (source_at s (up_to_most row))) p line

-- All rows of an event were read, and each was written as such a line.
pub record WritesRows (Is : ℕ → Pair → List ℕ → Type 0) (c : LentChange) (old : Option (List ℕ)) (held : List ℕ) (new : Option (List ℕ)) (left : List ℕ) : Type 0 where
  pub pairs : List Pair
  pub text : List ℕ
  pub covers : Covers (pair c.table c.rows) c.left pairs None
  pub lines : AreLinesBy Is 0 pairs text
  pub outputs : Outputs old held text new left

-- All rows of an event can be read, and there are so many, up to the most that a number holds.
abbrev pub IsRowCount : LentChange → ℕ → Type 0
IsRowCount c n = (ps : List Pair) × Covers (pair c.table c.rows) c.left ps None × (n ≡ up_to_most (length ps))
