-- With which faults documents, rows and pairs can't be written.
use Rattle.std.specs.Prelude.{◌≡◌, ◌<◌, ℕ, Bool, List, length, Ok, Option, Some, None, ◌⊎◌, slice_get}
use Rattle.binlog_base.specs.declared.fault.Fault.{Fault}
use Rattle.binlog_base.specs.Values.{value_at}
use Rattle.binlog_values.specs.JsonbValues.{JsonbValue}
use Rattle.binlog_values.specs.JsonbDocuments.{document_of, limit_of, positions, first_fault}
use Rattle.binlog_values.specs.JsonDiffs.{Diff}
use Rattle.binlog_cells.specs.Cells.{Cell, JsonCell, DiffsCell}
use Rattle.mysql_binlog_rows.specs.Images.{BinlogRow, Pair}
use Rattle.mysql_binlog_rows.specs.RowsEvent.{RowsEvent}
use Rattle.row_json.specs.declared.row.Part.{Part}
use Rattle.row_json.specs.declared.row.Part.TheVariants as part
use Rattle.row_json.specs.Columns.{Column, columns_in}
use Rattle.row_json.specs.Rows.{before_in, after_in}

-- ---- the first of several

-- it has none of the faults
abbrev pub HasNone : (Fault → Type 0) → Type 0
HasNone IsFault = (e : Fault) → IsFault e → ⊥

-- the fault of the first of n that has one
pub record IsFaultOfFirst (n : ℕ) (IsFaultAt : ℕ → Fault → Type 0) (e : Fault) : Type 0 where
  pub place : ℕ
  pub within : place < n
  pub here : IsFaultAt place e
  pub before : (k : ℕ) → k < place → HasNone (IsFaultAt k)

-- the fault of the one, or that of the other where the one has none
abbrev pub IsFaultOfBoth : (Fault → Type 0) → (Fault → Type 0) → Fault → Type 0
IsFaultOfBoth IsFirst IsSecond e = IsFirst e ⊎ (HasNone IsFirst × IsSecond e)

-- ---- documents

-- the fault of the first position of a document that has one
abbrev pub IsFaultOf : JsonbValue → Fault → Type 0
IsFaultOf value e = (n : ℕ) × (first_fault (limit_of value) 0 (positions (document_of (Ok value))) ≡ Some (e, n))

abbrev pub IsFaultOfValue : Option JsonbValue → Fault → Type 0
IsFaultOfValue None e = ⊥
IsFaultOfValue (Some value) e = IsFaultOf value e

abbrev pub IsFaultOfDiff : Option Diff → Fault → Type 0
IsFaultOfDiff None e = ⊥
IsFaultOfDiff (Some d) e = IsFaultOfValue d.value e

-- of the first diff that has one
abbrev pub IsFaultOfDiffs : List Diff → Fault → Type 0
IsFaultOfDiffs ds = IsFaultOfFirst (length ds) (λ k. IsFaultOfDiff (slice_get ds k))

-- ---- rows

-- of a cell that is a document, in its row; of one that is diffs, in `diffs`
abbrev pub IsFaultOfCell : Part → Option Cell → Fault → Type 0
IsFaultOfCell part.Row (Some (JsonCell value)) e = IsFaultOf value e
IsFaultOfCell part.Diffs (Some (DiffsCell diffs)) e = IsFaultOfDiffs diffs e
IsFaultOfCell p cell e = ⊥

-- of the first cell that has one: there is a cell for each column of the image, in their order
abbrev pub IsFaultOfPart : Part → List Column → List Bool → BinlogRow → Fault → Type 0
IsFaultOfPart p cs present row = IsFaultOfFirst (length (columns_in cs present)) (λ k. IsFaultOfCell p (value_at row.values k))

abbrev pub IsFaultOfRow : List Column → List Bool → BinlogRow → Fault → Type 0
IsFaultOfRow = IsFaultOfPart part.Row

-- ---- pairs

abbrev pub IsFaultOfImage : Part → List Column → List Bool → Option BinlogRow → Fault → Type 0
IsFaultOfImage p cs present None e = ⊥
IsFaultOfImage p cs present (Some row) e = IsFaultOfPart p cs present row e

-- of the row before the change, or else of the row after it, or else of its diffs
abbrev pub IsFaultOfPair : List Column → RowsEvent → Pair → Fault → Type 0
IsFaultOfPair cs e pair =
    IsFaultOfBoth (IsFaultOfImage part.Row cs (before_in e) pair.0)
    (IsFaultOfBoth (IsFaultOfImage part.Row cs (after_in e) pair.1)
    (IsFaultOfImage part.Diffs cs (after_in e) pair.1))
