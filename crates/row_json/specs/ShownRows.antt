-- What the JSON of rows, and of pairs of rows, shows of them.
use Rattle.std.specs.Prelude.{◌≡◌, ℕ, Bool, List, [], Option, Some, None, slice_get, ⊤}
use Rattle.binlog_base.specs.Numbers.{AreBytes}
use Rattle.binlog_base.specs.Values.{value_at, Null}
use Rattle.binlog_cells.specs.Cells.{Cell, PlainCell, JsonCell, DiffsCell}
use Rattle.mysql_binlog_rows.specs.Images.{BinlogRow, Pair, nullable_cell}
use Rattle.binlog_table.specs.TableColumns as table
use Rattle.mysql_binlog_rows.specs.RowsEvent.{RowsEvent}
use Rattle.binlog_values.specs.JsonbValues.{JsonbValue}
use Rattle.json.specs.Json.{Json}
use Rattle.json.specs.Tree.{HasNumbers}
use Rattle.row_json.specs.Columns.{Column, columns_in}
use Rattle.row_json.specs.Documents.{IsDocumentJson, IsDiffsJson}
use Rattle.row_json.specs.Rows.{IsCellJson, operation_of, before_in, after_in}
use Rattle.row_json.specs.Shown.{shown, AreOfOneColumn}

-- ---- cells

-- Two cells that a column may have: two values, two documents, a document and NULL, or diffs of two
-- documents. None was taken from its row.
abbrev pub AreCellsOfOneColumn : Column → Option Cell → Option Cell → Type 0
AreCellsOfOneColumn c (Some (PlainCell v)) (Some (PlainCell w)) = AreOfOneColumn c v w
AreCellsOfOneColumn c (Some (PlainCell v)) (Some (JsonCell y)) = v ≡ Null
AreCellsOfOneColumn c (Some (JsonCell x)) (Some (PlainCell w)) = w ≡ Null
AreCellsOfOneColumn c (Some (JsonCell x)) (Some (JsonCell y)) = ⊤
AreCellsOfOneColumn c (Some (DiffsCell x)) (Some (DiffsCell y)) = ⊤
AreCellsOfOneColumn c x y = ⊥

-- a cell that some bytes spell for this column, in an image without partial bits
pub record IsWholeCellOf (c : table.Column) (x : Cell) : Type 0 where
  pub is_null : Bool
  pub bytes : List ℕ
  pub are : AreBytes bytes
  pub spelled : (nullable_cell is_null [] c).spells bytes x

-- The same is shown of two cells in their rows: of values what `shown` says, of documents their JSON.
-- Diffs aren't shown there.
abbrev pub ShowTheSame : Column → Option Cell → Option Cell → Type 0
ShowTheSame c (Some (PlainCell v)) (Some (PlainCell w)) = shown c v ≡ shown c w
ShowTheSame c (Some (DiffsCell x)) (Some (DiffsCell y)) = ⊤
ShowTheSame c (Some x) (Some y) = (j : Json) × IsCellJson c x j × IsCellJson c y j
ShowTheSame c x y = ⊥

-- the same is shown of two cells in `diffs`: of diffs their JSON, and nothing of other cells
abbrev pub ShowTheSameDiffs : Column → Option Cell → Option Cell → Type 0
ShowTheSameDiffs c (Some (DiffsCell x)) (Some (DiffsCell y)) = (j : Json) × IsDiffsJson x j × IsDiffsJson y j
ShowTheSameDiffs c x y = ⊤

-- ---- rows

-- what holds of each two cells at one place: place k has the k-th column of the image
abbrev pub EachCell : (Column → Option Cell → Option Cell → Type 0) → List Column → List Bool → BinlogRow → BinlogRow → Type 0
EachCell Holds cs present x y =
    (k : ℕ) (c : Column) → slice_get (columns_in cs present) k ≡ Some c → Holds c (value_at x.values k) (value_at y.values k)

-- two rows of one table with the same columns
abbrev pub AreRowsOfOneTable : List Column → List Bool → BinlogRow → BinlogRow → Type 0
AreRowsOfOneTable = EachCell AreCellsOfOneColumn

-- The numbers in the JSON of a row's documents are numbers of JSON, as all of at most 64 bits are.
abbrev pub DocumentsHaveNumbers : BinlogRow → Type 0
DocumentsHaveNumbers x = (k : ℕ) (d : JsonbValue) (j : Json) → value_at x.values k ≡ Some (JsonCell d) → IsDocumentJson d j → HasNumbers j

-- ---- pairs

-- what holds of two images: both are there or none is, and it holds of each two cells
abbrev pub EachCellOfImages : (Column → Option Cell → Option Cell → Type 0) → List Column → List Bool → Option BinlogRow → Option BinlogRow → Type 0
EachCellOfImages Holds cs present None None = ⊤
EachCellOfImages Holds cs present (Some x) (Some y) = EachCell Holds cs present x y
EachCellOfImages Holds cs present x y = ⊥

-- two images of one table, if both are there
abbrev pub AreImagesOfOneTable : List Column → List Bool → Option BinlogRow → Option BinlogRow → Type 0
AreImagesOfOneTable cs present (Some x) (Some y) = AreRowsOfOneTable cs present x y
AreImagesOfOneTable cs present x y = ⊤

-- two pairs of one table, of events with the same columns in their images
pub record ArePairsOfOneTable (cs : List Column) (d e : RowsEvent) (x y : Pair) : Type 0 where
  pub same_before : before_in d ≡ before_in e
  pub same_after : after_in d ≡ after_in e
  pub before : AreImagesOfOneTable cs (before_in d) x.0 y.0
  pub after : AreImagesOfOneTable cs (after_in d) x.1 y.1

-- the same is shown of two pairs: what was done, both rows, and the diffs
pub record PairsShowTheSame (cs : List Column) (e : RowsEvent) (x y : Pair) : Type 0 where
  pub operation : operation_of x ≡ operation_of y
  pub before : EachCellOfImages ShowTheSame cs (before_in e) x.0 y.0
  pub after : EachCellOfImages ShowTheSame cs (after_in e) x.1 y.1
  pub diffs : EachCellOfImages ShowTheSameDiffs cs (after_in e) x.1 y.1
