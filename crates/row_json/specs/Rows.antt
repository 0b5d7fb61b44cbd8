-- What rows, pairs of rows and lines are as JSON.
use Rattle.std.specs.Prelude.{◌≡◌, ℕ, suc, Bool, true, false, List, [], ◌∷◌, ◌++◌, Option, Some, None, codes}
use Rattle.std.specs.Bool.{MatchBool}
use Rattle.std.specs.List.{list_any}
use Rattle.binlog_base.specs.Values.{value_at}
use Rattle.binlog_cells.specs.Cells.{Cell, PlainCell, JsonCell, DiffsCell}
use Rattle.mysql_binlog_rows.specs.Images.{BinlogRow, Pair}
use Rattle.mysql_binlog_rows.specs.RowsEvent.{RowsEvent, image_columns}
use Rattle.json.specs.Json.{Json, null, string, object, document}
use Rattle.json.specs.Print.{print}
use Rattle.json.specs.Tree.{json_tokens}
use Rattle.row_json.specs.declared.row.Part.{Part}
use Rattle.row_json.specs.declared.row.Part.TheVariants as part
use Rattle.row_json.specs.Columns.{Column}
use Rattle.row_json.specs.Documents.{IsDocumentJson, IsDiffsJson}
use Rattle.row_json.specs.Values.{IsValueJson}
use Rattle.row_json.specs.Wrote.{Named, members_of}

-- ---- cells

-- what a cell is as JSON; diffs, which are no member, are null
abbrev pub IsCellJson : Column → Cell → Json → Type 0
IsCellJson c (PlainCell value) j = IsValueJson c value j
IsCellJson c (JsonCell value) j = IsDocumentJson value j
IsCellJson c (DiffsCell diffs) j = j ≡ null

-- A cell is a member of its row. Diffs of a document aren't. A value that was taken from its row is
-- null.
abbrev pub IsMember : Column → Option Cell → List Named → Type 0
IsMember c None ms = ms ≡ (c.name, null) ∷ []
IsMember c (Some (PlainCell value)) ms = (j : Json) × IsValueJson c value j × (ms ≡ (c.name, j) ∷ [])
IsMember c (Some (JsonCell value)) ms = (j : Json) × IsDocumentJson value j × (ms ≡ (c.name, j) ∷ [])
IsMember c (Some (DiffsCell diffs)) ms = ms ≡ []

-- the diffs of a document are a member of `diffs`
abbrev pub IsDiffsMember : Column → Option Cell → List Named → Type 0
IsDiffsMember c (Some (DiffsCell diffs)) ms = (j : Json) × IsDiffsJson diffs j × (ms ≡ (c.name, j) ∷ [])
IsDiffsMember c _ ms = ms ≡ []

abbrev pub IsMemberOf : Part → Column → Option Cell → List Named → Type 0
IsMemberOf part.Row c cell ms = IsMember c cell ms
IsMemberOf part.Diffs c cell ms = IsDiffsMember c cell ms

-- ---- rows

-- The members of the columns, in order. Those with a bit that is set are in the image; the first of
-- them has the value at this place.
abbrev pub AreMembers : Part → List Column → List Bool → ℕ → List (Option Cell) → List Named → Type 0
AreMembers p [] present place values ms = ms ≡ []
AreMembers p (c ∷ cs) [] place values ms = ms ≡ []
AreMembers p (c ∷ cs) (false ∷ present) place values ms = AreMembers p cs present place values ms
AreMembers p (c ∷ cs) (true ∷ present) place values ms =
    (first more : List Named) × IsMemberOf p c (value_at values place) first × AreMembers p cs present (suc place) values more × (ms ≡ first ++ more)

-- a row whose image has the columns with these bits, or its diffs
abbrev pub IsObjectOf : Part → List Column → List Bool → BinlogRow → Json → Type 0
IsObjectOf p cs present row j = (ms : List Named) × AreMembers p cs present 0 row.values ms × (j ≡ object (members_of ms))

abbrev pub IsRowJson : List Column → List Bool → BinlogRow → Json → Type 0
IsRowJson = IsObjectOf part.Row

-- ---- pairs

-- an image that isn't there is null
abbrev pub IsImageJson : List Column → List Bool → Option BinlogRow → Json → Type 0
IsImageJson cs present None j = j ≡ null
IsImageJson cs present (Some row) j = IsRowJson cs present row j

abbrev pub is_diffs : Option Cell → Bool
is_diffs (Some (DiffsCell diffs)) = true
is_diffs _ = false

abbrev pub has_diffs : Option BinlogRow → Bool
has_diffs None = false
has_diffs (Some row) = list_any is_diffs row.values

-- the diffs of an image
abbrev pub IsDiffsOf : List Column → List Bool → Option BinlogRow → Json → Type 0
IsDiffsOf cs present None j = ⊥
IsDiffsOf cs present (Some row) j = IsObjectOf part.Diffs cs present row j

-- a member `diffs`, where a value of the row is diffs
abbrev pub AreDiffs : List Column → List Bool → Option BinlogRow → List Named → Type 0
AreDiffs cs present image ms = MatchBool (has_diffs image) ((j : Json) × IsDiffsOf cs present image j × (ms ≡ (codes "diffs", j) ∷ [])) (ms ≡ [])

-- c, d or u: a row was created, deleted, or updated
abbrev pub operation_of : Pair → List ℕ
operation_of (None, Some after) = codes "c"
operation_of (Some before, None) = codes "d"
operation_of (before, after) = codes "u"

-- the columns of an image; none where the event has no such image
abbrev pub present_in : Option (List Bool) → List Bool
present_in None = []
present_in (Some present) = present

abbrev pub before_in : RowsEvent → List Bool
before_in e = present_in (image_columns e.num_columns e.before)

abbrev pub after_in : RowsEvent → List Bool
after_in e = present_in (image_columns e.num_columns e.after)

-- {"op": .., the caller's members, "before": .., "after": .., "diffs": ..}
pub record IsPairJson (cs : List Column) (e : RowsEvent) (added : List Named) (pair : Pair) (j : Json) : Type 0 where
  pub before : Json
  pub after : Json
  pub diffs : List Named
  pub is_before : IsImageJson cs (before_in e) pair.0 before
  pub is_after : IsImageJson cs (after_in e) pair.1 after
  pub are_diffs : AreDiffs cs (after_in e) pair.1 diffs
  pub is : j ≡ object (members_of ((codes "op", string (operation_of pair)) ∷ (added ++ (codes "before", before) ∷ (codes "after", after) ∷ diffs)))

-- the members of a pair after those of a caller
pub record AreImages (cs : List Column) (e : RowsEvent) (pair : Pair) (ms : List Named) : Type 0 where
  pub before : Json
  pub after : Json
  pub diffs : List Named
  pub is_before : IsImageJson cs (before_in e) pair.0 before
  pub is_after : IsImageJson cs (after_in e) pair.1 after
  pub are_diffs : AreDiffs cs (after_in e) pair.1 diffs
  pub are : ms ≡ (codes "before", before) ∷ (codes "after", after) ∷ diffs

-- The line of a pair: the pair as JSON, with no space outside strings, and a line's end. It reads
-- back as that JSON.
pub record IsLine (cs : List Column) (e : RowsEvent) (added : List Named) (pair : Pair) (line : List ℕ) : Type 0 where
  pub value : Json
  pub is : IsPairJson cs e added pair value
  pub text : line ≡ print (json_tokens value) ++ codes "\n"
  pub reads_back : document (print (json_tokens value)) ≡ Some value
