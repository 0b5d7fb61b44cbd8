-- JSON documents and diffs that lend their bytes.
use Rattle.std.specs.Prelude.{◌≡◌, ℕ, ⊤, List, [], Result, Ok, Err}
use Rattle.binlog_base.specs.declared.fault.Fault.{Fault}
use Rattle.binlog_base.specs.Items.{repeated}
use Rattle.binlog_values.specs.declared.documents.Document.{Document}
use Rattle.binlog_values.specs.declared.documents.Document.TheVariants as document
use Rattle.binlog_values.specs.declared.documents.Diffs.{Diffs}
use Rattle.binlog_values.specs.declared.documents.Diffs.TheVariants as diffs
use Rattle.binlog_values.specs.JsonbViews.{view_of}
use Rattle.binlog_values.specs.JsonbValues.{JsonbValue, Null, scalar, json}
use Rattle.binlog_values.specs.JsonDiffs.{Diff, diff}

-- what was read, or this where nothing was
abbrev pub read_or : {A : Type 0} → A → Result (A × List ℕ) Fault → A
read_or other (Ok r) = r.0
read_or other (Err e) = other

-- the document that the bytes are
abbrev pub json_of : List ℕ → JsonbValue
json_of bytes = read_or (scalar Null) (json.parse bytes)

-- all of the bytes are those of a document
abbrev pub IsJson : List ℕ → Type 0
IsJson bytes = json.parse bytes ≡ Ok (json_of bytes, [])

-- the diffs that the bytes are
abbrev pub diffs_of : List ℕ → List Diff
diffs_of bytes = read_or [] ((repeated diff).parse bytes)

-- all of the bytes are those of diffs
abbrev pub AreDiffs : List ℕ → Type 0
AreDiffs bytes = (repeated diff).parse bytes ≡ Ok (diffs_of bytes, [])

-- the root of a document, by where it is
abbrev pub root_of : Document → JsonbValue
root_of (document.Bytes bytes) = json_of bytes.now
root_of (document.Value value) = view_of value.now

-- bytes are all those of a document
abbrev pub IsDocument : Document → Type 0
IsDocument (document.Bytes bytes) = IsJson bytes.now
IsDocument (document.Value value) = ⊤

-- the diffs, by where they are
abbrev pub all_of : Diffs → List Diff
all_of (diffs.Bytes bytes) = diffs_of bytes.now
all_of (diffs.List list) = list.now

-- bytes are all those of diffs
abbrev pub AreAllDiffs : Diffs → Type 0
AreAllDiffs (diffs.Bytes bytes) = AreDiffs bytes.now
AreAllDiffs (diffs.List list) = ⊤
