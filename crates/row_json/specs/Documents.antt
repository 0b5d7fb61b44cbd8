-- What a document of binary JSON, and diffs of one, are as JSON.
use Rattle.std.specs.Prelude.{◌≡◌, ◌≤◌, ◌==◌, if◌then◌else◌, ℕ, List, [], ◌∷◌, ◌++◌, Ok, Option, Some, None, decimal as digits_of, codes}
use Rattle.std.specs.Fmt.{signed_decimal}
use Rattle.std.specs.Float.{binary64}
use Rattle.std.specs.Str.Lossy.{utf8_lossy}
use Rattle.base64.specs.Engines.{standard}
use Rattle.base64.specs.GeneralPurpose.{encode_of}
use Rattle.binlog_base.specs.declared.below.columns.column_type.ColumnType.{ColumnType}
use Rattle.binlog_base.specs.ColumnTypes.{column_number}
use Rattle.binlog_values.specs.JsonbValues.{JsonbValue}
use Rattle.binlog_values.specs.JsonbTrees.{TreeScalar, null, boolean, int, uint, double, decimal, date_time, text, opaque, Tree, merged, Data, plain, array, object, Items, no_items, item, Members, no_members, member, Denotes}
use Rattle.binlog_values.specs.JsonbOpaques.{type_prefix}
use Rattle.binlog_decimal.specs.DecimalText.{decimal_text}
use Rattle.binlog_decimal.specs.declared.time.MysqlTime.{MysqlTime}
use Rattle.binlog_decimal.specs.declared.time.MysqlTimestampType.{MysqlTimestampType}
use Rattle.binlog_decimal.specs.declared.time.MysqlTimestampType.TheVariants as kind
use Rattle.binlog_values.specs.JsonDiffs.{Diff}
use Rattle.binlog_values.specs.declared.jsondiff.JsonDiffOperation.{JsonDiffOperation}
use Rattle.binlog_values.specs.declared.jsondiff.JsonDiffOperation.TheVariants as operation
use Rattle.json.specs.Token.{Token}
use Rattle.json.specs.Token as token
use Rattle.json.specs.Json as json
use Rattle.json.specs.Json.{Json}
use Rattle.json.specs.Tree.{depth}
use Rattle.row_json.specs.Floats.{IsFloatJson}
use Rattle.row_json.specs.Times.{date_text, datetime_text, time_text}
use Rattle.row_json.specs.Values.{number_or_string}
use Rattle.row_json.specs.Wrote.{Named, items_of, members_of}

-- base64:type, the number of the column type, a colon, and the bytes in base64
abbrev pub opaque_text : ColumnType → List ℕ → List ℕ
opaque_text type bytes = (type_prefix ++ digits_of (column_number type) ++ 58 ∷ []) ++ encode_of standard bytes

-- six decimals where it has a fraction
abbrev pub decimals_of : MysqlTime → ℕ
decimals_of t = if t.second_part == 0 then 0 else 6

-- a date or time, as a column has it; a document has no other kind
abbrev pub moment_text : MysqlTimestampType → MysqlTime → List ℕ
moment_text kind.MYSQL_TIMESTAMP_DATE t = date_text t.year t.month t.day
moment_text kind.MYSQL_TIMESTAMP_DATETIME t = datetime_text (decimals_of t) t.year t.month t.day 32 t.hour t.minute t.second t.second_part
moment_text kind.MYSQL_TIMESTAMP_TIME t = time_text (decimals_of t) t.neg t.hour t.minute t.second t.second_part
moment_text _ t = []

abbrev pub IsScalarJson : TreeScalar → Json → Type 0
IsScalarJson null j = j ≡ json.null
IsScalarJson (boolean b) j = j ≡ json.boolean b
IsScalarJson (int z) j = j ≡ json.number (signed_decimal z)
IsScalarJson (uint n) j = j ≡ json.number (digits_of n)
IsScalarJson (double bits) j = IsFloatJson binary64 bits j
IsScalarJson (decimal d) j = j ≡ number_or_string (decimal_text d)
IsScalarJson (date_time t) j = j ≡ json.string (moment_text t.time_type t)
IsScalarJson (text bytes) j = j ≡ json.string bytes
IsScalarJson (opaque type bytes) j = j ≡ json.string (opaque_text type bytes)

-- the JSON has the tree's values, in their order
abbrev mutual
  pub IsDataJson : Data → Json → Type 0
  IsDataJson (plain s) j = IsScalarJson s j
  IsDataJson (array ds) j = (js : List Json) × AreItems ds js × (j ≡ json.array (items_of js))
  IsDataJson (object ms) j = (js : List Named) × AreMembers ms js × (j ≡ json.object (members_of js))

  pub AreItems : Items → List Json → Type 0
  AreItems no_items js = js ≡ []
  AreItems (item d ds) js = (first : Json) × (more : List Json) × IsDataJson d first × AreItems ds more × (js ≡ first ∷ more)

  pub AreMembers : Members → List Named → Type 0
  AreMembers no_members js = js ≡ []
  AreMembers (member key d ms) js = (first : Json) × (more : List Named) × IsDataJson d first × AreMembers ms more × (js ≡ (key, first) ∷ more)

-- the JSON of the tree that the value denotes, which nests at most 100 levels
abbrev pub IsDocumentJson : JsonbValue → Json → Type 0
IsDocumentJson value j = (t : Tree) × Denotes t (Ok value) × IsDataJson (merged t) j × (depth j ≤ 100)

abbrev pub operation_name : JsonDiffOperation → List ℕ
operation_name operation.REPLACE = codes "replace"
operation_name operation.INSERT = codes "insert"
operation_name operation.REMOVE = codes "remove"

-- the members `op` and `path`
abbrev pub place_tokens : Diff → List Token
place_tokens d = token.key (codes "op") ∷ token.string (operation_name d.operation) ∷ token.key (codes "path") ∷ token.string (utf8_lossy d.path) ∷ []

abbrev pub IsDiffValue : Option JsonbValue → List Named → Type 0
IsDiffValue None ms = ms ≡ []
IsDiffValue (Some value) ms = (j : Json) × IsDocumentJson value j × (ms ≡ (codes "value", j) ∷ [])

-- {"op": .., "path": .., "value": ..}
abbrev pub IsDiffJson : Diff → Json → Type 0
IsDiffJson d j = (ms : List Named) × IsDiffValue d.value ms
    × (j ≡ json.object (members_of ((codes "op", json.string (operation_name d.operation)) ∷ (codes "path", json.string (utf8_lossy d.path)) ∷ ms)))

abbrev pub AreDiffs : List Diff → List Json → Type 0
AreDiffs [] js = js ≡ []
AreDiffs (d ∷ ds) js = (first : Json) × (more : List Json) × IsDiffJson d first × AreDiffs ds more × (js ≡ first ∷ more)

abbrev pub IsDiffsJson : List Diff → Json → Type 0
IsDiffsJson ds j = (js : List Json) × AreDiffs ds js × (j ≡ json.array (items_of js))
