-- The member `source` of a line.
use Rattle.std.specs.Prelude.{◌*◌, ℕ, List, [], ◌∷◌, codes, decimal, Option, Some, None}
use Rattle.std.specs.Str.Lossy.{utf8_lossy}
use Rattle.json.specs.Json.{Json, null, string, number, object}
use Rattle.binlog_table.specs.TableMap.{TableMap}
use Rattle.binlog_events.specs.declared.origin.Origin.{Origin}
use Rattle.row_json.specs.Wrote.{Named, members_of}

-- a text, or null
abbrev pub text_or_null : Option (List ℕ) → Json
text_or_null None = null
text_or_null (Some text) = string text

-- where a row comes from: the name of the file, the event, the row's number in it, the GTID, and the names
-- of the database and the table
abbrev pub source_fields : List ℕ → Origin → ℕ → Option (List ℕ) → List ℕ → List ℕ → List Named
source_fields file from row gtid database table =
    (codes "file", string file)
    ∷ (codes "pos", number (decimal from.position))
    ∷ (codes "row", number (decimal row))
    ∷ (codes "ts_ms", number (decimal (from.timestamp * 1000)))
    ∷ (codes "server_id", number (decimal from.server_id))
    ∷ (codes "gtid", text_or_null gtid)
    ∷ (codes "db", string database)
    ∷ (codes "table", string table)
    ∷ []

-- the member `source`, which has these fields
abbrev pub source_member : List Named → List Named
source_member fields = (codes "source", object (members_of fields)) ∷ []

-- the member of a row of a table, whose names are lossy
abbrev pub member_of_row : List ℕ → Option (List ℕ) → Origin → TableMap → ℕ → List Named
member_of_row file gtid from t row = source_member (source_fields file from row gtid (utf8_lossy t.database) (utf8_lossy t.table))
