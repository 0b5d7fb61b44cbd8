-- What is kept of a table. It is a module of its own because Table is a type of the code.
use Rattle.std.specs.Prelude.{◌≡◌, Option, Some, None}
use Rattle.std.specs.String.{string_bytes}
use Rattle.std.specs.Str.Lossy.{utf8_lossy}
use Rattle.binlog_table.specs.TableMap.{TableMap, without_id}
use Rattle.row_json.specs.Columns.{columns_of}
use Rattle.binlog_kept.specs.Kept.{Generations}
use Rattle.changed_rows.specs.declared.table.Table.{Table}

-- what is kept is that of the table that the event describes
pub record Tells (t : TableMap) (k : Table) : Type 0 where
  pub columns : k.json ≡ columns_of t
  pub database : string_bytes k.database ≡ utf8_lossy t.database
  pub name : string_bytes k.name ≡ utf8_lossy t.table

-- what is kept of tables: what is stored, up to a bound, and the last one for which there was no room
pub record TablesKept : Type 0 where
  pub stored : Generations Table
  pub last : Option Table

-- something is kept, and is that of the table
abbrev pub TellsIf : Option Table → TableMap → Type 0
TellsIf None t = ⊥
TellsIf (Some k) t = Tells t k

-- something is kept, and its event tells the same of the table as this one: all but the id
abbrev pub TellsAlike : Option Table → TableMap → Type 0
TellsAlike None t = ⊥
TellsAlike (Some k) t = without_id k.event ≡ without_id t
