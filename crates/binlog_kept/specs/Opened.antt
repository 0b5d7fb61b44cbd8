-- Which table map event is opened, and which plans are told of its table.
use Rattle.std.specs.Prelude.{◌≡◌, ℕ, nat_eq, if◌then◌else◌, Option, Some, None, IfSome}
use Rattle.binlog_table.specs.TableMap.{TableMap, without_id}
use Rattle.mysql_binlog_rows.specs.Kept.{Planned}

-- the first table map event if it has the table id, else another
abbrev pub first_or : Option TableMap → ℕ → Option TableMap → Option TableMap
first_or None id other = other
first_or (Some t) id other = if nat_eq id t.table_id then Some t else other

-- what was opened is in force under this table id, if one is given
abbrev pub IsOpen : Option TableMap → Option ℕ → (ℕ → Option TableMap) → Type 0
IsOpen opened open_id in_force = (id : ℕ) → open_id ≡ Some id → opened ≡ in_force id

-- the table map event whose plans are kept, if there is one, is the one that was opened
abbrev pub IsOpened : Option TableMap → Option TableMap → Type 0
IsOpened kept opened = (t : TableMap) → kept ≡ Some t → opened ≡ Some t

-- the plan, if there is one, was made for a table map event that tells the same of its table as this one
abbrev pub IsToldBy : TableMap → Option Planned → Type 0
IsToldBy t plan = IfSome plan (λ p. without_id p.table ≡ without_id t)

-- the same, of the table map event that is opened, if there is one
abbrev pub IsToldIf : Option TableMap → Option Planned → Type 0
IsToldIf opened plan = IfSome opened (λ t. IsToldBy t plan)
