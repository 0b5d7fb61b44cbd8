-- Which changes are wanted. It is a module of its own because Filter is a type of the code.
use Rattle.std.specs.Prelude.{ℕ, ◌≤◌, ⊤, Bool, false, ◌==◌, ◌&&◌, if◌then◌else◌, Option, Some, None}
use Rattle.binlog_consts.specs.declared.consts.event_type.EventType.{EventType}
use Rattle.binlog_consts.specs.declared.consts.event_type.EventType.TheVariants as types
use Rattle.binlog_table.specs.TableMap.{TableMap}
use Rattle.changed_rows.specs.declared.filter.Operation.{Operation}
use Rattle.changed_rows.specs.declared.filter.Operation.TheVariants as operation
use Rattle.changed_rows.specs.declared.filter.Operations.{Operations}
use Rattle.changed_rows.specs.declared.filter.Positions.{Positions}
use Rattle.changed_rows.specs.declared.filter.Filter.{Filter}
use Rattle.changed_rows.specs.Names.{is_from, is_before}
use Rattle.changed_rows.specs.TableNames.{wants_table}

-- what becomes of the rows of a rows event
abbrev pub operation_of : EventType → Option Operation
operation_of types.WRITE_ROWS_EVENT = Some operation.Insert
operation_of types.WRITE_ROWS_EVENT_V1 = Some operation.Insert
operation_of types.UPDATE_ROWS_EVENT = Some operation.Update
operation_of types.UPDATE_ROWS_EVENT_V1 = Some operation.Update
operation_of types.PARTIAL_UPDATE_ROWS_EVENT = Some operation.Update
operation_of types.DELETE_ROWS_EVENT = Some operation.Delete
operation_of types.DELETE_ROWS_EVENT_V1 = Some operation.Delete
operation_of _ = None

abbrev pub is_wanted : Operations → Option Operation → Bool
is_wanted o None = false
is_wanted o (Some operation.Insert) = o.inserts
is_wanted o (Some operation.Update) = o.updates
is_wanted o (Some operation.Delete) = o.deletes

abbrev pub is_among : Positions → ℕ → Bool
is_among p at = is_from p.start at && is_before p.stop at

-- ---- the start position

-- a position, if it is among those that are wanted
abbrev pub wanted_position : Positions → Option ℕ → Option ℕ
wanted_position p None = None
wanted_position p (Some at) = if is_among p at then Some at else None

-- the start position, where it is before the stop position: else nothing is wanted, whatever begins there
abbrev pub start_sought : Positions → Option ℕ
start_sought p = wanted_position p p.start

-- it isn't past a position
abbrev pub IsUpTo : Option ℕ → ℕ → Type 0
IsUpTo None at = ⊤
IsUpTo (Some start) at = at ≤ start

-- once an event begins there, it is looked for no more
abbrev pub start_after : Option ℕ → ℕ → Option ℕ
start_after None at = None
start_after (Some start) at = if start == at then None else Some start

-- ---- changes

-- a change is wanted if its event begins at one of the positions, and its operation and its table are wanted
abbrev pub wanted_by : Filter → ℕ → TableMap → EventType → Bool
wanted_by f at t type = is_among f.positions at && (is_wanted f.operations (operation_of type) && wants_table f.tables t.database t.table)
