-- What an iterator over pairs keeps of a table map event, and how it reads images by that.
use Rattle.std.specs.Prelude.{◌≡◌, ℕ, suc, Bool, true, false, List, [], ◌∷◌, drop, slice_index_or, unwrap_or, Option, Some, None, Result, Ok, Err, ◌+◌, if◌then◌else◌}
use Rattle.std.specs.Option.{option_map}
use Rattle.binlog_base.specs.declared.bits.BitOrder.TheVariants.{LeastSignificantFirst}
use Rattle.binlog_base.specs.declared.fault.Fault.{Fault}
use Rattle.binlog_base.specs.declared.fault.Fault.TheVariants.{NoColumnType}
use Rattle.binlog_base.specs.Format.{Format, no_bytes, refusal, check, sequence, map_value, choice}
use Rattle.binlog_base.specs.Bits.{count_set, bit_list}
use Rattle.binlog_base.specs.ColumnLists.{ColumnList}
use Rattle.binlog_base.specs.Values.{ColumnView, column_flags_of, Null}
use Rattle.binlog_table.specs.TableMap.{TableMap}
use Rattle.binlog_table.specs.ColumnTypes.{json_count}
use Rattle.binlog_table.specs.Extracted.{field_fault}
use Rattle.binlog_table.specs.TableColumns.{Column, table_columns}
use Rattle.binlog_cells.specs.declared.value.form.Form.{Form}
use Rattle.binlog_cells.specs.declared.value.form.Form.TheVariants as form
use Rattle.mysql_binlog_rows.specs.declared.row.plan.Way.{Way}
use Rattle.mysql_binlog_rows.specs.declared.row.plan.Way.TheVariants as way
use Rattle.mysql_binlog_rows.specs.RowsEvent.{RowsEvent, image_columns, same_columns, has_options}
use Rattle.binlog_cells.specs.Cells.{Cell, PlainCell}
use Rattle.binlog_cells.specs.Forms.{form_of, cell_by}
use Rattle.mysql_binlog_rows.specs.Images.{BinlogRow, Pair, default_name, row_flags, row_column, is_json, partial_bits, pair}

-- ---- what is kept

-- how the cells of a column are read, or their fault; and, for a JSON column, how many columns
-- before it have the raw type JSON
pub record Slot : Type 0 where
  pub form : Result Form Fault
  pub json_place : Option ℕ

-- the same, by what the code keeps
abbrev pub slot_in : Way → Slot
slot_in (way.Plain f) = record { form = Ok (form.Plain f); json_place = None }
slot_in (way.Json place) = record { form = Ok form.Json; json_place = Some place }
slot_in way.JsonElement = record { form = Ok form.Json; json_place = None }
slot_in (way.Fault e) = record { form = Err e; json_place = None }

-- Of the columns of an event up to the first with a fault: how the cells of those in the image are
-- read; those in the image as rows have them; how many columns there are; and the fault.
pub record Planned : Type 0 where
  pub slots : List Slot
  pub columns : List ColumnView
  pub walked : ℕ
  pub fault : Option Fault

-- column i of a table, as rows have it, by the names of the table in a list of columns
abbrev pub column_in : ColumnList → ℕ → Column → ColumnView
column_in l i c = record {
  column_type = c.column_type;
  schema = l.schema;
  table = l.table;
  org_table = l.table;
  name = unwrap_or c.name (default_name i);
  flags = column_flags_of (row_flags c.unsigned c.is_key);
  character_set = c.charset;
}

-- for a JSON column, how many columns before it have the raw type JSON
abbrev pub json_place_of : Column → Option ℕ
json_place_of c = if is_json c.column_type then Some c.json_place else None

-- what a plan keeps of a column in the image
abbrev pub slot_of : Column → Slot
slot_of c = record { form = form_of c.column_type (unwrap_or c.metadata []) c.unsigned; json_place = json_place_of c }

-- what is kept of a column, before what is kept of others, if the column is in the image
abbrev pub when_present : {A : Type 0} → Bool → A → List A → List A
when_present true x more = x ∷ more
when_present false x more = more

-- no columns, and then this fault or none
abbrev pub nothing_then : Option Fault → Planned
nothing_then fault = record { slots = []; columns = []; walked = 0; fault = fault }

-- a column of index i, and the columns after it
abbrev pub column_then : TableMap → ℕ → Column → Bool → Planned → Planned
column_then t i c present others = record {
  slots = when_present present (slot_of c) others.slots;
  columns = when_present present (row_column t i c) others.columns;
  walked = suc others.walked;
  fault = others.fault;
}

-- the same, or the fault of the column, after which no column is read
abbrev pub planned_then : TableMap → ℕ → Result Column Fault → Bool → Planned → Planned
planned_then t i (Ok c) present others = column_then t i c present others
planned_then t i (Err e) present others = nothing_then (Some e)

-- the first column of a walk; NoColumnType after its last one
abbrev pub first_column : List (Result Column Fault) → Result Column Fault
first_column [] = Err NoColumnType
first_column (c ∷ walk) = c

-- the walk after its first column
abbrev pub after_first : List (Result Column Fault) → List (Result Column Fault)
after_first [] = []
after_first (c ∷ walk) = walk

-- the columns from index i on, by a walk over the table's columns, with a bit for each column of
-- the event that says whether it is in the image
abbrev pub planned_from : TableMap → ℕ → List (Result Column Fault) → List Bool → Planned
planned_from t i walk [] = nothing_then None
planned_from t i walk (present ∷ others) = planned_then t i (first_column walk) present (planned_from t (suc i) (after_first walk) others)

-- no columns but the fault, where a field of the optional metadata is faulty
abbrev pub unless_refused : Option Fault → Planned → Planned
unless_refused None planned = planned
unless_refused (Some e) planned = nothing_then (Some e)

-- how images with the same bitmap are read: the count of null bits, how many columns of the table
-- have the raw type JSON, and the columns of the event
pub record Plan : Type 0 where
  pub count : ℕ
  pub json_columns : ℕ
  pub planned : Planned

-- the plan of images that have the columns with a set bit
abbrev pub plan_of : TableMap → List Bool → Plan
plan_of t present = record {
  count = count_set present;
  json_columns = json_count t.types;
  planned = unless_refused (field_fault t) (planned_from t 0 (table_columns t) present);
}

-- how many columns were walked over for a plan
abbrev pub walked_in : Option Plan → ℕ
walked_in None = 0
walked_in (Some p) = p.planned.walked

-- how the pairs of an event are read: the plans of both images, whether these are one plan, whether
-- the images after the change have options, and how many columns were walked over to make the plans
pub record Plans : Type 0 where
  pub before : Option Plan
  pub after : Option Plan
  pub is_one : Bool
  pub has_options : Bool
  pub walked : ℕ

-- where both images have the same columns, they share the plan that was made for the first
abbrev pub walked_apart : Bool → Option Plan → ℕ
walked_apart true p = 0
walked_apart false p = walked_in p

-- the plans of both images, each by a bit for each column of the event
abbrev pub plans_by : TableMap → Bool → Option (List Bool) → Option (List Bool) → Plans
plans_by t options before after = record {
  before = option_map (plan_of t) before;
  after = option_map (plan_of t) after;
  is_one = same_columns before after;
  has_options = options;
  walked = walked_in (option_map (plan_of t) before) + walked_apart (same_columns before after) (option_map (plan_of t) after);
}

-- the plans for the images of an event
abbrev pub plans_of : TableMap → RowsEvent → Plans
plans_of t e = plans_by t (has_options e.event_type) (image_columns e.num_columns e.before) (image_columns e.num_columns e.after)

-- how many columns were walked over to make the plans
abbrev pub slot_count : Plans → ℕ
slot_count p = p.walked

-- ---- how images are read by it

-- the end of the columns, or their fault
abbrev pub ends : Option Fault → Format (List (Option Cell))
ends None = no_bytes []
ends (Some e) = refusal e

-- whether the cells of a column are partial, by the partial bits
abbrev pub is_partial_slot : List Bool → Slot → Bool
is_partial_slot partials s = unwrap_or (option_map (λ k. slice_index_or partials k false) s.json_place) false

-- NULL, which takes no bytes; or a cell, read as the plan says; or the fault of the column's cells
unfoldable pub slot_cell : Bool → List Bool → Slot → Format Cell
slot_cell is_null partials s = choice is_null (no_bytes (PlainCell Null)) (sequence (check s.form) (cell_by (is_partial_slot partials s)))

-- the cells of the columns in the image, and then the fault of a column, if one has a fault
unfoldable pub slot_cells : List Bool → List Slot → Option Fault → List Bool → Format (List (Option Cell))
slot_cells partials [] end nulls = ends end
slot_cells partials (s ∷ slots) end nulls =
    sequence (slot_cell (slice_index_or nulls 0 false) partials s) (λ v. map_value (slot_cells partials slots end (drop 1 nulls)) (λ vs. Some v ∷ vs))

-- the partial bits of an image; none where it has no options
abbrev pub planned_options : Bool → Plan → Format (List Bool)
planned_options options p = choice options (partial_bits p.json_columns) (no_bytes [])

-- an image, read by a plan: the options, the null bits, and the cells
unfoldable pub planned_image : Bool → Plan → Format BinlogRow
planned_image options p =
    sequence (planned_options options p) (λ partials.
    sequence (bit_list LeastSignificantFirst p.count) (λ nulls.
    map_value (slot_cells partials p.planned.slots p.planned.fault nulls) (λ values. record {
      columns = p.planned.columns;
      values = values;
    })))

-- the image, if the event has it
abbrev pub planned_maybe : Bool → Option Plan → Format (Option BinlogRow)
planned_maybe options None = no_bytes None
planned_maybe options (Some p) = map_value (planned_image options p) Some

-- a pair of images, read by the plans
unfoldable pub planned_pair : Plans → Format Pair
planned_pair p = sequence (planned_maybe false p.before) (λ before. map_value (planned_maybe p.has_options p.after) (λ after. (before, after)))

-- by these plans, pairs of these events are read
abbrev pub Reads : TableMap → RowsEvent → Plans → Type 0
Reads t e plans = (x : List ℕ) → (planned_pair plans).parse x ≡ (pair t e).parse x
