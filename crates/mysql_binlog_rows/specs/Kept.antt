-- A plan that is kept for later events, and the events that it serves.
use Rattle.std.specs.Prelude.{◌≡◌, ℕ, ◌+◌, ◌*◌, Bool, List, length, Option, Some, None}
use Rattle.binlog_table.specs.TableMap.{TableMap, without_id}
use Rattle.mysql_binlog_rows.specs.RowsEvent.{RowsEvent, image_columns, bitmap_length, has_options}
use Rattle.mysql_binlog_rows.specs.Workings.Plans.{Plans, plans_by}
use Rattle.mysql_binlog_rows.specs.Memory.{in_usize, plans_bytes}

-- what a plan was made for: the table map event, whether the images after the change have options,
-- how many columns the rows event has, and the bitmaps of its images
pub record Planned : Type 0 where
  pub table : TableMap
  pub has_options : Bool
  pub num_columns : ℕ
  pub before : Option (List ℕ)
  pub after : Option (List ℕ)

-- The plan serves this rows event, whatever its table: it has the same images of the same columns.
pub record Fits (p : Planned) (e : RowsEvent) : Type 0 where
  pub options : p.has_options ≡ has_options e.event_type
  pub num_columns : p.num_columns ≡ e.num_columns
  pub before : p.before ≡ e.before
  pub after : p.after ≡ e.after

-- The plan serves these events: the table map event tells the same of its table, and the rows event
-- has the same images of the same columns.
pub record Serves (p : Planned) (t : TableMap) (e : RowsEvent) : Type 0 where
  pub table : without_id p.table ≡ without_id t
  pub options : p.has_options ≡ has_options e.event_type
  pub num_columns : p.num_columns ≡ e.num_columns
  pub before : p.before ≡ e.before
  pub after : p.after ≡ e.after

-- a plan is kept, and serves these events
abbrev pub KeptServes : Option Planned → TableMap → RowsEvent → Type 0
KeptServes None t e = ⊥
KeptServes (Some p) t e = Serves p t e

-- the plans that were made
abbrev pub plans_kept : Planned → Plans
plans_kept p = plans_by p.table p.has_options (image_columns p.num_columns p.before) (image_columns p.num_columns p.after)

-- the bitmaps of the images, and the names of the database and of the table, which stand in the text
-- of each plan, for which room is made twice
abbrev pub told_bytes : Planned → ℕ
told_bytes p = bitmap_length p.before + bitmap_length p.after + 4 * (length p.table.database + length p.table.table)

-- How many bytes of memory a kept plan takes; 0 where none is kept. The table map event isn't
-- counted, because others may share it.
abbrev pub kept_bytes : Option Planned → ℕ
kept_bytes None = 0
kept_bytes (Some p) = in_usize (512 + told_bytes p + plans_bytes (plans_kept p))
