-- How many bytes of memory the plans take that are kept for many tables.
use Rattle.std.specs.Prelude.{ℕ, ◌+◌, ◌*◌, length, Option, Some, None}
use Rattle.binlog_table.specs.TableMap.{TableMap}
use Rattle.mysql_binlog_rows.specs.Kept.{Planned, kept_bytes}
use Rattle.mysql_binlog_rows.specs.Memory.{in_usize}

-- A table map event: its names, its optional metadata, eight bytes for each column's type, metadata and
-- null bit, and what holds them.
abbrev pub table_bytes : TableMap → ℕ
table_bytes t = in_usize (768 + length t.database + length t.table + length t.optional_metadata + 8 * t.columns_count)

-- the table map event that a plan was made for, if one is kept
abbrev pub maybe_table_bytes : Option Planned → ℕ
maybe_table_bytes None = 0
maybe_table_bytes (Some p) = table_bytes p.table

-- A plan with its table map event, which nothing else may keep.
abbrev pub plan_weight : Option Planned → ℕ
plan_weight p = in_usize (kept_bytes p + maybe_table_bytes p)
