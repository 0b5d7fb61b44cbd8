-- How many bytes of memory what is kept of a table takes.
use Rattle.std.specs.Prelude.{ℕ, ◌+◌, ◌*◌, length}
use Rattle.binlog_table.specs.TableMap.{TableMap}
use Rattle.mysql_binlog_rows.specs.Memory.{in_usize}

-- The names of the database and the table four times, the optional metadata, in which are the names of the
-- columns, four times, 200 bytes for each column, and what holds them.
abbrev pub table_weight : TableMap → ℕ
table_weight t = in_usize (1024 + 4 * (length t.database + length t.table) + 4 * length t.optional_metadata + 200 * t.columns_count)
