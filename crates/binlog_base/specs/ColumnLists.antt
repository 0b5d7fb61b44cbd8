-- The columns of a table, as they are listed one after another. All names stand in one text: the
-- schema's, the table's, and then those of the columns.
use Rattle.std.specs.Prelude.{◌≤◌, ⊤, ℕ, List, [], ◌∷◌}
use Rattle.binlog_base.specs.declared.below.columns.column_list.Listed.{Listed}
use Rattle.binlog_base.specs.ColumnNames.{TableNames}
use Rattle.binlog_base.specs.Cuts.{cut}
use Rattle.binlog_base.specs.Values.{ColumnView}

-- the names of a table's schema and of the table, and its columns so far
pub record ColumnList : Type 0 where
  pub schema : List ℕ
  pub table : List ℕ
  pub columns : List ColumnView

-- a column, by the names of its table
abbrev pub listed_column : TableNames → Listed → ColumnView
listed_column names l = record {
  column_type = l.column_type;
  schema = names.schema;
  table = names.table;
  org_table = names.org_table;
  name = cut l.start l.end names.text;
  flags = l.flags;
  character_set = l.character_set;
}

-- the name of a column stands in a text of this length
pub record IsInside (n : ℕ) (l : Listed) : Type 0 where
  pub order : l.start ≤ l.end
  pub inside : l.end ≤ n

-- the names of all columns stand in a text of this length
abbrev pub AreInside : ℕ → List Listed → Type 0
AreInside n [] = ⊤
AreInside n (l ∷ ls) = IsInside n l × AreInside n ls
