-- The names of a column, in a text that the columns of a table share.
use Rattle.std.specs.Prelude.{ℕ, List, [], Option, Some, None}
use Rattle.binlog_base.specs.Cuts.{cut}

-- the names of a table's schema, of the table and of its original table; and the text that these
-- and the names of its columns are in
pub record TableNames : Type 0 where
  pub schema : List ℕ
  pub table : List ℕ
  pub org_table : List ℕ
  pub text : List ℕ

-- the names of a column
pub record ColumnNames : Type 0 where
  pub schema : List ℕ
  pub table : List ℕ
  pub org_table : List ℕ
  pub name : List ℕ

abbrev pub no_names : ColumnNames
no_names = record { schema = []; table = []; org_table = []; name = [] }

-- the names of a column of a table, by where its own name begins and ends in the text
abbrev pub names_in : TableNames → ℕ → ℕ → ColumnNames
names_in t start end = record {
  schema = t.schema;
  table = t.table;
  org_table = t.org_table;
  name = cut start end t.text;
}

-- the same; empty names where there is no text
abbrev pub maybe_names_in : Option TableNames → ℕ → ℕ → ColumnNames
maybe_names_in None start end = no_names
maybe_names_in (Some t) start end = names_in t start end

abbrev pub text_of : Option TableNames → List ℕ
text_of None = []
text_of (Some t) = t.text
