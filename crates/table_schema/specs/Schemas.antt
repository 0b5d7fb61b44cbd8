-- What is known of tables from outside a binlog.
use Rattle.std.specs.Prelude.{ℕ, Bool, List}
use Rattle.table_schema.specs.declared.types.SchemaType.{SchemaType}

-- A column: its name, its type, whether its numbers are unsigned, whether it may be NULL, the number of its character
-- set, the names of the values of an ENUM or SET, in UTF-8, and whether its values are computed from others.
pub record Column : Type 0 where
  pub name : List ℕ
  pub kind : SchemaType
  pub unsigned : Bool
  pub nullable : Bool
  pub charset : ℕ
  pub values : List (List ℕ)
  pub generated : Bool

-- a column of a key, by its number, and how many characters of it the key takes: 0 for all
pub record Part : Type 0 where
  pub column : ℕ
  pub prefix : ℕ

pub record Table : Type 0 where
  pub columns : List Column
  pub key : List Part
