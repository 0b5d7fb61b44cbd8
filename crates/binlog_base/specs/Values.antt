-- Values, columns and rows, without their place in memory.
use Rattle.std.specs.Prelude.{ℕ, ℤ, Bool, List, Option, option_and_then, slice_get}
use Rattle.binlog_base.specs.declared.below.columns.column_flags.ColumnFlags.{ColumnFlags}
use Rattle.binlog_base.specs.declared.below.columns.column_type.ColumnType.{ColumnType}
use Rattle.binlog_base.specs.declared.below.columns.value.Value.{Value}
use Rattle.binlog_base.specs.declared.below.columns.value.Value.TheVariants as value

-- a value of a row; NULL is a value too
pub data PlainValue : Type 0 where
  Null : PlainValue
  Bytes : (bytes : List ℕ) → PlainValue
  Int : (number : ℤ) → PlainValue
  UInt : (number : ℕ) → PlainValue
  Float : (bits : ℕ) → PlainValue
  Double : (bits : ℕ) → PlainValue
  Date : (year : ℕ) (month : ℕ) (day : ℕ) (hour : ℕ) (minute : ℕ) (second : ℕ) (microseconds : ℕ) → PlainValue
  Time : (is_negative : Bool) (days : ℕ) (hours : ℕ) (minutes : ℕ) (seconds : ℕ) (microseconds : ℕ) → PlainValue

-- the value, without its place in memory
abbrev pub plain_of : Value → PlainValue
plain_of value.NULL = Null
plain_of (value.Bytes bytes) = Bytes bytes.items
plain_of (value.Int number) = Int number
plain_of (value.UInt number) = UInt number
plain_of (value.Float bits) = Float bits
plain_of (value.Double bits) = Double bits
plain_of (value.Date y m d h i s u) = Date y m d h i s u
plain_of (value.Time is_negative d h i s u) = Time is_negative d h i s u

-- the column flags with these bits
abbrev pub column_flags_of : ℕ → ColumnFlags
column_flags_of bits = record { 0 = bits }

abbrev pub no_flags : ColumnFlags
no_flags = column_flags_of 0

-- a column of a row
pub record ColumnView : Type 0 where
  pub column_type : ColumnType
  pub schema : List ℕ
  pub table : List ℕ
  pub org_table : List ℕ
  pub name : List ℕ
  pub flags : ColumnFlags
  pub character_set : ℕ

-- a row: its columns, and a value for each; None where the value was taken out
pub record RowView : Type 0 where
  pub columns : List ColumnView
  pub values : List (Option PlainValue)

-- the value or cell at index i, counted from 0; None past the last index, or where there is no
-- value
abbrev pub value_at : {V : Type 0} → List (Option V) → ℕ → Option V
value_at values i = option_and_then (λ value. value) (slice_get values i)
