-- The tree of values that a binary JSON value denotes: first with the entries of its objects in
-- their order, and then with each key once.
use Rattle.std.specs.Prelude.{◌≡◌, ℕ, suc, ◌<◌, nat_lt, ℤ, Bool, true, false, List, [], length, Result, Ok, Err, if◌then◌else◌}
use Rattle.std.specs.Cmp.Lexicographic.{slice_cmp}
use Rattle.std.specs.Ordering.{nat_cmp, match_ordering}
use Rattle.std.specs.Str.{is_utf8}
use Rattle.std.specs.Str.Lossy.{utf8_lossy}
use Rattle.byteorder.specs.Endian.{little_number, twos_complement}
use Rattle.binlog_base.specs.declared.below.columns.column_type.ColumnType.{ColumnType}
use Rattle.binlog_base.specs.declared.below.columns.column_type.ColumnType.TheVariants as column
use Rattle.binlog_base.specs.declared.fault.Fault.{Fault}
use Rattle.binlog_base.specs.declared.fault.Fault.TheVariants.{InvalidUtf8, OpaqueTooShort}
use Rattle.binlog_base.specs.Format.{◌>>=◌}
use Rattle.binlog_decimal.specs.declared.time.MysqlTime.{MysqlTime}
use Rattle.binlog_decimal.specs.Decimals.{DecimalView}
use Rattle.binlog_decimal.specs.PackedDecimals.{counted_decimal}
use Rattle.binlog_decimal.specs.Times.{date_of, time_of, datetime_of}
use Rattle.binlog_values.specs.JsonbValues.{Frame, Scalar, Null, Boolean, I16, U16, I32, U32, I64, U64, F64, Text, Opaque, JsonbValue, scalar, nested, key_at, element_at}

-- ---- scalars

-- a scalar of a tree
pub data TreeScalar : Type 0 where
  null : TreeScalar
  boolean : (value : Bool) → TreeScalar
  int : (number : ℤ) → TreeScalar
  uint : (number : ℕ) → TreeScalar
  double : (bits : ℕ) → TreeScalar
  decimal : (value : DecimalView) → TreeScalar
  date_time : (value : MysqlTime) → TreeScalar
  text : (bytes : List ℕ) → TreeScalar
  opaque : (type : ColumnType) (bytes : List ℕ) → TreeScalar

-- the packed number of a date or time: the first eight bytes, and later ones are ignored
abbrev pub packed_number : List ℕ → Result ℤ Fault
packed_number bytes = if nat_lt (length bytes) 8 then Err OpaqueTooShort else Ok (twos_complement 8 (little_number 8 bytes))

-- a date or time by its packed number, or the fault
abbrev pub packed_time : (ℤ → MysqlTime) → List ℕ → Result TreeScalar Fault
packed_time time bytes = packed_number bytes >>= λ z. Ok (date_time (time z))

-- An opaque value: a decimal by its precision and scale, without the groups of zeros at its start;
-- a date or a time; others stay opaque.
unfoldable pub opaque_scalar : ColumnType → List ℕ → Result TreeScalar Fault
opaque_scalar column.MYSQL_TYPE_NEWDECIMAL bytes = (counted_decimal false).parse bytes >>= λ d. Ok (decimal d.0)
opaque_scalar column.MYSQL_TYPE_DATE bytes = packed_time date_of bytes
opaque_scalar column.MYSQL_TYPE_TIME bytes = packed_time time_of bytes
opaque_scalar column.MYSQL_TYPE_DATETIME bytes = packed_time datetime_of bytes
opaque_scalar column.MYSQL_TYPE_TIMESTAMP bytes = packed_time datetime_of bytes
opaque_scalar type bytes = Ok (opaque type bytes)

-- a string is UTF-8
abbrev pub text_scalar : List ℕ → Result TreeScalar Fault
text_scalar bytes = if is_utf8 bytes then Ok (text bytes) else Err InvalidUtf8

-- what a scalar is in a tree, or its fault
unfoldable pub tree_scalar : Scalar → Result TreeScalar Fault
tree_scalar Null = Ok null
tree_scalar (Boolean b) = Ok (boolean b)
tree_scalar (I16 n) = Ok (int n)
tree_scalar (U16 n) = Ok (uint n)
tree_scalar (I32 n) = Ok (int n)
tree_scalar (U32 n) = Ok (uint n)
tree_scalar (I64 n) = Ok (int n)
tree_scalar (U64 n) = Ok (uint n)
tree_scalar (F64 bits) = Ok (double bits)
tree_scalar (Text bytes) = text_scalar bytes
tree_scalar (Opaque type bytes) = opaque_scalar type bytes

-- ---- the tree

-- A tree: a scalar, or an array or an object with its entries. Each entry is a key and a tree; the
-- keys of an array are empty.
mutual
  pub data Tree : Type 0 where
    leaf : TreeScalar → Tree
    node : (is_array : Bool) (entries : Branches) → Tree

  pub data Branches : Type 0 where
    no_branches : Branches
    branch : (key : List ℕ) (value : Tree) (later : Branches) → Branches

-- the key of an entry
abbrev pub entry_key : Frame → ℕ → Result (List ℕ) Fault
entry_key c i = if c.is_array then Ok [] else key_at c i

-- what is read denotes this tree: each key and each value is there, and each value denotes its tree
abbrev mutual
  pub Denotes : Tree → Result JsonbValue Fault → Type 0
  Denotes (leaf p) r = (s : Scalar) × (r ≡ Ok (scalar s)) × (tree_scalar s ≡ Ok p)
  Denotes (node is_array entries) r = (c : Frame) × (r ≡ Ok (nested c)) × (c.is_array ≡ is_array) × DenoteFrom entries c 0

  -- the entries of a container from index i on
  pub DenoteFrom : Branches → Frame → ℕ → Type 0
  DenoteFrom no_branches c i = c.count ≡ i
  DenoteFrom (branch key value later) c i = (i < c.count) × (entry_key c i ≡ Ok key) × Denotes value (element_at c i) × DenoteFrom later c (suc i)

-- ---- each key once

-- what `merged` makes of a tree: objects have each key once, in the order of the keys
mutual
  pub data Data : Type 0 where
    plain : TreeScalar → Data
    array : Items → Data
    object : Members → Data

  pub data Items : Type 0 where
    no_items : Items
    item : (value : Data) (later : Items) → Items

  pub data Members : Type 0 where
    no_members : Members
    member : (key : List ℕ) (value : Data) (later : Members) → Members

-- the members, in the order of their keys, with the value d at the key k
abbrev pub put : List ℕ → Data → Members → Members
put k d no_members = member k d no_members
put k d (member l e ms) = match_ordering (slice_cmp nat_cmp k l) (member k d (member l e ms)) (member l d ms) (member l e (put k d ms))

-- the tree with keys as text, with U+FFFD for what isn't UTF-8, and with the last of equal keys
abbrev mutual
  pub merged : Tree → Data
  merged (leaf p) = plain p
  merged (node true bs) = array (merged_items bs)
  merged (node false bs) = object (merged_into no_members bs)

  pub merged_items : Branches → Items
  merged_items no_branches = no_items
  merged_items (branch key value later) = item (merged value) (merged_items later)

  pub merged_into : Members → Branches → Members
  merged_into ms no_branches = ms
  merged_into ms (branch key value later) = merged_into (put (utf8_lossy key) (merged value) ms) later
