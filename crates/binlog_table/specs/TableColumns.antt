-- The columns of a table, by its table map event.
use Rattle.std.specs.Prelude.{◌≡◌, ℕ, zero, suc, ◌<◌, ◌&&◌, Bool, true, false, List, [], ◌∷◌, ◌++◌, map, length, take, Result, Ok, Err, Option, Some, None, MatchOption, slice_index_or, min, if◌then◌else◌}
use Rattle.std.specs.Option.{option_map}
use Rattle.binlog_base.specs.declared.fault.Fault.{Fault}
use Rattle.binlog_base.specs.declared.fault.Fault.TheVariants.{NoColumnType}
use Rattle.binlog_base.specs.declared.below.columns.column_type.ColumnType.{ColumnType}
use Rattle.binlog_base.specs.declared.below.columns.server.Server.{Server}
use Rattle.binlog_base.specs.Format.{◌>>=◌}
use Rattle.binlog_base.specs.Numbers.{lenenc}
use Rattle.binlog_base.specs.Strings.{lenenc_string}
use Rattle.binlog_base.specs.Items.{items, result_map}
use Rattle.binlog_base.specs.Servers.{character_group, enum_or_set_group}
use Rattle.binlog_table.specs.declared.table_map.bad_column_type.BadColumnType.{BadColumnType}
use Rattle.binlog_table.specs.TableMap.{TableMap}
use Rattle.binlog_table.specs.Chunks.{chunk_at}
use Rattle.binlog_table.specs.ColumnTypes.{column_type_at, json_count, fault_of}
use Rattle.binlog_table.specs.Lists.{DefaultCharset, low_bits, pair_with}
use Rattle.binlog_table.specs.Fields.{in_group, is_numeric_number, numeric_count}
use Rattle.binlog_table.specs.Keys.{key_items, key_at as key_in}
use Rattle.binlog_table.specs.Charsets.{charset_at as charset_in, zero_without}
use Rattle.binlog_table.specs.Extracted.{list_or, pairs_or, kept_of, field_fault}

-- a column
pub record Column : Type 0 where
  pub column_type : ColumnType
  pub metadata : Option (List ℕ)
  pub unsigned : Bool
  pub charset : ℕ
  pub name : Option (List ℕ)
  pub is_key : Bool
  pub json_place : ℕ

-- the parts of the columns, each by the index of the column
pub record Parts : Type 0 where
  pub type : ℕ → Result ColumnType Fault
  pub chunk : ℕ → Option (List ℕ)
  pub sign : ℕ → Bool
  pub charset : ℕ → Result ℕ Fault
  pub name : ℕ → Result (Option (List ℕ)) Fault
  pub key : ℕ → Result Bool Fault
  pub json_place : ℕ → ℕ

-- column i, or its first fault: of its type, its character set, its name, its key
abbrev pub column_by : Parts → ℕ → Result Column Fault
column_by p i =
    p.type i >>= λ type. p.charset i >>= λ charset. p.name i >>= λ name. p.key i >>= λ is_key.
    Ok (record {
      column_type = type;
      metadata = p.chunk i;
      unsigned = p.sign i;
      charset = charset;
      name = name;
      is_key = is_key;
      json_place = p.json_place i;
    })

-- A walk over the columns: the fault of the optional metadata, the columns that are left, the steps
-- that were made, how many they will be after 0, 1, 2 and more of these columns, and how many steps
-- there can be if no further column is taken.
pub record ToCome : Type 0 where
  pub fault : Option Fault
  pub columns : List (Result Column Fault)
  pub steps : ℕ
  pub ahead : List ℕ
  pub most : ℕ

-- the steps once n more columns are walked over, or all that are left, if these are fewer
abbrev pub steps_then : ToCome → ℕ → ℕ
steps_then c n = slice_index_or c.ahead (min n (length c.columns)) 0

-- a column, and those after it; none follows a fault
abbrev pub column_then : Result Column Fault → List (Result Column Fault) → List (Result Column Fault)
column_then (Ok c) more = Ok c ∷ more
column_then (Err e) more = Err e ∷ []

-- the first n columns, in order, up to the first with a fault
abbrev pub columns_by : (ℕ → Result Column Fault) → ℕ → List (Result Column Fault)
columns_by f zero = []
columns_by f (suc n) = column_then (f 0) (columns_by (λ i. f (suc i)) n)

-- a column of which only is told whether it has a fault
abbrev pub passed : Result Column Fault → Result (Unit {0}) Fault
passed c = result_map (λ _. tt) c

-- A call passed over the first of the columns that were left, and told of it whether it has a fault;
-- or none were left.
abbrev pub PassesFirst : List (Result Column Fault) → Option (Result (Unit {0}) Fault) → List (Result Column Fault) → Type 0
PassesFirst old r new = MatchOption r ((old ≡ []) × (new ≡ [])) (λ told. (c : Result Column Fault) × (old ≡ c ∷ new) × (told ≡ passed c))

-- so many columns without a fault, and then others
abbrev pub PassesOver : ℕ → List (Result Column Fault) → List (Result Column Fault) → Type 0
PassesOver n old new = (front : List Column) × (length front ≡ n) × (old ≡ map Ok front ++ new)

-- the first of these columns has this fault, and the others follow it; or there are none, for which
-- the fault is NoColumnType
abbrev pub FaultFirst : Fault → List (Result Column Fault) → List (Result Column Fault) → Type 0
FaultFirst e [] new = (e ≡ NoColumnType) × (new ≡ [])
FaultFirst e (c ∷ others) new = (c ≡ Err e) × (new ≡ others)

-- A call passed over so many of the columns that were left; or over those before one with a fault,
-- and told how many they are, and the fault.
abbrev pub PassesMany : ℕ → List (Result Column Fault) → Result (Unit {0}) (ℕ × Fault) → List (Result Column Fault) → Type 0
PassesMany count old (Ok done) new = PassesOver count old new
PassesMany count old (Err stop) new =
    (stop.0 < count) × ((rest : List (Result Column Fault)) × PassesOver stop.0 old rest × FaultFirst stop.1 rest new)

-- ---- one part after another

-- the real type, or the fault of the column: NoColumnType past the table
abbrev pub typed : Result (Option ColumnType) BadColumnType → Result ColumnType Fault
typed (Ok (Some type)) = Ok type
typed (Ok None) = Err NoColumnType
typed (Err e) = Err (fault_of e)

-- the name of column i, or its fault; None after the end of the list
abbrev pub named : List (Result (List ℕ) Fault) → ℕ → Result (Option (List ℕ)) Fault
named [] i = Ok None
named (x ∷ xs) zero = result_map Some x
named (x ∷ xs) (suc i) = named xs i

-- whether column i is numeric to the server, by its type byte
abbrev pub is_numeric_at : Server → List ℕ → ℕ → Bool
is_numeric_at server [] i = false
is_numeric_at server (raw ∷ types) zero = is_numeric_number server raw
is_numeric_at server (raw ∷ types) (suc i) = is_numeric_at server types i

-- the k-th column that is numeric to the server has the k-th bit
abbrev pub sign_in : Server → List ℕ → List Bool → ℕ → Bool
sign_in server types bits i = is_numeric_at server types i && slice_index_or bits (numeric_count server (take i types)) false

-- one more, if the column is in the group
abbrev pub one_more : Bool → ℕ → ℕ
one_more true n = suc n
one_more false n = n

-- the index of column i in a group of types: how many columns before it are in the group
abbrev pub ordinal_of : (ColumnType → Bool) → (ℕ → Result ColumnType Fault) → ℕ → ℕ
ordinal_of group type zero = 0
ordinal_of group type (suc i) = one_more (in_group group (type 0)) (ordinal_of group (λ k. type (suc k)) i)

-- the character set of column i, by those of the columns of the server's two groups; 0 for a column
-- of neither
abbrev pub charset_by : Server → (ℕ → Result ℕ Fault) → (ℕ → Result ℕ Fault) → (ℕ → Result ColumnType Fault) → ℕ → Result ℕ Fault
charset_by server characters enums type i =
    if in_group (character_group server) (type i) then characters (ordinal_of (character_group server) type i) else
    (if in_group (enum_or_set_group server) (type i) then enums (ordinal_of (enum_or_set_group server) type i) else Ok 0)

-- the character set in a row of column k of a group, by the two fields of the group
abbrev pub charset_of_group : Option DefaultCharset → Option (List ℕ) → ℕ → Result ℕ Fault
charset_of_group d list k = zero_without (charset_in (option_map (λ d. d.default) d) (pairs_or d) (items (low_bits 16) (list_or list)) k)

-- ---- by the table map event alone

-- the real type of column i
abbrev pub type_at : TableMap → ℕ → Result ColumnType Fault
type_at t i = typed (column_type_at t.types t.metadata i)

-- whether the numbers of column i are unsigned
abbrev pub sign_at : TableMap → ℕ → Bool
sign_at t i = sign_in t.server t.types (list_or (kept_of t).signs) i

-- the character set of column i
abbrev pub charset_at : TableMap → ℕ → Result ℕ Fault
charset_at t i = charset_by t.server (charset_of_group (kept_of t).default (kept_of t).charsets) (charset_of_group (kept_of t).enum_default (kept_of t).enum_charsets) (type_at t) i

-- the name of column i, if it has one
abbrev pub name_at : TableMap → ℕ → Result (Option (List ℕ)) Fault
name_at t i = named (items lenenc_string (list_or (kept_of t).names)) i

-- whether column i is a key column
abbrev pub key_at : TableMap → ℕ → Result Bool Fault
key_at t i =
    key_in (key_items (items lenenc (list_or (kept_of t).simple)) (items (pair_with lenenc) (list_or (kept_of t).prefixed))) i

abbrev pub parts_of : TableMap → Parts
parts_of t = record {
  type = type_at t;
  chunk = chunk_at t.types t.metadata;
  sign = sign_at t;
  charset = charset_at t;
  name = name_at t;
  key = key_at t;
  json_place = λ i. json_count (take i t.types);
}

-- column i, or its first fault
unfoldable pub column_at : TableMap → ℕ → Result Column Fault
column_at t i = column_by (parts_of t) i

-- none where there is a fault
abbrev pub unless_faulty : {A : Type 0} → Option Fault → List A → List A
unless_faulty None xs = xs
unless_faulty (Some e) xs = []

-- the columns up to the first with a fault; none where a field of the optional metadata is faulty
abbrev pub table_columns : TableMap → List (Result Column Fault)
table_columns t = unless_faulty (field_fault t) (columns_by (column_at t) (length t.types))
