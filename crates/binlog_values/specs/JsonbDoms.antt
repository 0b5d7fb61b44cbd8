-- What contracts see of a `JsonDom` and of its parts.
use Rattle.std.specs.Prelude.{◌≡◌, ◌≢◌, ℕ, List, [], ◌∷◌, map, String, string_bytes, Result, Ok, Err, IsOk}
use Rattle.std.specs.declared.alloc.Global.{Global}
use Rattle.binlog_base.specs.declared.fault.Fault.{Fault}
use Rattle.binlog_base.specs.declared.fault.Fault.TheVariants.{Memory}
use Rattle.binlog_values.specs.declared.jsonb.dom.JsonDom.{JsonDom, fold-JsonDom}
use Rattle.binlog_values.specs.declared.jsonb.dom.JsonContainer.TheOpen.{JsonDom-F, JsonContainer-F}
use Rattle.binlog_values.specs.declared.jsonb.dom.JsonScalar.{JsonScalar}
use Rattle.binlog_values.specs.declared.jsonb.dom.JsonScalar.TheVariants as scalar
use Rattle.binlog_values.specs.declared.jsonb.dom.JsonNumber.{JsonNumber}
use Rattle.binlog_values.specs.declared.jsonb.dom.JsonNumber.TheVariants as number
use Rattle.binlog_values.specs.JsonbValues.{JsonbValue}
use Rattle.binlog_values.specs.JsonbValues as jsonb
use Rattle.binlog_values.specs.JsonbTrees.{tree_scalar, TreeScalar, null, boolean, int, uint, double, decimal, date_time, text, opaque, Tree, merged, Data, plain, array, object, Items, no_items, item, Members, no_members, member}

-- the number as a scalar of a tree
abbrev pub number_view : JsonNumber → TreeScalar
number_view (number.Decimal d) = decimal d
number_view (number.Double bits) = double bits
number_view (number.Int n) = int n
number_view (number.Uint n) = uint n

-- the scalar of a tree, without its place in memory
abbrev pub scalar_view : JsonScalar → TreeScalar
scalar_view scalar.Null = null
scalar_view (scalar.Boolean b) = boolean b
scalar_view (scalar.Number n) = number_view n
scalar_view (scalar.DateTime t) = date_time t
scalar_view (scalar.String s) = text (string_bytes s)
scalar_view (scalar.Opaque o) = opaque o.field_type o.value.items

-- what was answered is a scalar of a tree, or its fault; or memory was refused
abbrev pub GivesScalar : Result JsonScalar Fault → Result TreeScalar Fault → Type 0
GivesScalar (Ok s) r = r ≡ Ok (scalar_view s)
GivesScalar (Err f) r = f ≢ Memory → r ≡ Err f

-- the scalar is one of a tree, or this is its fault; or memory was refused
abbrev pub IsChecked : Result (Unit {0}) Fault → Result TreeScalar Fault → Type 0
IsChecked (Ok u) r = IsOk r
IsChecked (Err f) r = f ≢ Memory → r ≡ Err f

-- the answer is what the value is in a tree; the value is a scalar
abbrev pub IsScalarOf : Result JsonScalar Fault → JsonbValue → Type 0
IsScalarOf answer (jsonb.scalar s) = GivesScalar answer (tree_scalar s)
IsScalarOf answer (jsonb.nested c) = ⊥

-- the items of an array, each already seen as its data
abbrev pub items_of : List Data → Items
items_of [] = no_items
items_of (d ∷ ds) = item d (items_of ds)

-- the members of an object, each already seen as its data
abbrev pub members_of : List (String Global × Data) → Members
members_of [] = no_members
members_of (m ∷ ms) = member (string_bytes m.0) m.1 (members_of ms)

-- one level, with each value inside already seen as its data
abbrev pub container_step : JsonContainer-F Data Data → Data
container_step (JsonContainer-F.Array v) = array (items_of v.items)
container_step (JsonContainer-F.Object m) = object (members_of m.entries)

abbrev pub dom_step : JsonDom-F Data Data → Data
dom_step (JsonDom-F.Container c) = c
dom_step (JsonDom-F.Scalar s) = plain (scalar_view s)

-- the tree of the code, without its place in memory
abbrev pub dom_view : JsonDom → Data
dom_view = fold-JsonDom Data Data container_step dom_step

-- the items of an array of the code
abbrev pub items_view : List JsonDom → Items
items_view ds = items_of (map dom_view ds)

-- the members of an object of the code
abbrev pub members_view : List (String Global × JsonDom) → Members
members_view ms = members_of (map (λ m. (m.0, dom_view m.1)) ms)

-- the code's tree is that tree
abbrev pub IsTree : JsonDom → Tree → Type 0
IsTree d t = dom_view d ≡ merged t

-- the answer is that tree, or memory was refused
abbrev pub IsGiven : Result JsonDom Fault → Tree → Type 0
IsGiven (Ok d) t = IsTree d t
IsGiven (Err f) t = f ≡ Memory

-- what was answered is what reading gives, or memory was refused; n is the number of the position
-- that was read last
abbrev pub Meets : {X Y : Type 0} → (X → Y → Type 0) → Result X Fault → ℕ → Result (Y × ℕ) (Fault × ℕ) → Type 0
Meets {Y = Y} Is (Ok x) n read = (y : Y) × Is x y × (read ≡ Ok (y, n))
Meets Is (Err f) n read = f ≢ Memory → read ≡ Err (f, n)
