-- A binary JSON value with all that is inside it, faulty parts included; its positions in document
-- order, and the first of them that has a fault.
use Rattle.std.specs.Prelude.{ℕ, zero, suc, ◌+◌, ◌/◌, max, nat_lt, nat_le, List, [], ◌∷◌, ◌++◌, length, Option, Some, None, option_map, Result, Ok, Err, if◌then◌else◌}
use Rattle.std.specs.Result.{result_err}
use Rattle.std.specs.Option.{option_or}
use Rattle.binlog_base.specs.declared.fault.Fault.{Fault}
use Rattle.binlog_base.specs.declared.fault.Fault.TheVariants.{UnexpectedEof, NestingTooDeep, TooManyValues}
use Rattle.binlog_values.specs.JsonbValues.{Scalar, JsonbValue, scalar, nested, Frame, element_at}
use Rattle.binlog_values.specs.JsonbTrees.{tree_scalar, entry_key}

-- what is read of a value: a fault, a scalar, or a container with its entries
mutual
  pub data Document : Type 0 where
    faulty : (fault : Fault) → Document
    single : (value : Scalar) → Document
    opened : (container : Frame) (entries : Entries) → Document

  -- each entry with its key, or the key's fault
  pub data Entries : Type 0 where
    no_entries : Entries
    entry : (key : Result (List ℕ) Fault) (value : Document) (later : Entries) → Entries

-- n entries from index i on
abbrev pub entries : (ℕ → Result (List ℕ) Fault) → (ℕ → Document) → ℕ → ℕ → Entries
entries key value zero i = no_entries
entries key value (suc n) i = entry (key i) (value i) (entries key value n (suc i))

-- one level, with the documents below it by child
abbrev pub layer : (Result JsonbValue Fault → Document) → Result JsonbValue Fault → Document
layer child (Err f) = faulty f
layer child (Ok (scalar s)) = single s
layer child (Ok (nested c)) = opened c (entries (entry_key c) (λ i. child (element_at c i)) c.count 0)

-- the first n levels
unfoldable pub unfold_to : ℕ → Result JsonbValue Fault → Document
unfold_to zero r = faulty UnexpectedEof
unfold_to (suc n) r = layer (unfold_to n) r

-- more levels than there are: each container is shorter than the one that it is in
abbrev pub size_of : Result JsonbValue Fault → ℕ
size_of (Err f) = 0
size_of (Ok (scalar s)) = 0
size_of (Ok (nested c)) = suc (length c.bytes)

-- The document of what is read. It is one level, with the documents of its entries below it: the
-- law `documents_unfold` says so.
unfoldable pub document_of : Result JsonbValue Fault → Document
document_of r = unfold_to (suc (size_of r)) r

-- the entries of a container from index i on, n of them
abbrev pub entries_from : Frame → ℕ → ℕ → Entries
entries_from c i n = entries (entry_key c) (λ j. document_of (element_at c j)) n i

-- all entries of a container
abbrev pub entries_of : Frame → Entries
entries_of c = entries_from c 0 c.count

-- ---- the weight and the depth

-- how many values are inside, equal keys counted each
abbrev mutual
  pub weight : Document → ℕ
  weight (faulty f) = 0
  weight (single s) = 0
  weight (opened c es) = weights es

  pub weights : Entries → ℕ
  weights no_entries = 0
  weights (entry k d es) = 1 + weight d + weights es

-- how many containers are nested, the outermost counted
abbrev mutual
  pub depth : Document → ℕ
  depth (faulty f) = 0
  depth (single s) = 0
  depth (opened c es) = suc (depths es)

  pub depths : Entries → ℕ
  depths no_entries = 0
  depths (entry k d es) = max (depth d) (depths es)

-- ---- the positions

-- a position: its path (the indexes of the entries that lead to it from the root), its key and its
-- value
pub record Position : Type 0 where
  pub path : List ℕ
  pub key : Result (List ℕ) Fault
  pub value : Document

-- the positions inside a document, in document order: each before those inside it, and entries by
-- their indexes
abbrev mutual
  pub inside : List ℕ → Document → List Position
  inside path (faulty f) = []
  inside path (single s) = []
  inside path (opened c es) = inside_from path 0 es

  pub inside_from : List ℕ → ℕ → Entries → List Position
  inside_from path i no_entries = []
  inside_from path i (entry k d es) = record {
    path = path ++ i ∷ [];
    key = k;
    value = d;
  } ∷ inside (path ++ i ∷ []) d ++ inside_from path (suc i) es

-- all positions, the root first: a position's number is its index in this list
abbrev pub positions : Document → List Position
positions d = record { path = []; key = Ok []; value = d } ∷ inside [] d

-- ---- the first fault

-- how many containers may be nested
abbrev pub max_depth : ℕ
max_depth = 100

-- how many values may be beside the root: one for three bytes of the root container
abbrev pub limit_of : JsonbValue → ℕ
limit_of (scalar s) = 0
limit_of (nested c) = length c.bytes / 3

-- the key of the position with number n, if the limit on values is met
abbrev pub in_limit : ℕ → ℕ → Result (List ℕ) Fault → Result (List ℕ) Fault
in_limit limit n key = if nat_lt limit n then Err TooManyValues else key

-- the key of a position; or the fault of the key, of the value, or of the limit on values
abbrev pub found : ℕ → ℕ → Result (List ℕ) Fault → Document → Result (List ℕ) Fault
found limit n (Err f) d = Err f
found limit n (Ok k) (faulty f) = Err f
found limit n (Ok k) (single s) = in_limit limit n (Ok k)
found limit n (Ok k) (opened c es) = in_limit limit n (Ok k)

-- the fault of a value with `level` containers around it: that of a container's nesting, or that of
-- a scalar in the tree
abbrev pub fault_inside : ℕ → Document → Option Fault
fault_inside level (faulty f) = Some f
fault_inside level (single s) = result_err (tree_scalar s)
fault_inside level (opened c es) = if nat_le max_depth level then Some NestingTooDeep else None

-- the fault of the position with number n: its key's, its value's, that of the limit on values, and
-- then that of its nesting or its scalar
abbrev pub fault_at : ℕ → ℕ → Position → Option Fault
fault_at limit n p = option_or (result_err (found limit n p.key p.value)) (fault_inside (length p.path) p.value)

-- the first position with a fault, and its number; the first of the list has number n
abbrev pub first_fault : ℕ → ℕ → List Position → Option (Fault × ℕ)
first_fault limit n [] = None
first_fault limit n (p ∷ ps) = option_or (option_map (λ f. (f, n)) (fault_at limit n p)) (first_fault limit (suc n) ps)
