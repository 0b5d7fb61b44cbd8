-- What the laws of binary JSON say: where the bytes of a container are, how long its header is,
-- what the number of a position is, and which fault is the first.
use Rattle.std.specs.Prelude.{◌≡◌, ℕ, zero, suc, ◌+◌, ◌*◌, ◌<◌, ◌≤◌, nat_lt, if◌then◌else◌, Bool, List, [], ◌∷◌, ◌++◌, length, slice_get, Option, Some, None, Result, Ok}
use Rattle.binlog_base.specs.declared.fault.Fault.{Fault}
use Rattle.binlog_values.specs.JsonbValues.{Frame, container, nested, json, element_at}
use Rattle.binlog_values.specs.JsonbTrees.{entry_key}
use Rattle.binlog_values.specs.JsonbDocuments.{Document, faulty, single, opened, Entries, no_entries, entry, document_of, entries_of, weight, Position, positions, fault_at, first_fault}
use Rattle.binlog_values.specs.JsonbHeaders.{offset_of, header, IsWhole}
use Rattle.binlog_values.specs.JsonbParsed.{document}

-- the position with number n is p: the root has number 0
abbrev pub IsPosition : Document → ℕ → Position → Type 0
IsPosition d n p = slice_get (positions d) n ≡ Some p

-- ---- where a container is

-- the whole has these bytes, one after the other, from its byte `at` on
abbrev pub AreAt : ℕ → List ℕ → List ℕ → Type 0
AreAt at bytes whole =
    (before : List ℕ) × (after : List ℕ) × (whole ≡ before ++ bytes ++ after) × (length before ≡ at)

-- these bytes are a part of the whole
abbrev pub IsPartOf : List ℕ → List ℕ → Type 0
IsPartOf bytes whole = (at : ℕ) × AreAt at bytes whole

-- a container that an entry refers to is a part of the entry's container, and begins at the entry's
-- offset
abbrev pub ContainersAreInParents : Type 0
ContainersAreInParents =
    (c d : Frame) (i : ℕ) → element_at c i ≡ Ok (nested d) → AreAt (offset_of c i) d.bytes c.bytes

-- and it is shorter
abbrev pub ContainersAreShorter : Type 0
ContainersAreShorter =
    (c d : Frame) (i : ℕ) → element_at c i ≡ Ok (nested d) → length d.bytes < length c.bytes

-- each container of a document, at any depth, is a part of its root
abbrev pub ContainersAreInRoots : Type 0
ContainersAreInRoots =
    (root d : Frame) (es : Entries) (n : ℕ) (p : Position)
    → IsPosition (document (nested root)) n p → p.value ≡ opened d es
    → IsPartOf d.bytes root.bytes

-- a root that is a container is a part of the bytes that are read
abbrev pub RootsAreInDocuments : Type 0
RootsAreInDocuments =
    (bytes : List ℕ) (root : Frame) → json.spells bytes (nested root) → IsPartOf root.bytes bytes

-- ---- how long a header is

-- four bytes at least, and three more for each entry
abbrev pub HeadersAreLong : Type 0
HeadersAreLong = (c : Frame) → 4 + 3 * c.count ≤ header c

-- a container that is read has its whole header
abbrev pub ContainersAreWhole : Type 0
ContainersAreWhole =
    (is_array is_large : Bool) (bytes : List ℕ) (c : Frame)
    → (container is_array is_large).spells bytes c → IsWhole c

-- so has a root that is read
abbrev pub RootsAreWhole : Type 0
RootsAreWhole = (bytes : List ℕ) (root : Frame) → json.spells bytes (nested root) → IsWhole root

-- so has each container of a document, at any depth, if the root has
abbrev pub InnerContainersAreWhole : Type 0
InnerContainersAreWhole =
    (root d : Frame) (es : Entries) (n : ℕ) (p : Position)
    → IsWhole root → IsPosition (document (nested root)) n p → p.value ≡ opened d es
    → IsWhole d

-- ---- the number of a position

-- the entries of a container; a value that is no container has none
abbrev pub entries_in : Document → Entries
entries_in (faulty f) = no_entries
entries_in (single s) = no_entries
entries_in (opened c es) = es

-- the key and the value of entry i; none from the count on
abbrev pub entry_in : Entries → ℕ → Option (Result (List ℕ) Fault × Document)
entry_in no_entries i = None
entry_in (entry k d es) zero = Some (k, d)
entry_in (entry k d es) (suc i) = entry_in es i

-- for each entry before entry i, one and its weight
abbrev pub weight_before : Entries → ℕ → ℕ
weight_before no_entries i = 0
weight_before (entry k d es) zero = 0
weight_before (entry k d es) (suc i) = 1 + weight d + weight_before es i

-- the entries in a container's document are its entries, each with its key and its element's
-- document
abbrev pub EntriesAreElements : Type 0
EntriesAreElements =
    (c : Frame) (i : ℕ)
    → entry_in (entries_of c) i
    ≡ (if nat_lt i c.count then Some (entry_key c i, document_of (element_at c i)) else None)

-- position q is that of entry i of the container at position p
abbrev pub IsEntry : Position → ℕ → Position → Type 0
IsEntry p i q =
    (entry_in (entries_in p.value) i ≡ Some (q.key, q.value)) × (q.path ≡ p.path ++ i ∷ [])

-- the number of a position is its container's number, plus one, plus, for each entry before it in
-- that container, one and that entry's weight
abbrev pub NumbersAddUp : Type 0
NumbersAddUp =
    (d : Document) (m n i : ℕ) (p q : Position)
    → IsPosition d m p → IsPosition d n q → IsEntry p i q
    → n ≡ m + 1 + weight_before (entries_in p.value) i

-- there are as many positions as values inside the root, and one more
abbrev pub PositionsAreValues : Type 0
PositionsAreValues = (d : Document) → length (positions d) ≡ 1 + weight d

-- each position after the root is that of an entry of a container, which is at a position too
abbrev pub PositionsAreEntries : Type 0
PositionsAreEntries =
    (d : Document) (n : ℕ) (q : Position) → IsPosition d (suc n) q
    → (m : ℕ) × (i : ℕ) × (p : Position) × IsPosition d m p × IsEntry p i q

-- each entry of a container at a position is at a position
abbrev pub EntriesArePositions : Type 0
EntriesArePositions =
    (d : Document) (m i : ℕ) (p q : Position) → IsPosition d m p → IsEntry p i q
    → (n : ℕ) × IsPosition d n q

-- no two positions have the same path
abbrev pub PathsAreOne : Type 0
PathsAreOne =
    (d : Document) (m n : ℕ) (p q : Position)
    → IsPosition d m p → IsPosition d n q → p.path ≡ q.path → m ≡ n

-- a first fault is that of the position with its number
abbrev pub FaultsAreAtNumbers : Type 0
FaultsAreAtNumbers =
    (limit n : ℕ) (d : Document) (f : Fault) → first_fault limit 0 (positions d) ≡ Some (f, n)
    → (p : Position) × IsPosition d n p × (fault_at limit n p ≡ Some f)

-- and no position before it has a fault
abbrev pub FaultsAreFirst : Type 0
FaultsAreFirst =
    (limit m n : ℕ) (d : Document) (f : Fault) (p : Position)
    → first_fault limit 0 (positions d) ≡ Some (f, n) → m < n → IsPosition d m p
    → fault_at limit m p ≡ None
