-- Where the headers of a document's containers are in its root.
use Rattle.std.specs.Prelude.{ℕ, suc, ◌+◌, ◌<◌, ◌≤◌, List, [], ◌∷◌, ◌++◌, length, ⊤}
use Rattle.binlog_values.specs.JsonbLayout.{number_at, offset_size, header_len, value_entry}
use Rattle.binlog_values.specs.JsonbValues.{Frame, JsonbValue, scalar, nested}
use Rattle.binlog_values.specs.JsonbDocuments.{Document, faulty, single, opened, Entries, no_entries, entry}

-- a range of bytes of the root
pub record Span : Type 0 where
  pub start : ℕ
  pub len : ℕ

-- where the value of entry i begins, if the entry has an offset to it
abbrev pub offset_of : Frame → ℕ → ℕ
offset_of c i = number_at (offset_size c.is_large) (value_entry c.is_array c.is_large c.count i + 1) c.bytes

-- how many bytes the header of a container has
abbrev pub header : Frame → ℕ
header c = header_len c.is_array c.is_large c.count

-- the headers of a document that begins at byte `at` of the root
abbrev mutual
  pub headers : ℕ → Document → List Span
  headers at (faulty f) = []
  headers at (single s) = []
  headers at (opened c es) = record { start = at; len = header c } ∷ headers_from c at 0 es

  pub headers_from : Frame → ℕ → ℕ → Entries → List Span
  headers_from c at i no_entries = []
  headers_from c at i (entry k d es) = headers (at + offset_of c i) d ++ headers_from c at (suc i) es

-- byte x is in the range
abbrev pub Covers : Span → ℕ → Type 0
Covers s x = (s.start ≤ x) × (x < s.start + s.len)

-- the range shares no byte with any of the others
abbrev pub ApartFrom : Span → List Span → Type 0
ApartFrom s [] = ⊤
ApartFrom s (u ∷ us) = ((x : ℕ) → Covers s x → Covers u x → ⊥) × ApartFrom s us

-- no two of the ranges share a byte
abbrev pub AreDisjoint : List Span → Type 0
AreDisjoint [] = ⊤
AreDisjoint (s ∷ ss) = ApartFrom s ss × AreDisjoint ss

-- a container's header is among its bytes
abbrev pub IsWhole : Frame → Type 0
IsWhole c = header c ≤ length c.bytes

abbrev pub IsWholeValue : JsonbValue → Type 0
IsWholeValue (scalar s) = ⊤
IsWholeValue (nested c) = IsWhole c
