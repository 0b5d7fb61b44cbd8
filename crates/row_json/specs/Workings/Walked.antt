-- What is promised of a document that is written from its bytes. Each clause speaks of the tree that a
-- value denotes, though none is made; of a value that denotes none nothing is promised.
use Rattle.std.specs.Prelude.{◌≡◌, ◌<◌, ℕ, List, [], ◌∷◌, Ok, String, string_bytes, string_cmp, false, ⊤}
use Rattle.std.specs.BTreeMap.{insert_entry}
use Rattle.std.specs.Str.Lossy.{utf8_lossy}
use Rattle.std.specs.List.{flat_map}
use Rattle.std.specs.declared.alloc.Global.{Global}
use Rattle.binlog_base.specs.declared.fault.Fault.{Fault}
use Rattle.binlog_base.specs.declared.fault.Fault.TheVariants.{Memory}
use Rattle.binlog_values.specs.JsonbValues.{Frame, JsonbValue, nested, element_at}
use Rattle.binlog_values.specs.JsonbTrees.{entry_key, Tree, Branches, Members, no_members, member, merged, merged_items, Denotes, DenoteFrom}
use Rattle.json.specs.Json.{Json}
use Rattle.json.specs.Tree.{json_tokens}
use Rattle.json_line.specs.Written.{Written}
use Rattle.row_json.specs.Documents.{IsDataJson, AreItems, AreMembers}
use Rattle.row_json.specs.Wrote.{Adds, Wrote, Named, named_tokens}

-- it holds of the tree that the value denotes
abbrev pub OfValue : JsonbValue → (Tree → Type 0) → Type 0
OfValue v Holds = (t : Tree) → Denotes t (Ok v) → Holds t

-- it holds of the tree that element i of a container denotes
abbrev pub OfElement : JsonbValue → ℕ → (Tree → Type 0) → Type 0
OfElement v i Holds = (c : Frame) → v ≡ nested c → i < c.count → (t : Tree) → Denotes t (element_at c i) → Holds t

-- it holds of what the entries of a container denote that has so many
abbrev pub OfEntries : JsonbValue → ℕ → (Frame → Branches → Type 0) → Type 0
OfEntries v count Holds = (c : Frame) → v ≡ nested c → count ≡ c.count → (bs : Branches) → DenoteFrom bs c 0 → Holds c bs

-- it holds of the key at index i of an object
abbrev pub OfKey : JsonbValue → ℕ → (List ℕ → Type 0) → Type 0
OfKey v i Holds = (c : Frame) → v ≡ nested c → c.is_array ≡ false → i < c.count → (key : List ℕ) → entry_key c i ≡ Ok key → Holds key

-- the new entries are the old ones with index i under the key's text, in place of any that was there
abbrev pub Indexes : List (String Global × ℕ) → List (String Global × ℕ) → ℕ → List ℕ → Type 0
Indexes old new i key = (name : String Global) × (string_bytes name ≡ utf8_lossy key) × (new ≡ insert_entry string_cmp old name i)

-- the entries, each a key and an index, are these members: the element at the index denotes the tree that
-- is the member's value
abbrev pub AreIndexed : Frame → List (String Global × ℕ) → Members → Type 0
AreIndexed c [] no_members = ⊤
AreIndexed c [] (member k d ms) = ⊥
AreIndexed c (e ∷ es) no_members = ⊥
AreIndexed c (e ∷ es) (member k d ms) = (string_bytes e.0 ≡ k) × (e.1 < c.count) × ((t : Tree) × Denotes t (element_at c e.1) × (d ≡ merged t)) × AreIndexed c es ms

-- it holds of the members of an object whose keys and indexes these are
abbrev pub OfIndexed : JsonbValue → List (String Global × ℕ) → (Members → Type 0) → Type 0
OfIndexed v es Holds = (c : Frame) → v ≡ nested c → (ms : Members) → AreIndexed c es ms → Holds ms

-- the JSON of the tree was written
abbrev pub WroteTree : Written → Written → Tree → Type 0
WroteTree old new t = Wrote (IsDataJson (merged t)) old new

-- the JSON of each entry was written, in order
abbrev pub WroteItems : Written → Written → Branches → Type 0
WroteItems old new bs = (js : List Json) × AreItems (merged_items bs) js × Adds old new (flat_map json_tokens js)

-- the key and the JSON of each member were written, in order
abbrev pub WroteIndexed : Written → Written → Members → Type 0
WroteIndexed old new ms = (js : List Named) × AreMembers ms js × Adds old new (flat_map named_tokens js)

-- memory was refused
abbrev pub IsMemory : Fault → Type 0
IsMemory f = f ≡ Memory
