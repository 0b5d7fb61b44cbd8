-- What is kept to be used again, and how many bytes of memory that takes.
use Rattle.std.specs.Prelude.{◌≡◌, ◌+◌, ◌≤◌, ◌%◌, ℕ, cond, List, length, Option, Some, None, IsSome}
use Rattle.std.specs.Ordering.{nat_cmp}
use Rattle.std.specs.List.{sum_by, slice_get}
use Rattle.std.specs.Map.{lookup, values_of}
use Rattle.std.specs.BTreeMap.{is_at}

-- values by their keys
abbrev pub Entries : Type 0 → Type 0
Entries X = List (ℕ × X)

-- the bytes that the values take together; f: the bytes that one takes
abbrev pub bytes_held : {X : Type 0} → (X → ℕ) → Entries X → ℕ
bytes_held f es = sum_by f (values_of es)

-- the value under a key
abbrev pub value_at : {X : Type 0} → Entries X → ℕ → Option X
value_at es k = lookup (is_at (nat_cmp k)) es

-- the key has this value from then on, or none, and the others have theirs
abbrev pub Changes : {X : Type 0} → Entries X → Entries X → ℕ → Option X → Type 0
Changes es fs k v = (q : ℕ) → value_at fs q ≡ cond (is_at (nat_cmp k) q) v (value_at es q)

-- The key was noted, and no other key of its place since. There are 8,192 places.
abbrev pub IsNoted : List ℕ → ℕ → Type 0
IsNoted places k = slice_get places (k % 8192) ≡ Some k

-- what is kept in two generations: what was used lately, what was used before that, how many bytes all
-- takes at most, and the keys that were noted
pub record Generations (X : Type 0) : Type 0 where
  pub younger : Entries X
  pub older : Entries X
  pub most : ℕ
  pub notes : List ℕ

-- the first if it is there, else the second
abbrev pub either : {X : Type 0} → Option X → Option X → Option X
either None b = b
either (Some a) b = Some a

-- what is kept under a key
abbrev pub kept_at : {X : Type 0} → Generations X → ℕ → Option X
kept_at g k = either (value_at g.younger k) (value_at g.older k)

-- the bytes of all that is kept
abbrev pub all_bytes : {X : Type 0} → (X → ℕ) → Generations X → ℕ
all_bytes f g = bytes_held f g.younger + bytes_held f g.older

-- how many values are kept
abbrev pub count_of : {X : Type 0} → Generations X → ℕ
count_of g = length g.younger + length g.older

-- there is room for so many bytes more
abbrev pub HasRoom : {X : Type 0} → (X → ℕ) → Generations X → ℕ → Type 0
HasRoom f g weight = all_bytes f g + weight ≤ g.most

-- both generations are the same
pub record Stays {X : Type 0} (g h : Generations X) : Type 0 where
  pub younger : h.younger ≡ g.younger
  pub older : h.older ≡ g.older

-- what is kept then was kept before
abbrev pub NoMore : {X : Type 0} → Generations X → Generations X → Type 0
NoMore {X} g h = (k : ℕ) (v : X) → kept_at h k ≡ Some v → kept_at g k ≡ Some v

-- the older generation alone has the key
pub record IsOld {X : Type 0} (g : Generations X) (k : ℕ) : Type 0 where
  pub elsewhere : value_at g.younger k ≡ None
  pub there : IsSome (value_at g.older k)
