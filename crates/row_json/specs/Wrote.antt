-- What was written: JSON, by the tokens of a `Writer`.
use Rattle.std.specs.Prelude.{◌≡◌, ◌≤◌, ℕ, List, [], ◌∷◌, ◌++◌}
use Rattle.std.specs.List.{flat_map}
use Rattle.json.specs.Token.{Token}
use Rattle.json.specs.Token as token
use Rattle.json.specs.Json.{Json, object, Items, no_items, item, Members, no_members, member, max_depth}
use Rattle.json.specs.Tree.{json_tokens, depth}
use Rattle.json_line.specs.Written.{Written}

-- these tokens were written after the old ones
pub record Adds (old new : Written) (ts : List Token) : Type 0 where
  pub before : new.before ≡ old.before
  pub tokens : new.tokens ≡ old.tokens ++ ts

-- what was written before stays, and some tokens may have been written after it
pub record AddsSome (old new : Written) : Type 0 where
  pub added : List Token
  pub adds : Adds old new added

-- one value of JSON was written, and it is so
pub record Wrote (Is : Json → Type 0) (old new : Written) : Type 0 where
  pub value : Json
  pub is : Is value
  pub adds : Adds old new (json_tokens value)

-- a name and a value
abbrev pub Named : Type 0
Named = List ℕ × Json

abbrev pub named_tokens : Named → List Token
named_tokens m = token.key m.0 ∷ json_tokens m.1

abbrev pub items_of : List Json → Items
items_of [] = no_items
items_of (j ∷ js) = item j (items_of js)

abbrev pub members_of : List Named → Members
members_of [] = no_members
members_of (m ∷ ms) = member m.0 m.1 (members_of ms)

-- an object of these members nests no deeper than what is read back
abbrev pub Fits : List Named → Type 0
Fits ms = depth (object (members_of ms)) ≤ max_depth

-- the members of an object, and its closing bracket
abbrev pub object_end : List Named → List Token
object_end ms = flat_map named_tokens ms ++ token.end_object ∷ []

-- these members of an object were written, and they are so
abbrev pub WroteMembers : (List Named → Type 0) → Written → Written → Type 0
WroteMembers Are old new = (ms : List Named) × Are ms × Adds old new (flat_map named_tokens ms)
