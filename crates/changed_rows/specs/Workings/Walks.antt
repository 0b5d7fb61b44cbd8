-- How far a name goes along a pattern.
use Rattle.std.specs.Prelude.{◌≡◌, ◌<◌, ⊤, ℕ, suc, ◌==◌, Bool, true, false, List, [], ◌∷◌, length, Option, Some, None}
use Rattle.std.specs.Borrow.{Bor}
use Rattle.changed_rows.specs.declared.pattern.Case.{Case}
use Rattle.changed_rows.specs.declared.pattern.Part.{Part}
use Rattle.changed_rows.specs.declared.pattern.Part.TheVariants as part
use Rattle.changed_rows.specs.declared.pattern.Walk.{Walk}
use Rattle.changed_rows.specs.declared.pattern.Walk.TheVariants as walk
use Rattle.changed_rows.specs.Patterns.{parts_of, matches_parts}

-- the first part of a pattern and what stands behind it
abbrev pub IsFirst : List ℕ → Option (Part × Bor (List ℕ)) → Type 0
IsFirst pattern None = parts_of pattern ≡ []
IsFirst pattern (Some (p, rest)) = (parts_of pattern ≡ p ∷ parts_of rest.now) × (length rest.now < length pattern)

-- what is left of a pattern to go along, with the `*` before it
abbrev pub places_left : Walk → ℕ
places_left (walk.Any rest left) = suc (length rest.now)
places_left (walk.End left) = 0
places_left walk.Apart = 0

-- a `*` is reached, or the ends of both together
abbrev pub is_found : Walk → Bool
is_found (walk.Any rest left) = true
is_found (walk.End left) = length left.now == 0
is_found walk.Apart = false

-- what is left of the name matches what is left of the pattern
abbrev pub is_match : Case → Walk → Bool
is_match k (walk.Any rest left) = matches_parts k (part.Any ∷ parts_of rest.now) left.now
is_match k (walk.End left) = length left.now == 0
is_match k walk.Apart = false

-- where a `*` is reached, no later place of the name need be tried: whatever matches from one does from here
abbrev pub IsFirstPlace : Case → List ℕ → List ℕ → Walk → Type 0
IsFirstPlace k pattern name (walk.Any rest left) =
    matches_parts k (part.Any ∷ parts_of pattern) name ≡ true → matches_parts k (part.Any ∷ parts_of rest.now) left.now ≡ true
IsFirstPlace k pattern name (walk.End left) = ⊤
IsFirstPlace k pattern name walk.Apart = ⊤
