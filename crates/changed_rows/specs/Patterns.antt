-- Patterns of names: `*` is any text, `?` is one character, and `\` takes the next byte as it is.
use Rattle.std.specs.Prelude.{◌≡◌, ℕ, ◌+◌, ◌==◌, ◌&&◌, ◌||◌, not, nat_le, nat_lt, Bool, true, false, if◌then◌else◌, List, [], ◌∷◌, length, take, drop, slice_index, Option, Some, None}
use Rattle.std.specs.List.{list_any, fold, range_with_len}
use Rattle.std.specs.Option.{option_map_or}
use Rattle.std.specs.Char.{eq_ignore_ascii_case}
use Rattle.changed_rows.specs.declared.pattern.Case.{Case}
use Rattle.changed_rows.specs.declared.pattern.Case.TheVariants as case
use Rattle.changed_rows.specs.declared.pattern.Single.{Single}
use Rattle.changed_rows.specs.declared.pattern.Single.TheVariants as single
use Rattle.changed_rows.specs.declared.pattern.Part.{Part}
use Rattle.changed_rows.specs.declared.pattern.Part.TheVariants as part

-- ---- one place of a name

-- a byte with which a character goes on in UTF-8
abbrev pub is_continuation : ℕ → Bool
is_continuation b = nat_le 128 b && nat_lt b 192

-- a text without the continuation byte with which it begins, if it does
abbrev pub past_continuation : List ℕ → List ℕ
past_continuation [] = []
past_continuation (b ∷ bs) = if is_continuation b then bs else b ∷ bs

abbrev pub is_same : Case → ℕ → ℕ → Bool
is_same case.Exact a b = a == b
is_same case.Ignored a b = eq_ignore_ascii_case a b

-- What is left of a name behind its first character, which is a byte and up to three continuation bytes, or
-- behind this byte. None if it doesn't begin so.
abbrev pub behind : Case → Single → List ℕ → Option (List ℕ)
behind k single.Character [] = None
behind k single.Character (b ∷ bs) = Some (past_continuation (past_continuation (past_continuation bs)))
behind k (single.Byte a) [] = None
behind k (single.Byte a) (b ∷ bs) = if is_same k a b then Some bs else None

-- ---- the parts of a pattern

abbrev pub byte_part : ℕ → Part
byte_part b = part.Single (single.Byte b)

-- the part that a byte is, if no `\` takes it
abbrev pub part_of : ℕ → Part
part_of b = if b == 42 then part.Any else if b == 63 then part.Single single.Character else byte_part b

-- The parts of a text, behind a `\` or not. A `\` at the end is itself.
abbrev pub parts_behind : Bool → List ℕ → List Part
parts_behind false [] = []
parts_behind false (b ∷ bs) = if b == 92 then parts_behind true bs else part_of b ∷ parts_behind false bs
parts_behind true [] = byte_part 92 ∷ []
parts_behind true (b ∷ bs) = byte_part b ∷ parts_behind false bs

abbrev pub parts_of : List ℕ → List Part
parts_of pattern = parts_behind false pattern

-- ---- what matches

-- what a text ends with: itself, it without its first byte, and so on down to nothing
abbrev pub ends_of : List ℕ → List (List ℕ)
ends_of [] = [] ∷ []
ends_of (b ∷ bs) = (b ∷ bs) ∷ ends_of bs

-- Nothing matches no parts. Where a `*` is first, one of the name's ends matches the parts behind it; else the
-- name begins with what the first part asks, and what is left matches the parts behind it.
unfoldable pub matches_parts : Case → List Part → List ℕ → Bool
matches_parts k [] name = length name == 0
matches_parts k (part.Any ∷ ps) name = list_any (λ rest. matches_parts k ps rest) (ends_of name)
matches_parts k (part.Single s ∷ ps) name = option_map_or (λ rest. matches_parts k ps rest) (behind k s name) false

abbrev pub matches : Case → List ℕ → List ℕ → Bool
matches k pattern name = matches_parts k (parts_of pattern) name

-- ---- tables

-- a text ends with a `\` that takes the next byte, and isn't taken itself
abbrev pub takes_next : List ℕ → Bool
takes_next text = fold (λ is_taken b. b == 92 && not is_taken) false text

-- at an index there is a point that no `\` takes
abbrev pub is_point : List ℕ → ℕ → Bool
is_point pattern i = slice_index pattern i == 46 && not (takes_next (take i pattern))

-- what stands before an index matches the database, and what stands after it the table
abbrev pub divides : Case → List ℕ → List ℕ → List ℕ → ℕ → Bool
divides k pattern database table i = matches k (take i pattern) database && matches k (drop (i + 1) pattern) table

-- one of the points divides the pattern so
unfoldable pub matches_table : Case → List ℕ → List ℕ → List ℕ → Bool
matches_table k pattern database table =
    list_any (λ i. is_point pattern i && divides k pattern database table i) (range_with_len 0 (length pattern))

unfoldable pub has_point : List ℕ → Bool
has_point pattern = list_any (λ i. is_point pattern i) (range_with_len 0 (length pattern))

-- ---- plain patterns

-- `*`, `?` and `\`
abbrev pub is_special : ℕ → Bool
is_special b = b == 42 || (b == 63 || b == 92)

-- nothing in a pattern is special
abbrev pub IsPlain : List ℕ → Type 0
IsPlain pattern = list_any is_special pattern ≡ false
