-- Whether a file breaks off.
use Rattle.std.specs.Prelude.{ℕ, ◌&&◌, ◌||◌, nat_eq, Bool, List, [], ◌∷◌}
use Rattle.std.specs.List.{list_any}

abbrev pub is_one_of : ℕ → List ℕ → Bool
is_one_of n ns = list_any (nat_eq n) ns

-- The events that begin a transaction or a statement of it: of GTIDs (MySQL's, anonymous ones, those with a tag,
-- MariaDB's), the numbers, seeds and variables of a statement (INTVAR, RAND, USER_VAR), and its text before its
-- rows (ROWS_QUERY, ANNOTATE_ROWS).
abbrev pub begins_something : ℕ → Bool
begins_something type = is_one_of type (0x21 ∷ 0x22 ∷ 0x2A ∷ 0xA2 ∷ 0x05 ∷ 0x0D ∷ 0x0E ∷ 0x1D ∷ 0xA0 ∷ [])

-- The table map event, and rows events: WRITE, UPDATE and DELETE in both versions, and PARTIAL_UPDATE. The end
-- of the transaction is an event of its own.
abbrev pub is_of_rows : ℕ → Bool
is_of_rows type = is_one_of type (0x13 ∷ 0x17 ∷ 0x18 ∷ 0x19 ∷ 0x1E ∷ 0x1F ∷ 0x20 ∷ 0x27 ∷ [])

-- QUERY, and MariaDB's QUERY_COMPRESSED
abbrev pub is_statement : ℕ → Bool
is_statement type = is_one_of type (0x02 ∷ 0xA5 ∷ [])

-- whether more belongs after an event of this type, from whether a transaction is open after it
abbrev pub breaks_off : ℕ → Bool → Bool
breaks_off type is_open = begins_something type || (is_of_rows type || (is_statement type && is_open))
