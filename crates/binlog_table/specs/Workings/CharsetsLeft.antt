-- The character sets that are left, as the columns of a group are taken in order.
use Rattle.std.specs.Prelude.{◌≡◌, ℕ, suc, ◌+◌, ◌-◌, ◌==◌, nat_lt, min, List, [], ◌∷◌, length, Option, Some, None, Result, Ok, Err, if◌then◌else◌}
use Rattle.binlog_base.specs.declared.fault.Fault.{Fault}
use Rattle.binlog_table.specs.Charsets.{after, charsets, zero_without}

-- the character set of column i of the group, by the pairs and the list that are left after the
-- columns below low
abbrev pub charset_from : ℕ → Option ℕ → List (Result (ℕ × ℕ) Fault) → List (Result ℕ Fault) → ℕ → Result (Option ℕ) Fault
charset_from low default [] list i = after None default list (i - low)
charset_from low default (Err e ∷ ps) list i = after (Some e) default list (i - low)
charset_from low default (Ok p ∷ ps) list i =
    if nat_lt p.0 low then Ok default else
    (if i == p.0 then Ok (Some p.1) else
    (if nat_lt i p.0 then Ok default else charset_from (suc p.0) default ps list i))

-- the items of the columns of the group from column low on, and below column limit
unfoldable pub charsets_left : ℕ → ℕ → Option ℕ → List (Result (ℕ × ℕ) Fault) → List (Result ℕ Fault) → List (Result ℕ Fault)
charsets_left limit low default pairs list = charsets (charset_from low default pairs list) (limit - low) low

-- a pair taken beforehand, and those after it
abbrev pub with_head : {A : Type 0} → Option A → List A → List A
with_head None xs = xs
with_head (Some x) xs = x ∷ xs

-- where no pair was taken beforehand, none is left
abbrev pub NoneLeft : {A B : Type 0} → Option A → List B → Type 0
NoneLeft None xs = xs ≡ []
NoneLeft (Some x) xs = Unit {0}

-- what is left of a group: the index of the next column in the group, the default, the pairs and
-- the list that are left, how many items were taken of the two, and how many bytes of them are left
pub record CharsetsLeft : Type 0 where
  pub ordinal : ℕ
  pub default : Option ℕ
  pub pairs : List (Result (ℕ × ℕ) Fault)
  pub list : List (Result ℕ Fault)
  pub taken : ℕ
  pub room : ℕ

-- nothing is left of the pairs and the list
pub record NoCharsetsLeft (c : CharsetsLeft) : Type 0 where
  pub pairs : c.pairs ≡ []
  pub list : c.list ≡ []

-- the character set of column i of the group
abbrev pub charset_of : CharsetsLeft → ℕ → Result (Option ℕ) Fault
charset_of c i = charset_from c.ordinal c.default c.pairs c.list i

-- the character set in a row of the column of the group that comes k columns after the next one
abbrev pub row_charset : CharsetsLeft → ℕ → Result ℕ Fault
row_charset c k = zero_without (charset_of c (c.ordinal + k))

-- the character sets of the columns that are left
abbrev pub charsets_of : ℕ → CharsetsLeft → List (Result ℕ Fault)
charsets_of limit c = charsets_left limit c.ordinal c.default c.pairs c.list

-- How many more items of the pairs and the list are taken for the columns of the group from low on
-- and below end. The first pair that is left was taken beforehand.
abbrev pub charsets_ahead : ℕ → ℕ → List (Result (ℕ × ℕ) Fault) → List (Result ℕ Fault) → ℕ
charsets_ahead low end [] list = min (length list) (end - low)
charsets_ahead low end (Err e ∷ ps) list = 0
charsets_ahead low end (Ok p ∷ ps) list = if nat_lt p.0 low then 0 else (if nat_lt p.0 end then min (length ps) 1 + charsets_ahead (suc p.0) end ps list else 0)

-- how many items are taken of the pairs and the list after k more columns of the group
abbrev pub charsets_taken : CharsetsLeft → ℕ → ℕ
charsets_taken c k = c.taken + charsets_ahead c.ordinal (c.ordinal + k) c.pairs c.list
