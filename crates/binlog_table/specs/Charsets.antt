-- The character sets of a group of columns, which are numbered from 0 in the group.
use Rattle.std.specs.Prelude.{◌≡◌, ℕ, zero, suc, ◌-◌, ◌==◌, nat_lt, List, [], ◌∷◌, ◌++◌, map, length, Option, Some, None, Result, Ok, Err, if◌then◌else◌}
use Rattle.binlog_base.specs.declared.fault.Fault.{Fault}
use Rattle.binlog_base.specs.Items.{before_fault, first_fault}
use Rattle.binlog_table.specs.Keys.{IsIncreasing}

-- the longest prefix of pairs whose columns strictly increase, none of them below low
abbrev pub pairs_from : ℕ → List (ℕ × ℕ) → List (ℕ × ℕ)
pairs_from low [] = []
pairs_from low (p ∷ ps) = if nat_lt p.0 low then [] else p ∷ pairs_from (suc p.0) ps

-- the columns of pairs, in order
abbrev pub columns_of : List (ℕ × ℕ) → List ℕ
columns_of ps = map (λ p. p.0) ps

-- the columns of this prefix of the pairs strictly increase, and those of no longer prefix do
abbrev pub IsLongestInOrder : List (ℕ × ℕ) → List (ℕ × ℕ) → Type 0
IsLongestInOrder ps prefix =
    (rest : List (ℕ × ℕ)) × (ps ≡ prefix ++ rest) × IsIncreasing 0 (columns_of prefix) × ((p : ℕ × ℕ) (more : List (ℕ × ℕ)) → rest ≡ p ∷ more → ¬ IsIncreasing 0 (columns_of (prefix ++ p ∷ [])))

-- the column after the last one of such a prefix; low for no pairs
abbrev pub above_from : ℕ → List (ℕ × ℕ) → ℕ
above_from low [] = low
above_from low (p ∷ ps) = above_from (suc p.0) ps

-- the character set that the pairs have for column i
abbrev pub charset_in : ℕ → List (ℕ × ℕ) → Option ℕ
charset_in i [] = None
charset_in i (p ∷ ps) = if i == p.0 then Some p.1 else charset_in i ps

-- the item for column k of the list with one for each column; the default after its end
abbrev pub listed : Option ℕ → List (Result ℕ Fault) → ℕ → Result (Option ℕ) Fault
listed default [] k = Ok default
listed default (Ok x ∷ xs) zero = Ok (Some x)
listed default (Err e ∷ xs) zero = Err e
listed default (x ∷ xs) (suc k) = listed default xs k

-- The character set of the k-th column after those of the pairs. If the pairs end in a fault, it
-- belongs to the first of these columns, and the others have the default; else they take the list
-- with one for each column.
abbrev pub after : Option Fault → Option ℕ → List (Result ℕ Fault) → ℕ → Result (Option ℕ) Fault
after None default list k = listed default list k
after (Some e) default list zero = Err e
after (Some e) default list (suc k) = Ok default

-- the character set, or the other result where there is none
abbrev pub or_else : Option ℕ → Result (Option ℕ) Fault → Result (Option ℕ) Fault
or_else (Some x) other = Ok (Some x)
or_else None other = other

-- The character set of column i of the group, whose pairs begin at column low or after: that of its
-- pair in the prefix. Where the prefix is all pairs before their fault or end, a column after the
-- last of them is as `after` says. Any other has the default.
abbrev pub charset_above : ℕ → Option ℕ → List (Result (ℕ × ℕ) Fault) → List (Result ℕ Fault) → ℕ → Result (Option ℕ) Fault
charset_above low default pairs list i =
    let prefix = pairs_from low (before_fault pairs) in
    or_else (charset_in i prefix)
    (if length prefix == length (before_fault pairs) then
    (if nat_lt i (above_from low prefix) then Ok default else after (first_fault pairs) default list (i - above_from low prefix))
    else Ok default)

-- the character set of column i of the group, by the group's default, its pairs and its list
unfoldable pub charset_at : Option ℕ → List (Result (ℕ × ℕ) Fault) → List (Result ℕ Fault) → ℕ → Result (Option ℕ) Fault
charset_at default pairs list i = charset_above 0 default pairs list i

-- The item of a column, and those after it. None follows a fault, nor a column without a character
-- set.
abbrev pub charset_then : Result (Option ℕ) Fault → List (Result ℕ Fault) → List (Result ℕ Fault)
charset_then (Ok (Some x)) more = Ok x ∷ more
charset_then (Ok None) more = []
charset_then (Err e) more = Err e ∷ []

-- the items of n columns of the group from column i on
abbrev pub charsets : (ℕ → Result (Option ℕ) Fault) → ℕ → ℕ → List (Result ℕ Fault)
charsets f zero i = []
charsets f (suc n) i = charset_then (f i) (charsets f n (suc i))

-- the items of the first `limit` columns of the group
unfoldable pub charset_items : ℕ → Option ℕ → List (Result (ℕ × ℕ) Fault) → List (Result ℕ Fault) → List (Result ℕ Fault)
charset_items limit default pairs list = charsets (charset_at default pairs list) limit 0

-- in a row, a column without a character set has 0
abbrev pub zero_without : Result (Option ℕ) Fault → Result ℕ Fault
zero_without (Ok (Some x)) = Ok x
zero_without (Ok None) = Ok 0
zero_without (Err e) = Err e
