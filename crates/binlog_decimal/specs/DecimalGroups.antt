-- Decimal digits cut into groups, and the bytes that hold the groups.
use Rattle.std.proofs.Common.{◌≡◌, ℕ, zero, suc, ◌+◌, ◌/◌, ◌%◌, List, [], ◌∷◌, ◌++◌, length, take, drop}
use Rattle.std.specs.Int.Digits.{AllBelowBase, number_from_digits}
use Rattle.binlog_decimal.specs.Decimals.{group_width, grouped_bytes}

-- the lowest digits of a number in a base, as many as asked for, the highest of them first
abbrev pub low_digits : ℕ → ℕ → ℕ → List ℕ
low_digits base zero n = []
low_digits base (suc count) n = low_digits base count (n / base) ++ (n % base) ∷ []

-- how many digits groups of these sizes have
abbrev pub digits_in : List ℕ → ℕ
digits_in [] = 0
digits_in (size ∷ sizes) = size + digits_in sizes

-- how many bytes groups of these sizes take
abbrev pub bytes_in : List ℕ → ℕ
bytes_in [] = 0
bytes_in (size ∷ sizes) = group_width size + bytes_in sizes

-- the bytes are these digits, cut into groups of these sizes, without the sign encoding
pub record IsCut (sizes bytes digits : List ℕ) : Type 0 where
  pub below : AllBelowBase 10 digits
  pub count : length digits ≡ digits_in sizes
  pub grouping : grouped_bytes sizes digits ≡ bytes

-- the digits that the bytes hold in groups of these sizes, if each group is in range
unfoldable pub ungrouped_digits : List ℕ → List ℕ → List ℕ
ungrouped_digits [] bytes = []
ungrouped_digits (size ∷ sizes) bytes =
    low_digits 10 size (number_from_digits 256 (take (group_width size) bytes)) ++ ungrouped_digits sizes (drop (group_width size) bytes)
