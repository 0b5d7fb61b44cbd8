-- Decimals by their digits, and the packed DECIMAL format.
use Rattle.std.specs.Prelude.{◌≡◌, ℕ, ◌+◌, ◌-◌, ◌*◌, ◌/◌, ◌%◌, ◌<◌, min, Bool, false, ◌==◌, if◌then◌else◌, List, [], ◌∷◌, ◌++◌, length, take, drop, map, replicate}
use Rattle.std.specs.List.{list_all}
use Rattle.std.specs.Int.Digits.{AllBelowBase, number_from_digits}
use Rattle.byteorder.specs.Endian.{big_bytes}

-- a decimal: its sign, and its digits before and after the point, the highest first
pub record DecimalView : Type 0 where
  pub negative : Bool
  pub integer : List ℕ
  pub fraction : List ℕ

-- all digits are from 0 to 9, and there is at least one
abbrev pub IsDecimal : DecimalView → Type 0
IsDecimal d = AllBelowBase 10 d.integer × AllBelowBase 10 d.fraction × (0 < length d.integer + length d.fraction)

-- ---- groups

-- How many bytes a group of that many digits takes: half as many, rounded up, but four for nine.
abbrev pub group_width : ℕ → ℕ
group_width digits = min ((digits + 1) / 2) 4

-- The sizes of the groups that n digits before the point are cut into: one short group of the
-- remaining digits, and then groups of nine. A short group may have no digits, and then takes no
-- bytes.
abbrev pub integer_groups : ℕ → List ℕ
integer_groups n = (n % 9) ∷ replicate (n / 9) 9

-- the sizes of the groups of n digits after the point, where the short group is the last
abbrev pub fraction_groups : ℕ → List ℕ
fraction_groups n = replicate (n / 9) 9 ++ (n % 9) ∷ []

-- the bytes of a group: its number, in big-endian order
abbrev pub group_bytes : List ℕ → List ℕ
group_bytes digits = big_bytes (group_width (length digits)) (number_from_digits 10 digits)

-- the bytes of digits that are cut into groups of these sizes
unfoldable pub grouped_bytes : List ℕ → List ℕ → List ℕ
grouped_bytes [] digits = []
grouped_bytes (size ∷ sizes) digits = group_bytes (take size digits) ++ grouped_bytes sizes (drop size digits)

-- how many bytes n digits take: four for each group of nine, and those of the short group
abbrev pub digits_size : ℕ → ℕ
digits_size n = 4 * (n / 9) + group_width (n % 9)

-- how many bytes a decimal with that many digits before and after the point takes
abbrev pub packed_size : ℕ → ℕ → ℕ
packed_size integer fraction = digits_size integer + digits_size fraction

-- ---- the packed form

-- the bytes with all bits inverted if the decimal is negative
abbrev pub inverted_bytes : Bool → List ℕ → List ℕ
inverted_bytes negative bytes = if negative then map (λ byte. 255 - byte) bytes else bytes

-- the bytes with the first bit flipped
abbrev pub flipped_bytes : List ℕ → List ℕ
flipped_bytes [] = []
flipped_bytes (byte ∷ bytes) = ((byte + 128) % 256) ∷ bytes

-- The bytes of a decimal in the packed DECIMAL format: the groups before and after the point, with
-- all bits inverted if it is negative, and then with the first bit flipped.
unfoldable pub packed_bytes : DecimalView → List ℕ
packed_bytes d =
    flipped_bytes (inverted_bytes d.negative (grouped_bytes (integer_groups (length d.integer)) d.integer ++ grouped_bytes (fraction_groups (length d.fraction)) d.fraction))

-- these bytes are the packed form of a decimal with that many digits before and after the point
pub record IsPacked (integer fraction : ℕ) (bytes : List ℕ) (d : DecimalView) : Type 0 where
  pub digits : IsDecimal d
  pub before : length d.integer ≡ integer
  pub after : length d.fraction ≡ fraction
  pub written : packed_bytes d ≡ bytes

-- ---- a decimal that is read

-- positive zero, with one digit before the point and none after it
abbrev pub zero_decimal : DecimalView
zero_decimal = record { negative = false; integer = 0 ∷ []; fraction = [] }

-- the digits without the groups at their start that are all zeros
unfoldable pub without_zero_groups : List ℕ → List ℕ → List ℕ
without_zero_groups [] digits = digits
without_zero_groups (size ∷ sizes) digits =
    if list_all (λ d. d == 0) (take size digits) then without_zero_groups sizes (drop size digits) else digits

-- positive zero of one digit where no digit is left
abbrev pub or_zero : DecimalView → DecimalView
or_zero d = if length d.integer + length d.fraction == 0 then zero_decimal else d

-- a decimal without the groups at its start that are all zeros; positive zero of one digit where no
-- digit is left
unfoldable pub trimmed_decimal : DecimalView → DecimalView
trimmed_decimal d = or_zero (record d { integer = without_zero_groups (integer_groups (length d.integer)) d.integer })

-- the decimal as it was packed, or trimmed
abbrev pub kept_decimal : Bool → DecimalView → DecimalView
kept_decimal keep d = if keep then d else trimmed_decimal d
