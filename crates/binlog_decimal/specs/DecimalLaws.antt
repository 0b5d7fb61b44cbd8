-- The statements that the functions of `laws.rt` prove about decimals.
use Rattle.std.specs.Prelude.{◌≡◌, ℕ, ◌+◌, ◌^◌, ◌<◌, ◌↔◌, true, List, [], ◌∷◌, ◌++◌, length, take, drop, Some, ⊤, ◌==◌, ◌&&◌, ◌⊎◌, Bool, false, not}
use Rattle.std.specs.List.{list_all, flat_map}
use Rattle.std.specs.Fmt.{decimal}
use Rattle.std.specs.Int.Digits.{AllBelowBase, number_from_digits}
use Rattle.std.specs.Ordering.{nat_cmp}
use Rattle.std.specs.declared.cmp.Ordering.{Ordering}
use Rattle.std.specs.declared.cmp.Ordering.TheVariants.{Less, Equal, Greater}
use Rattle.std.specs.Cmp.Lexicographic.{slice_cmp}
use Rattle.binlog_base.specs.Laws.{ReadsBack}
use Rattle.binlog_decimal.specs.Decimals.{DecimalView, IsDecimal, IsPacked, packed_bytes, packed_size, group_width, integer_groups, fraction_groups}
use Rattle.binlog_decimal.specs.DecimalMasks.{unmasked_bytes}
use Rattle.binlog_decimal.specs.PackedDecimals.{packed_decimal}
use Rattle.binlog_decimal.specs.DecimalText.{decimal_of_text, decimal_text, without_leading_zeros}

-- the packed form of a decimal is read back as that decimal, whatever bytes follow it
abbrev pub PackedReadsBack : Type 0
PackedReadsBack = (d : DecimalView) → IsDecimal d → ReadsBack (packed_decimal (length d.integer + length d.fraction) (length d.fraction) true) (packed_bytes d) d

-- the packed form of a decimal has the size that `packed_size` gives
abbrev pub PackedHasSize : Type 0
PackedHasSize = (d : DecimalView) → length (packed_bytes d) ≡ packed_size (length d.integer) (length d.fraction)

-- two decimals compare as equal if and only if their packed forms are the same
abbrev pub EqualWherePackedAlike : Type 0
EqualWherePackedAlike = (a b : DecimalView) → (slice_cmp nat_cmp (packed_bytes a) (packed_bytes b) ≡ Equal) ↔ (packed_bytes a ≡ packed_bytes b)

-- all digits of a decimal as one number
abbrev pub value_of : DecimalView → ℕ
value_of d = number_from_digits 10 (d.integer ++ d.fraction)

-- the order of two numbers by their signs (true is a minus) and absolute values; negative zero is
-- just below zero
abbrev pub signed_order : Bool → ℕ → Bool → ℕ → Ordering
signed_order false m false n = nat_cmp m n
signed_order true m true n = nat_cmp n m
signed_order true m false n = Less
signed_order false m true n = Greater

-- decimals with the same counts of digits before the point and after it are ordered as their
-- numbers
abbrev pub OrderedAsNumbers : Type 0
OrderedAsNumbers = (a b : DecimalView) → IsDecimal a → IsDecimal b → length a.integer ≡ length b.integer → length a.fraction ≡ length b.fraction
    → slice_cmp nat_cmp (packed_bytes a) (packed_bytes b) ≡ signed_order a.negative (value_of a) b.negative (value_of b)

-- the same sign, the same digits after the point, and the same number before it
pub record IsSameNumber (a b : DecimalView) : Type 0 where
  pub sign : a.negative ≡ b.negative
  pub integer : number_from_digits 10 a.integer ≡ number_from_digits 10 b.integer
  pub fraction : a.fraction ≡ b.fraction

-- if a decimal was read from a text, its printed text can be read again, and gives the same number
-- with the same digits after the point
abbrev pub PrintedReadsBack : Type 0
PrintedReadsBack = (text : List ℕ) (d : DecimalView) → decimal_of_text text ≡ Some d → (e : DecimalView) × (decimal_of_text (decimal_text d) ≡ Some e) × IsSameNumber d e

-- the number of each group has no more digits than the group
abbrev pub AreInRange : List ℕ → List ℕ → Type 0
AreInRange [] bytes = ⊤
AreInRange (size ∷ sizes) bytes = (number_from_digits 256 (take (group_width size) bytes) < 10 ^ size) × AreInRange sizes (drop (group_width size) bytes)

-- Bytes of the right length are a packed decimal if and only if, once the sign encoding is undone,
-- the number of each group has no more digits than the group. So the fault DecimalGroup means that
-- some group has a number with too many digits.
abbrev pub PackedWhereInRange : Type 0
PackedWhereInRange = (integer fraction : ℕ) (bytes : List ℕ) → 0 < integer + fraction → AllBelowBase 256 bytes → length bytes ≡ packed_size integer fraction
    → ((d : DecimalView) × IsPacked integer fraction bytes d) ↔ AreInRange (integer_groups integer ++ fraction_groups fraction) (unmasked_bytes bytes)

-- the text is an optional sign, and `minus` says whether it is a minus
abbrev pub IsSign : List ℕ → Bool → Type 0
IsSign text minus = ((text ≡ []) × (minus ≡ false)) ⊎ (((text ≡ 43 ∷ []) × (minus ≡ false)) ⊎ ((text ≡ 45 ∷ []) × (minus ≡ true)))

-- the text is a point, or is empty and no digits come after it
abbrev pub IsPoint : List ℕ → List ℕ → Type 0
IsPoint text after = (text ≡ 46 ∷ []) ⊎ ((text ≡ []) × (after ≡ []))

-- The text is an optional sign, digits, an optional point and digits, with at least one digit, and
-- these are the digits of the decimal. The decimal is negative if the sign is a minus and some
-- digit isn't 0.
pub record IsNumeral (text : List ℕ) (d : DecimalView) : Type 0 where
  pub minus : Bool
  pub sign : List ℕ
  pub point : List ℕ
  pub is_sign : IsSign sign minus
  pub is_point : IsPoint point d.fraction
  pub is_decimal : IsDecimal d
  pub spelled : text ≡ sign ++ (flat_map decimal d.integer ++ (point ++ flat_map decimal d.fraction))
  pub negative : d.negative ≡ (minus && not (list_all (λ digit. digit == 0) (d.integer ++ d.fraction)))

-- a text is read as a decimal if and only if, once all but one of the zeros at its start are
-- dropped, it is a numeral of that decimal
abbrev pub TextsAreNumerals : Type 0
TextsAreNumerals = (text : List ℕ) (d : DecimalView) → (decimal_of_text text ≡ Some d) ↔ IsNumeral (without_leading_zeros text) d
