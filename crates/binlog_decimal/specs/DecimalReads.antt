-- The possible results of the functions that read packed decimals.
use Rattle.std.specs.Prelude.{◌≡◌, ◌<◌, ◌^◌, ℕ, Bool, Result, Ok, Err, List}
use Rattle.binlog_base.specs.declared.fault.Fault.{Fault}
use Rattle.binlog_base.specs.declared.fault.Fault.TheVariants.{DecimalGroup}
use Rattle.binlog_decimal.specs.Decimals.{DecimalView, IsPacked}
use Rattle.binlog_decimal.specs.DecimalGroups.{IsCut, low_digits, digits_in}

-- These are the digits that the bytes hold in groups of these sizes; or some group is out of range,
-- with the fault DecimalGroup.
abbrev pub Unpacks : {X : Type 0} → Result X Fault → List ℕ → List ℕ → List ℕ → Type 0
Unpacks (Ok _) sizes bytes digits = IsCut sizes bytes digits
Unpacks (Err e) sizes bytes digits = (e ≡ DecimalGroup) × ((others : List ℕ) → IsCut sizes bytes others → ⊥)

-- The result is the decimal packed in the bytes; or they hold no decimal, with the fault
-- DecimalGroup.
abbrev pub UnpacksDecimal : Result DecimalView Fault → ℕ → ℕ → List ℕ → Type 0
UnpacksDecimal (Ok d) integer fraction bytes = IsPacked integer fraction bytes d
UnpacksDecimal (Err e) integer fraction bytes = (e ≡ DecimalGroup) × ((d : DecimalView) → IsPacked integer fraction bytes d → ⊥)

-- The number is that of the digits that the bytes hold in groups of these sizes; or some group is
-- out of range, with the fault DecimalGroup.
abbrev pub FormsNumber : Result ℕ Fault → List ℕ → List ℕ → Type 0
FormsNumber (Ok n) sizes bytes = IsCut sizes bytes (low_digits 10 (digits_in sizes) n) × (n < 10 ^ digits_in sizes)
FormsNumber (Err e) sizes bytes = (e ≡ DecimalGroup) × ((digits : List ℕ) → IsCut sizes bytes digits → ⊥)

-- the decimal whose digits before and after the point, so many of them, form these numbers
abbrev pub numbered : ℕ → ℕ → Bool → ℕ → ℕ → DecimalView
numbered integer fraction negative whole part = record {
  negative = negative;
  integer = low_digits 10 integer whole;
  fraction = low_digits 10 fraction part;
}
