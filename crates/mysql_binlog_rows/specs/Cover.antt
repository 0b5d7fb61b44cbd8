-- How the rows data of an event is split into pairs of rows, by the layout of a pair.
use Rattle.std.specs.Prelude.{◌≡◌, ⊤, ℕ, ◌<◌, List, [], ◌∷◌, ◌++◌, length, Option, Some, None, ◌⊎◌}
use Rattle.std.specs.List.{concat}
use Rattle.binlog_base.specs.declared.fault.Fault.{Fault}
use Rattle.binlog_base.specs.declared.fault.Fault.TheVariants.{EmptyPair}
use Rattle.binlog_base.specs.Format.{Format}
use Rattle.mysql_binlog_rows.specs.Images.{Pair}

-- the bytes, at least one, are this pair of rows
abbrev pub IsPair : Format Pair → List ℕ → Pair → Type 0
IsPair pair x p = (0 < length x) × pair.spells x p

-- the byte strings, each of at least one byte, are these pairs of rows, in order
abbrev pub ArePairs : Format Pair → List (List ℕ) → List Pair → Type 0
ArePairs pair [] [] = ⊤
ArePairs pair (x ∷ xs) (p ∷ ps) = IsPair pair x p × ArePairs pair xs ps
ArePairs pair [] (p ∷ ps) = ⊥
ArePairs pair (x ∷ xs) [] = ⊥

-- no prefix of the rest is a pair of at least one byte
abbrev pub NoPair : Format Pair → List ℕ → Type 0
NoPair pair rest = (x more : List ℕ) (p : Pair) → rest ≡ x ++ more → IsPair pair x p → ⊥

-- The fault of a rest that doesn't start with a pair: EmptyPair if a pair takes no bytes, else the
-- fault of the first part that can't be read.
abbrev pub RestFault : Format Pair → List ℕ → Fault → Type 0
RestFault pair rest e = ((e ≡ EmptyPair) × (p : Pair) × pair.spells [] p) ⊎ pair.refuses rest e

-- an empty rest has no fault; any other rest doesn't start with a pair, and has the fault of that
abbrev pub EndsWith : Format Pair → List ℕ → Option Fault → Type 0
EndsWith pair rest None = rest ≡ []
EndsWith pair rest (Some e) = (0 < length rest) × NoPair pair rest × RestFault pair rest e

-- the rows data is these pairs without gaps, and then a rest with this fault, or no rest and no
-- fault
pub record Covers (pair : Format Pair) (rows_data : List ℕ) (pairs : List Pair) (end : Option Fault) : Type 0 where
  pub parts : List (List ℕ)
  pub rest : List ℕ
  pub whole : rows_data ≡ concat parts ++ rest
  pub each : ArePairs pair parts pairs
  pub ending : EndsWith pair rest end
