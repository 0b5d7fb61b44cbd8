-- What the laws of the crate say about numbers, strings and formats.
use Rattle.std.specs.Prelude.{◌≡◌, ℕ, ◌≤◌, List, ◌++◌, length, Ok}
use Rattle.binlog_base.specs.declared.fault.Fault.{Fault}
use Rattle.binlog_base.specs.Faults.{IsOfBytes}
use Rattle.binlog_base.specs.Format.{Format}
use Rattle.binlog_base.specs.Numbers.{lenenc, lenenc_bytes, varlen, varlen_bytes, AreBytes}

-- bytes begin with at most one spelling of a value, and it spells one value
abbrev pub IsUnambiguous : {A : Type 0} → Format A → Type 0
IsUnambiguous {A} f = (x y r s : List ℕ) (a b : A) → f.spells x a → f.spells y b → x ++ r ≡ y ++ s → (x ≡ y) × (a ≡ b)

-- where bytes are refused, no prefix of them spells a value, and there is one fault, which bytes
-- can have
abbrev pub RefusesForOneReason : {A : Type 0} → Format A → Type 0
RefusesForOneReason {A} f =
    ((x y more : List ℕ) (a : A) (e : Fault) → f.refuses x e → x ≡ y ++ more → f.spells y a → ⊥)
    × ((x : List ℕ) (d e : Fault) → f.refuses x d → f.refuses x e → d ≡ e)
    × ((x : List ℕ) (e : Fault) → f.refuses x e → IsOfBytes e)

-- bytes spell at most one value
abbrev pub SpellsOneValue : {A : Type 0} → Format A → Type 0
SpellsOneValue {A} f = (x : List ℕ) (a b : A) → f.spells x a → f.spells x b → a ≡ b

-- bytes that are refused spell no value as a whole, and there is one fault, which bytes can have
abbrev pub RefusesWholesForOneReason : {A : Type 0} → Format A → Type 0
RefusesWholesForOneReason {A} f =
    ((x : List ℕ) (a : A) (e : Fault) → f.refuses x e → f.spells x a → ⊥)
    × ((x : List ℕ) (d e : Fault) → f.refuses x d → f.refuses x e → d ≡ e)
    × ((x : List ℕ) (e : Fault) → f.refuses x e → IsOfBytes e)

-- the bytes are read back as the value, whatever follows them
abbrev pub ReadsBack : {A : Type 0} → Format A → List ℕ → A → Type 0
ReadsBack f x a = (left : List ℕ) → f.parse (x ++ left) ≡ Ok (a, left)

-- no spelling of a length-encoded number in bytes is shorter than the one that is written
abbrev pub LenencIsShortest : Type 0
LenencIsShortest = (x : List ℕ) (n : ℕ) → AreBytes x → lenenc.spells x n → length (lenenc_bytes n) ≤ length x

-- no spelling of a VarLen number in bytes is shorter than the one that is written
abbrev pub VarlenIsShortest : Type 0
VarlenIsShortest = (x : List ℕ) (n : ℕ) → AreBytes x → varlen.spells x n → length (varlen_bytes n) ≤ length x
