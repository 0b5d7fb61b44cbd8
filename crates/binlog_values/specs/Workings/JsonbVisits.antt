-- Reading a document in document order, within both limits. The code's functions are proved against
-- this; what `parse` promises doesn't mention it.
use Rattle.std.specs.Prelude.{◌≡◌, ℕ, zero, suc, List, Result, Ok, Err}
use Rattle.binlog_base.specs.declared.fault.Fault.{Fault}
use Rattle.binlog_base.specs.declared.fault.Fault.TheVariants.{NestingTooDeep}
use Rattle.binlog_values.specs.JsonbValues.{JsonbValue}
use Rattle.binlog_values.specs.JsonbTrees.{tree_scalar, Tree, leaf, node, Branches, no_branches, branch}
use Rattle.binlog_values.specs.JsonbDocuments.{Document, faulty, single, opened, Entries, no_entries, entry, found}

-- a result with the number of the position that was read last
abbrev pub Numbered : Type 0 → Type 0
Numbered A = Result (A × ℕ) (Fault × ℕ)

-- a result at the position of number n
abbrev pub numbered : {A : Type 0} → ℕ → Result A Fault → Numbered A
numbered n (Ok x) = Ok (x, n)
numbered n (Err f) = Err (f, n)

-- the next step for a value; a fault stays
infixl 10 ◌>>-◌
abbrev pub ◌>>-◌ : {A B E : Type 0} → Result A E → (A → Result B E) → Result B E
(Ok x) >>- f = f x
(Err e) >>- f = Err e

-- the tree of a document, with at most `levels` levels of containers; n positions were read before
abbrev mutual
  pub visit : ℕ → ℕ → ℕ → Document → Numbered Tree
  visit limit levels n (faulty f) = Err (f, n)
  visit limit levels n (single s) = numbered n (tree_scalar s >>- λ p. Ok (leaf p))
  visit limit zero n (opened c es) = Err (NestingTooDeep, n)
  visit limit (suc levels) n (opened c es) = visits limit levels n es >>- λ bs. Ok (node c.is_array bs.0, bs.1)

  pub visits : ℕ → ℕ → ℕ → Entries → Numbered Branches
  visits limit levels n no_entries = Ok (no_branches, n)
  visits limit levels n (entry key d es) =
      numbered (suc n) (found limit (suc n) key d) >>- λ k.
      visit limit levels (suc n) d >>- λ t.
      visits limit levels t.1 es >>- λ bs. Ok (branch k.0 t.0 bs.0, bs.1)

-- entries after those that were read before
abbrev pub append : Branches → Branches → Branches
append no_branches cs = cs
append (branch k t bs) cs = branch k t (append bs cs)

-- the entries that were read before, and then those that are read now
abbrev pub with_front : Branches → Numbered Branches → Numbered Branches
with_front front r = r >>- λ bs. Ok (append front bs.0, bs.1)

-- the fault of an entry: its key's, else its value's
abbrev pub IsEntryFault : Fault → Result (List ℕ) Fault → Result JsonbValue Fault → Type 0
IsEntryFault f (Err k) value = f ≡ k
IsEntryFault f (Ok k) value = value ≡ Err f
