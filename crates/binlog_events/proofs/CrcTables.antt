-- The tables hold remainders: each entry is computed.
use Rattle.std.proofs.Common.{◌≡◌, ℕ, zero, suc, ◌+◌, ◌*◌, ◌<◌, Bool, true, false, ◌&&◌, nat_eq, slice_index_or, List, [], refl, arith, inl, inr}
use Rattle.std.proofs.lemmas.Bool.{cases_eq, eqb-true}
use Rattle.binlog_events.specs.Crc32.{after_bit, after_bits}
use Rattle.binlog_events.specs.declared.crc.tables.TheConstants.{TABLES}

-- the test, below n
all_below : (ℕ → Bool) → ℕ → Bool
all_below f zero = true
all_below f (suc n) = f n && all_below f n

both_of : (x y : Bool) → (x && y) ≡ true → (x ≡ true) × (y ≡ true)
both_of true y h = (refl, h)
both_of false y h = cc

at : (f : ℕ → Bool) (n : ℕ) → all_below f n ≡ true → (i : ℕ) → i < n → f i ≡ true
unfolding all_below
at f zero h i lt = absurd (omega arith)
at f (suc n) h i lt =
    let both = both_of (f n) (all_below f n) h in
    elim (cases_eq i n) [ inl same ↦ rw same both.0 | inr other ↦ at f n both.1 i (omega arith) ]

-- level k of these tables is right
is_right : List (List ℕ) → ℕ → Bool
is_right tables k = all_below (λ i. nat_eq (slice_index_or (slice_index_or tables k []) i 0) (after_bits (8 * (k + 1)) i)) 256

from_tables : (tables : List (List ℕ)) → all_below (is_right tables) 16 ≡ true → (k i : ℕ) → k < 16 → i < 256
    → slice_index_or (slice_index_or tables k []) i 0 ≡ after_bits (8 * (k + 1)) i
unfolding all_below is_right
from_tables tables h k i hk hi = eqb-true _ _ (at (λ j. nat_eq (slice_index_or (slice_index_or tables k []) j 0) (after_bits (8 * (k + 1)) j)) 256 (at (is_right tables) 16 h k hk) i hi)

pub tables_are_right : (k i : ℕ) → k < 16 → i < 256 → slice_index_or (slice_index_or TABLES k []) i 0 ≡ after_bits (8 * (k + 1)) i
unfolding after_bit after_bits all_below is_right
tables_are_right k i hk hi = from_tables TABLES refl k i hk hi
