-- Results whose fault, if they have one, is one that bytes can have.
use Rattle.std.specs.Prelude.{◌≡◌, ℕ, ◌==◌, Bool, true, false, List, [], ◌∷◌, Result, Ok, Err, if◌then◌else◌}
use Rattle.std.proofs.Common.{subst, sym}
use Rattle.binlog_base.specs.declared.fault.Fault.{Fault}
use Rattle.binlog_base.specs.Faults.{IsOfBytes, OfBytes}
use Rattle.binlog_base.specs.Format.{◌>>=◌}
use Rattle.binlog_base.specs.Tables.{from_table}
use Rattle.binlog_base.specs.Items.{result_map}

-- the fault itself
pub fault_of_bytes : {A : Type 0} (r : Result A Fault) (e : Fault) → OfBytes r → r ≡ Err e → IsOfBytes e
fault_of_bytes {A} r e s h = subst (λ (q : Result A Fault). OfBytes q) h s

pub bind_of_bytes : {A B : Type 0} (r : Result A Fault) (f : A → Result B Fault) → OfBytes r → ((a : A) → OfBytes (f a)) → OfBytes (r >>= f)
bind_of_bytes (Ok a) f s h = h a
bind_of_bytes (Err e) f s h = s

pub cond_of_bytes : {A : Type 0} (b : Bool) (r s : Result A Fault) → OfBytes r → OfBytes s → OfBytes (if b then r else s)
cond_of_bytes true r s hr hs = hr
cond_of_bytes false r s hr hs = hs

pub table_of_bytes : {A : Type 0} (rows : List (ℕ × A)) (refused : ℕ → Fault) (n : ℕ) → IsOfBytes (refused n) → OfBytes (from_table rows refused n)
table_of_bytes [] refused n h = h
table_of_bytes {A} (row ∷ rows) refused n h = cond_of_bytes {A = A} (n == row.0) (Ok row.1) (from_table rows refused n) tt (table_of_bytes rows refused n h)

pub mapped_of_bytes : {A B : Type 0} (g : A → B) (r : Result A Fault) (s : Result B Fault) → result_map g r ≡ s → OfBytes s → OfBytes r
mapped_of_bytes g (Ok a) s h t = tt
mapped_of_bytes {A} {B} g (Err e) s h t = subst (λ (q : Result B Fault). OfBytes q) (sym h) t
