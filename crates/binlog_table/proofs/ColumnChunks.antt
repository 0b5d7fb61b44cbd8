-- A walk over the columns' metadata, chunk by chunk, gives the chunk of each column.
use Rattle.std.proofs.Common.{◌≡◌, ℕ, zero, suc, ◌-◌, ◌<◌, List, ◌∷◌, Ok, Err, Some, None, refl, arith}
use Rattle.binlog_base.specs.declared.fault.Fault.{Fault}
use Rattle.binlog_table.specs.Chunks.{chunk, chunk_at}

-- the chunks of columns whose first type byte is `raw`
pub chunk_none : (raw : ℕ) (more types metadata : List ℕ) (i : ℕ) (e : Fault) → types ≡ raw ∷ more → (chunk raw).parse metadata ≡ Err e → chunk_at types metadata i ≡ None
chunk_none raw more types metadata zero e h f = rw (h, f) refl
chunk_none raw more types metadata (suc i) e h f = rw (h, f) refl

pub chunk_here : (raw : ℕ) (more types metadata c left : List ℕ) (i : ℕ) → i ≡ 0 → types ≡ raw ∷ more → (chunk raw).parse metadata ≡ Ok (c, left) → chunk_at types metadata i ≡ Some c
chunk_here raw more types metadata c left zero z h f = rw (h, f) refl
chunk_here raw more types metadata c left (suc i) z h f = absurd (omega arith)

pub chunk_after : (raw : ℕ) (more types metadata c left : List ℕ) (i : ℕ) → 0 < i → types ≡ raw ∷ more → (chunk raw).parse metadata ≡ Ok (c, left) → chunk_at types metadata i ≡ chunk_at more left (i - 1)
chunk_after raw more types metadata c left zero some h f = absurd (omega arith)
chunk_after raw more types metadata c left (suc i) some h f = let one : suc i - 1 ≡ i = omega arith in rw (h, f, one) refl
