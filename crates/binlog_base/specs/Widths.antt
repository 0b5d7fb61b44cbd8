-- Formats of a width that is known before their bytes.
use Rattle.std.proofs.Common.{◌≡◌, ℕ, ◌<◌, List, ◌++◌, length, Ok, Err}
use Rattle.binlog_base.specs.declared.fault.Fault.TheVariants.{UnexpectedEof}
use Rattle.binlog_base.specs.Format.{Format, ◌>>=◌}

-- Every value takes n bytes: fewer bytes give UnexpectedEof, and the bytes after them are ignored,
-- and are left.
pub record IsOfWidth {A : Type 0} (n : ℕ) (f : Format A) : Type 0 where
  pub short : (x : List ℕ) → length x < n → f.parse x ≡ Err UnexpectedEof
  pub whole : (x more : List ℕ) → length x ≡ n → f.parse (x ++ more) ≡ (f.parse x >>= λ r. Ok (r.0, more))
