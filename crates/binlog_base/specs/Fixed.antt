-- The format of numbers of a fixed width.
use Rattle.std.proofs.Common.{ℕ, List}
use Rattle.binlog_base.specs.Format.{Format, take_bytes, map_value}

-- a number in w bytes: `number` gives the bits of the bytes, by the byte order, and `value` the
-- number that has these bits
unfoldable pub fixed : {A : Type 0} → (ℕ → List ℕ → ℕ) → (ℕ → ℕ → A) → ℕ → Format A
fixed number value w = map_value (take_bytes w) (λ x. value w (number w x))
