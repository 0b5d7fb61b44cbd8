-- The same tables are in force.
use Rattle.std.proofs.Common.{◌≡◌, ℕ}
use Rattle.binlog_file.specs.Tables.{InForce}

pub held_as : (a b : InForce) → ((id : ℕ) → a.tables id ≡ b.tables id) → a.ended ≡ b.ended → a ≡ b
held_as a b same ended = λ i. record { tables = λ id. same id i; ended = ended i }
