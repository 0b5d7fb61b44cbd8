-- What follows for any table.
use Rattle.std.specs.Prelude.{◌≡◌, ℕ, ◌==◌, List, [], ◌∷◌, Ok, Err}
use Rattle.std.proofs.Common.{true, false, cond}
use Rattle.binlog_base.specs.Tables.{from_table}

-- ---- what follows for any table

-- the error of a conversion by a table holds the number that was refused
pub table_refuses : {A E : Type 0} (table : List (ℕ × A)) (refused : ℕ → E) (n : ℕ) (e : E) → from_table table refused n ≡ Err e → e ≡ refused n
table_refuses [] refused n e h = cc
table_refuses (row ∷ rows) refused n e h =
    elim (n == row.0) as (λ b. cond b (Ok row.1) (from_table rows refused n) ≡ Err e → e ≡ refused n) [
      | true ↦ λ q. absurd cc
      | false ↦ table_refuses rows refused n e
    ] h
