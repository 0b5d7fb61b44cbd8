-- Whether some value of a row is diffs.
use Rattle.std.proofs.Common.{◌≡◌, ◌<◌, ◌+◌, ℕ, zero, suc, true, false, List, [], ◌∷◌, length, refl, subst, arith, inl, inr}
use Rattle.std.specs.Prelude.{Option, ◌||◌}
use Rattle.std.specs.List.{list_any}
use Rattle.std.proofs.lemmas.Bool.{false≢true, cases_lt}
use Rattle.binlog_base.specs.Values.{value_at}
use Rattle.binlog_cells.specs.Cells.{Cell}
use Rattle.row_json.specs.Rows.{is_diffs}

pub any_at : (values : List (Option Cell)) (i : ℕ) → is_diffs (value_at values i) ≡ true → list_any is_diffs values ≡ true
any_at [] i e = absurd (false≢true e)
any_at (v ∷ vs) zero e = rw e refl
any_at (v ∷ vs) (suc i) e = elim (is_diffs v) as (λ b. (b || list_any is_diffs vs) ≡ true) [ true ↦ refl | false ↦ any_at vs i e ]

pub none_at : (values : List (Option Cell)) → ((k : ℕ) → k < length values → is_diffs (value_at values k) ≡ false) → list_any is_diffs values ≡ false
none_at [] h = refl
none_at (v ∷ vs) h = rw (h 0 (omega arith)) (none_at vs (λ k b. h (suc k) (omega arith)))

pub up_to : (P : ℕ → Type 0) (i : ℕ) → ((k : ℕ) → k < i → P k) → P i → (k : ℕ) → k < i + 1 → P k
up_to P i before here k b = elim (cases_lt k i) [ inl l ↦ before k l | inr g ↦ let e : i ≡ k = omega (arith, g, b) in subst P e here ]
