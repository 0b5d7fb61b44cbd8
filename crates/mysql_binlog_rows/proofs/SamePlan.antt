-- Images with the same columns have the same plan.
use Rattle.std.proofs.Common.{◌≡◌, ◌+◌, ◌≤◌, Bool, true, false, List, [], ◌∷◌, Option, Some, None, refl, ap, arith}
use Rattle.std.specs.Bool.{beq}
use Rattle.std.specs.Option.{option_map}
use Rattle.std.specs.Cmp.Lexicographic.{pointwise}
use Rattle.binlog_table.specs.TableMap.{TableMap}
use Rattle.mysql_binlog_rows.specs.RowsEvent.{same_columns}
use Rattle.mysql_binlog_rows.specs.Workings.Plans.{plan_of, plans_by, walked_in, walked_apart}

same_bits : (a b : List Bool) → pointwise beq a b ≡ true → a ≡ b
same_bits [] [] h = refl
same_bits [] (y ∷ ys) h = absurd cc
same_bits (x ∷ xs) [] h = absurd cc
same_bits (true ∷ xs) (true ∷ ys) h = ap (λ (t : List Bool). true ∷ t) (same_bits xs ys h)
same_bits (false ∷ xs) (false ∷ ys) h = ap (λ (t : List Bool). false ∷ t) (same_bits xs ys h)
same_bits (true ∷ xs) (false ∷ ys) h = absurd cc
same_bits (false ∷ xs) (true ∷ ys) h = absurd cc

pub same_plan : (t : TableMap) (before after : Option (List Bool)) → same_columns before after ≡ true → option_map (plan_of t) before ≡ option_map (plan_of t) after
same_plan t None after h = absurd cc
same_plan t (Some a) None h = absurd cc
same_plan t (Some a) (Some b) h = ap (λ (c : List Bool). Some (plan_of t c)) (same_bits a b h)

shared_least : (t : TableMap) (a b : List Bool) (r : Bool) → (r ≡ true → a ≡ b) → walked_in (Some (plan_of t b)) ≤ walked_in (Some (plan_of t a)) + walked_apart r (Some (plan_of t b))
shared_least t a b true h = let same = ap (λ (c : List Bool). walked_in (Some (plan_of t c))) (h refl) in omega (arith, same)
shared_least t a b false h = omega arith

-- the columns of the plan after the change are counted once at least
pub after_least : (t : TableMap) (o : Bool) (before after : Option (List Bool)) → walked_in (option_map (plan_of t) after) ≤ (plans_by t o before after).walked
after_least t o None after = omega arith
after_least t o (Some a) None = omega arith
after_least t o (Some a) (Some b) = shared_least t a b (pointwise beq a b) (same_bits a b)
