-- Numbers in groups of seven bits.
use Rattle.std.proofs.Common.{◌≡◌, ℕ, zero, suc, ◌+◌, ◌-◌, ◌*◌, ◌/◌, ◌%◌, ◌^◌, ◌<◌, ◌≤◌, List, [], ◌∷◌, Ok, Err, refl, sym, ap, subst, ◌∙◌, arith}
use Rattle.std.proofs.lemmas.Bool.{le-ltb, lt-ltb}
use Rattle.std.proofs.Math.Nat.{pow-suc, one-le-pow, pow-le-pow_right}
use Rattle.binlog_base.specs.declared.fault.Fault.{Fault}
use Rattle.binlog_base.specs.Numbers.{little_endian, groups, groups_bytes}

pub group_fits : (k low high : ℕ) → 0 < k → low < 128 → high < 128 ^ (k - 1) → low + 128 * high < 128 ^ k
group_fits zero low high h p q = absurd (omega arith)
group_fits (suc k) low high h p q = let e = pow-suc 128 k in let one : suc k - 1 ≡ k = omega arith in let below : high < 128 ^ k = subst (λ j. high < 128 ^ j) one q in omega (arith, e, below)

pub one_group_fits : (k low : ℕ) → 0 < k → low < 128 → low < 128 ^ k
one_group_fits zero low h p = absurd (omega arith)
one_group_fits (suc k) low h p = let e = pow-suc 128 k in let o = one-le-pow k 128 (omega arith) in omega (arith, e, o)

pub eight_groups : (k n : ℕ) → k ≤ 9 → n < 128 ^ (k - 1) → n < 2 ^ 56
eight_groups k n h p = let less : k - 1 ≤ 8 = omega arith in let e : 128 ^ (k - 1) ≤ 128 ^ 8 = pow-le-pow_right (omega arith) less in omega (arith, e, p)

-- a fault after a byte that says that another byte follows
pub more_groups : (k b : ℕ) (bytes left : List ℕ) (e : Fault) → 0 < k → (little_endian 1).parse bytes ≡ Ok (b, left) → 128 ≤ b → (groups (k - 1)).parse left ≡ Err e → (groups k).parse bytes ≡ Err e
unfolding groups
more_groups zero b bytes left e h first t r = absurd (omega arith)
more_groups (suc k) b bytes left e h first t r =
    let one : suc k - 1 ≡ k = omega arith in
    let same : (groups k).parse left ≡ Err e = ap (λ j. (groups j).parse left) (sym one) ∙ r in
    let f = le-ltb b 128 t in
    rw (first, f, same) refl

-- what is written: the last group, or one group and then the others
pub last_group : (k n : ℕ) → 0 < k → n < 128 → groups_bytes k n ≡ n ∷ []
unfolding groups_bytes
last_group zero n some h = absurd (omega arith)
last_group (suc k) n some h = rw (lt-ltb n 128 h) refl

pub first_group : (k n : ℕ) → 0 < k → 128 ≤ n → groups_bytes k n ≡ (n % 128 + 128) ∷ groups_bytes (k - 1) (n / 128)
unfolding groups_bytes
first_group zero n some h = absurd (omega arith)
first_group (suc k) n some h = let one : suc k - 1 ≡ k = omega arith in rw (le-ltb n 128 h, one) refl

pub no_group : (k n : ℕ) → k ≡ 0 → groups_bytes k n ≡ []
unfolding groups_bytes
no_group zero n h = refl
no_group (suc k) n h = absurd (omega arith)

pub ruleset groups_written = (last_group, first_group, no_group)
