-- What the result of reading a pair says about the start of the bytes.
use Rattle.std.proofs.Common.{◌≡◌, ◌≢◌, ◌≤◌, ℕ, List, [], ◌++◌, length, Some, Result, Ok, Err, refl, sym, ap, subst, ◌∙◌, inl, inr, arith}
use Rattle.std.proofs.lemmas.List.{length-append, nil_from_length}
use Rattle.binlog_base.specs.declared.fault.Fault.{Fault}
use Rattle.binlog_base.specs.declared.fault.Fault.TheVariants.{EmptyPair, Memory}
use Rattle.binlog_base.specs.Lemmas.Format.{ok_is, ok_or_err, succeeds}
use Rattle.binlog_base.specs.Format.{Format, IsExact}
use Rattle.mysql_binlog_rows.specs.Images.{Pair}
use Rattle.mysql_binlog_rows.specs.Cover.{IsPair, NoPair, RestFault, EndsWith}
use Rattle.mysql_binlog_rows.specs.Rows.{ItemGives}

pub pair_found : (g : Format Pair) → IsExact g → (old rest : List ℕ) (p : Pair) → g.parse old ≡ Ok (p, rest) → length rest ≢ length old → (x : List ℕ) × (old ≡ x ++ rest) × IsPair g x p
pair_found g exact old rest p e ne =
    let f = exact.sound old p rest e in
    (f.0, f.1, (omega (arith, ap length f.1, length-append f.0 rest), f.2))

pub empty_pair : (g : Format Pair) → IsExact g → (old rest : List ℕ) (p : Pair) → g.parse old ≡ Ok (p, rest) → length old ≤ length rest → NoPair g old × RestFault g old EmptyPair
empty_pair g exact old rest p e all =
    let f = exact.sound old p rest e in
    let nothing : f.0 ≡ [] = nil_from_length f.0 (omega (arith, all, ap length f.1, length-append f.0 rest)) in (
      λ x more q front is.
          let both : succeeds (p, rest) ≡ succeeds (q, more) = sym e ∙ ap g.parse front ∙ exact.complete x more q is.1 in
          let rests : rest ≡ more = ap (λ (r : Pair × List ℕ). r.1) (ok_is (p, rest) (q, more) both) in
          let lengths : length rest ≡ length more = ap length rests in
          omega (arith, all, lengths, ap length front, length-append x more, is.0),
      inl (refl, p, subst (λ (x : List ℕ). g.spells x p) nothing f.2),
    )

pub no_pair : (g : Format Pair) → IsExact g → (old : List ℕ) (e : Fault) → g.parse old ≡ Err e → NoPair g old × RestFault g old e
no_pair g exact old e h = (
  λ x more q front is. ok_or_err (g.parse old) (q, more) e (ap g.parse front ∙ exact.complete x more q is.1) h,
  inr (exact.refused_sound old e h),
)

pub item_is_pair : (g : Format Pair) (old new : List ℕ) (r : Result Pair Fault) (p : Pair) → r ≡ Ok p → ItemGives g old (Some r) new → (x : List ℕ) × (old ≡ x ++ new) × IsPair g x p
item_is_pair g old new r p is h = (subst (λ (q : Result Pair Fault). ItemGives g old (Some q) new) is h).1

pub item_is_fault : (g : Format Pair) (old new : List ℕ) (r : Result Pair Fault) (e : Fault) → r ≡ Err e → e ≢ Memory → ItemGives g old (Some r) new → EndsWith g old (Some e)
item_is_fault g old new r e is ne h =
    let told = subst (λ (q : Result Pair Fault). ItemGives g old (Some q) new) is h in
    let fault = told.2 ne in
    (told.0, fault.0, fault.1)
