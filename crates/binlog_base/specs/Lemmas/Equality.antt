-- Equality of values is an equivalence, and two equal values are one.
use Rattle.std.specs.Prelude.{◌≡◌, true}
use Rattle.std.specs.Bool.{Decides}
use Rattle.std.specs.Cmp.{IsEquivalence, decided, int_eq_equiv, nat_eq_equiv, bool_eq_equiv}
use Rattle.std.specs.Cmp.Lexicographic.{nat_list_eq_equiv, bytes_decides}
use Rattle.std.proofs.Common.{subst, sym, ap, refl, arith}
use Rattle.std.proofs.lemmas.Bool.{and_parts, and_from, true≢false}
use Rattle.std.proofs.lemmas.Bool.Decides.{Decides-eqb, Decides-int_eq}
use Rattle.binlog_base.specs.Values.{PlainValue, Null, Bytes, Int, UInt, Float, Double, Date, Time}
use Rattle.binlog_base.specs.Equality.{same_plain}

same_as_itself : (a : PlainValue) → same_plain a a ≡ true
same_as_itself Null = refl
same_as_itself (Bytes x) = nat_list_eq_equiv.refl x
same_as_itself (Int x) = int_eq_equiv.refl x
same_as_itself (UInt x) = nat_eq_equiv.refl x
same_as_itself (Float x) = nat_eq_equiv.refl x
same_as_itself (Double x) = nat_eq_equiv.refl x
same_as_itself (Date y m d h i s u) = grind (arith, and_from, nat_eq_equiv.refl)
same_as_itself (Time n d h i s u) = grind (arith, and_from, nat_eq_equiv.refl, bool_eq_equiv.refl)

equal_where_same : (a b : PlainValue) → same_plain a b ≡ true → a ≡ b
equal_where_same Null Null e = refl
equal_where_same (Bytes x) (Bytes y) e = ap Bytes ((bytes_decides x y).0 e)
equal_where_same (Int x) (Int y) e = ap Int ((Decides-int_eq x y).0 e)
equal_where_same (UInt x) (UInt y) e = ap UInt ((Decides-eqb x y).0 e)
equal_where_same (Float x) (Float y) e = ap Float ((Decides-eqb x y).0 e)
equal_where_same (Double x) (Double y) e = ap Double ((Decides-eqb x y).0 e)
equal_where_same (Date y0 m0 d0 h0 i0 s0 u0) (Date y1 m1 d1 h1 i1 s1 u1) e = grind (arith, and_parts)
equal_where_same (Time n0 d0 h0 i0 s0 u0) (Time n1 d1 h1 i1 s1 u1) e = grind (arith, and_parts)
equal_where_same _ _ e = absurd (true≢false (sym e))

-- `same_plain` is equality
pub same_plain_is_equality : (a b : PlainValue) → Decides (same_plain a b) (a ≡ b)
same_plain_is_equality a b = (equal_where_same a b, λ e. subst (λ c. same_plain a c ≡ true) e (same_as_itself a))

pub same_plain_is_equivalence : IsEquivalence same_plain
same_plain_is_equivalence = decided same_plain same_plain_is_equality
