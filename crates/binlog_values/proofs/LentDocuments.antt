-- What was read of all bytes is what the bytes are read as; diffs that are read one by one.
use Rattle.std.proofs.Common.{◌≡◌, ◌≢◌, ℕ, Bool, true, false, ◌&&◌, List, [], ◌∷◌, length, Option, Some, None, Result, Ok, Err, refl, sym, ap, subst, ◌∙◌, arith}
use Rattle.std.specs.Prelude.{◌==◌}
use Rattle.std.specs.Option.{MatchOption, IfSome}
use Rattle.std.specs.List.{AllZip}
use Rattle.std.specs.Iterator.{YieldsFirst, YieldsThen, ComparesItemsByEq}
use Rattle.std.specs.Cmp.Lexicographic.{pointwise}
use Rattle.std.proofs.lemmas.Bool.{true≢false}
use Rattle.binlog_base.specs.declared.fault.Fault.{Fault}
use Rattle.binlog_base.specs.Items.{repeated}
use Rattle.binlog_base.specs.Lemmas.Format.{bind_ok, ok_is, ok_or_err}
use Rattle.binlog_base.specs.Lemmas.Items.{values_then, repeated_ok, repeated_err, repeated_end}
use Rattle.binlog_values.specs.JsonDiffs.{Diff, diff}
use Rattle.binlog_values.specs.Lemmas.JsonDiffs.{eats_diff}
use Rattle.binlog_values.specs.JsonEquality.{same_diff}
use Rattle.binlog_decimal.proofs.DecimalPrinting.{apart}
use Rattle.binlog_values.specs.LentDocuments.{read_or, diffs_of, AreDiffs}

pub itself : {A : Type 0} (other : A) (r : Result (A × List ℕ) Fault) (a : A) (x : List ℕ) → r ≡ Ok (a, x) → r ≡ Ok (read_or other r, x)
itself {A} other r a x h = h ∙ ap (λ (v : A). Ok (v, x)) (sym (ap (read_or other) h))

pub nothing_before : {A : Type 0} (r : Result (List A × List ℕ) Fault) → values_then [] r ≡ r
nothing_before (Ok p) = refl
nothing_before (Err e) = refl

-- ---- diffs one by one

-- what is read after a value that is known
after_one : (d : Diff) (r : Result (List Diff × List ℕ) Fault) (all : List Diff) → values_then (d ∷ []) r ≡ Ok (all, []) → (r ≡ Ok (read_or [] r, [])) × (all ≡ d ∷ read_or [] r)
after_one d r all h =
    let o = bind_ok r (λ (more : List Diff × List ℕ). Ok (d ∷ more.0, more.1)) (all, []) h in
    let same : (d ∷ o.0.0, o.0.1) ≡ (all, []) = ok_is (d ∷ o.0.0, o.0.1) (all, []) o.2 in
    let none : o.0.1 ≡ [] = ap (λ (p : List Diff × List ℕ). p.1) same in
    (itself [] r o.0.0 [] (o.1 ∙ ap (λ (l : List ℕ). Ok (o.0.0, l)) none), sym (ap (λ (p : List Diff × List ℕ). p.0) same) ∙ ap (λ (l : List Diff). d ∷ l) (sym (ap (read_or []) o.1)))

pub one_more : (x left : List ℕ) (d : Diff) → AreDiffs x → diff.parse x ≡ Ok (d, left) → AreDiffs left × (diffs_of x ≡ d ∷ diffs_of left)
one_more x left d h e =
    after_one d ((repeated diff).parse left) (diffs_of x) (sym (repeated_ok diff eats_diff [] x d left e) ∙ nothing_before ((repeated diff).parse x) ∙ h)

pub no_fault : (x : List ℕ) (e : Fault) → AreDiffs x → x ≢ [] → diff.parse x ≡ Err e → ⊥
no_fault x e h some k =
    ok_or_err ((repeated diff).parse x) (diffs_of x, []) e h (sym (nothing_before ((repeated diff).parse x)) ∙ repeated_err diff [] x e some k)

pub none_left : (x : List ℕ) → x ≡ [] → diffs_of x ≡ []
none_left x h = ap (read_or []) (sym (nothing_before ((repeated diff).parse x)) ∙ repeated_end diff [] x h)

-- whether there are bytes
pub no_bytes : (x : List ℕ) → (length x == 0) ≡ true → x ≡ []
no_bytes [] h = refl
no_bytes (b ∷ x) h = absurd (true≢false (sym h ∙ apart (length (b ∷ x)) 0 (λ e. omega (arith, e))))

pub some_bytes : (x : List ℕ) → (length x == 0) ≡ false → x ≢ []
some_bytes x h e = true≢false (sym (ap (λ (l : List ℕ). length l == 0) e) ∙ h)

-- ---- two lists of diffs

-- one call of an iterator over diffs
abbrev next : List Diff → Option Diff → List Diff → Type 0
next = YieldsFirst (λ ds. ds)

-- the last two answers of the iterators that `eq` compares, and its own
abbrev Last : Bool → Option Diff → Option Diff → Type 0
Last r o p = MatchOption o (MatchOption p (r ≡ true) (λ _. r ≡ false)) (λ x. (r ≡ false) × IfSome p (λ y. same_diff x y ≡ false))

at_last : (s t u v : List Diff) (o p : Option Diff) (r : Bool) → next s o u → next t p v → Last r o p → r ≡ pointwise same_diff s t
at_last s t u v None None r a b h = h ∙ sym (λ i. pointwise same_diff (a.0 i) (b.0 i))
at_last s t u v None (Some y) r a b h = h ∙ sym (λ i. pointwise same_diff (a.0 i) (b i))
at_last s t u v (Some x) None r a b h = h.0 ∙ sym (λ i. pointwise same_diff (a i) (b.0 i))
at_last s t u v (Some x) (Some y) r a b h = h.0 ∙ sym ((λ i. pointwise same_diff (a i) (b i)) ∙ ap (λ c. c && pointwise same_diff u v) h.1)

along : (xs ys s t u v : List Diff) (o p : Option Diff) (r : Bool) → YieldsThen next s xs o u → YieldsThen next t ys p v → AllZip (λ x y. same_diff x y ≡ true) xs ys → Last r o p → r ≡ pointwise same_diff s t
along [] [] s t u v o p r a b z h = at_last s t u v o p r (subst (λ j. next j o u) (sym a.1) a.2) (subst (λ j. next j p v) (sym b.1) b.2) h
along [] (y ∷ ys) s t u v o p r a b z h = absurd z
along (x ∷ xs) [] s t u v o p r a b z h = absurd z
along (x ∷ xs) (y ∷ ys) s t u v o p r a b z h =
    along xs ys a.1.0 b.1.0 u v o p r (a.0, a.1.2, a.2) (b.0, b.1.2, b.2) z.1 h
    ∙ ap (λ c. c && pointwise same_diff a.1.0 b.1.0) (sym z.0) ∙ sym (λ i. pointwise same_diff (a.1.1 i) (b.1.1 i))

-- `eq` of two iterators over diffs is that of their lists
pub eq_of_diffs : (s t : List Diff) (r : Bool) → ComparesItemsByEq next (λ x y. y ≡ x) next s t same_diff r → r ≡ pointwise same_diff s t
eq_of_diffs s t r e = along e.1 e.2 s e.0 e.5 e.6 e.3 e.4 r e.8 e.9 e.10 e.11 ∙ ap (pointwise same_diff s) e.7
