-- Rows data is split into pairs in only one way, and a split can be extended by a pair.
use Rattle.std.proofs.Common.{◌≡◌, ℕ, List, [], ◌∷◌, ◌++◌, length, Option, Some, None, refl, sym, ap, subst, ◌∙◌, inl, inr, arith, append_assoc}
use Rattle.std.specs.List.{concat}
use Rattle.std.proofs.lemmas.List.{length-append, append_cancel_left, append-nil}
use Rattle.std.proofs.lemmas.List.Folds.{concat-append}
use Rattle.binlog_base.specs.declared.fault.Fault.{Fault}
use Rattle.binlog_base.specs.Format.{Format, IsExact}
use Rattle.mysql_binlog_rows.specs.Images.{Pair}
use Rattle.mysql_binlog_rows.specs.Cover.{IsPair, RestFault, ArePairs, EndsWith, Covers}
use Rattle.binlog_base.specs.Lemmas.Format.{one_spelling, one_fault, refused_no_spelling}

rest_fault_one : (g : Format Pair) → IsExact g → (r : List ℕ) (d e : Fault) → RestFault g r d → RestFault g r e → d ≡ e
rest_fault_one g exact r d e hd he =
    elim hd [
      | inl a ↦ elim he [
        | inl b ↦ a.0 ∙ sym b.0
        | inr b ↦ absurd (refused_no_spelling g exact r [] r a.1 e b refl a.2)
      ]
      | inr a ↦ elim he [
        | inl b ↦ absurd (refused_no_spelling g exact r [] r b.1 d a refl b.2)
        | inr b ↦ one_fault g exact r d e a b
      ]
    ]

ends_one : (g : Format Pair) → IsExact g → (r : List ℕ) (e f : Option Fault) → EndsWith g r e → EndsWith g r f → e ≡ f
ends_one g exact r None None he hf = refl
ends_one g exact r None (Some f) he hf = absurd (omega (arith, ap length he, hf.0))
ends_one g exact r (Some e) None he hf = absurd (omega (arith, ap length hf, he.0))
ends_one g exact r (Some e) (Some f) he hf = ap Some (rest_fault_one g exact r e f he.2 hf.2)

-- a rest can't start with a pair
goes_further : (g : Format Pair) (r x more : List ℕ) (p : Pair) (e : Option Fault) → EndsWith g r e → r ≡ x ++ more → IsPair g x p → ⊥
goes_further g r x more p None he front is = omega (arith, ap length he, ap length front, length-append x more, is.0)
goes_further g r x more p (Some e) he front is = he.1 x more p front is

regroup : (x : List ℕ) (xs : List (List ℕ)) (r : List ℕ) → concat (x ∷ xs) ++ r ≡ x ++ (concat xs ++ r)
regroup x xs r = append_assoc x (concat xs) r

pub parts_one : (g : Format Pair) → IsExact g → (xs ys : List (List ℕ)) (r s : List ℕ) (ps qs : List Pair) (e f : Option Fault) → concat xs ++ r ≡ concat ys ++ s
    → ArePairs g xs ps → ArePairs g ys qs → EndsWith g r e → EndsWith g s f → (xs ≡ ys) × (ps ≡ qs) × (e ≡ f)
parts_one g exact [] [] r s [] [] e f same hx hy he hf = (refl, refl, ends_one g exact r e f he (subst (λ (t : List ℕ). EndsWith g t f) (sym same) hf))
parts_one g exact [] [] r s [] (q ∷ qs) e f same hx hy he hf = absurd hy
parts_one g exact [] [] r s (p ∷ ps) qs e f same hx hy he hf = absurd hx
parts_one g exact [] (y ∷ ys) r s ps [] e f same hx hy he hf = absurd hy
parts_one g exact [] (y ∷ ys) r s ps (q ∷ qs) e f same hx hy he hf = absurd (goes_further g r y (concat ys ++ s) q e he (same ∙ regroup y ys s) hy.0)
parts_one g exact (x ∷ xs) [] r s [] qs e f same hx hy he hf = absurd hx
parts_one g exact (x ∷ xs) [] r s (p ∷ ps) qs e f same hx hy he hf = absurd (goes_further g s x (concat xs ++ r) p f hf (sym same ∙ regroup x xs r) hx.0)
parts_one g exact (x ∷ xs) (y ∷ ys) r s [] qs e f same hx hy he hf = absurd hx
parts_one g exact (x ∷ xs) (y ∷ ys) r s (p ∷ ps) [] e f same hx hy he hf = absurd hy
parts_one g exact (x ∷ xs) (y ∷ ys) r s (p ∷ ps) (q ∷ qs) e f same hx hy he hf =
    let fronts : x ++ (concat xs ++ r) ≡ y ++ (concat ys ++ s) = sym (regroup x xs r) ∙ same ∙ regroup y ys s in
    let first = one_spelling g exact x y (concat xs ++ r) (concat ys ++ s) p q hx.0.1 hy.0.1 fronts in
    let later = append_cancel_left x (concat xs ++ r) (concat ys ++ s) (fronts ∙ ap (λ (t : List ℕ). t ++ (concat ys ++ s)) (sym first.0)) in
    let others = parts_one g exact xs ys r s ps qs e f later hx.1 hy.1 he hf in
    let lists : x ∷ xs ≡ y ∷ ys = rw (first.0, others.0) refl in
    let pairs : p ∷ ps ≡ q ∷ qs = rw (first.1, others.1) refl in
    (lists, pairs, others.2)

pub covers_one : (g : Format Pair) → IsExact g → (bytes : List ℕ) (ps qs : List Pair) (e f : Option Fault) → Covers g bytes ps e → Covers g bytes qs f → (ps ≡ qs) × (e ≡ f)
covers_one g exact bytes ps qs e f a b =
    let one = parts_one g exact a.parts b.parts a.rest b.rest ps qs e f (sym a.whole ∙ b.whole) a.each b.each a.ending b.ending in
    (one.1, one.2)

-- lists of pairs with the same bytes are the same, and no pair is a proper prefix of another
pub pairs_one : (g : Format Pair) → IsExact g → (xs ys : List (List ℕ)) (ps qs : List Pair) → ArePairs g xs ps → ArePairs g ys qs → concat xs ≡ concat ys → (xs ≡ ys) × (ps ≡ qs)
pairs_one g exact xs ys ps qs hx hy same =
    let one = parts_one g exact xs ys [] [] ps qs None None (ap (λ (t : List ℕ). t ++ []) same) hx hy refl refl in
    (one.0, one.1)

pub no_proper_prefix : (g : Format Pair) → IsExact g → (x more : List ℕ) (p q : Pair) → IsPair g x p → IsPair g (x ++ more) q → more ≡ []
no_proper_prefix g exact x more p q hp hq =
    let one = one_spelling g exact x (x ++ more) more [] p q hp.1 hq.1 (sym (append-nil (x ++ more))) in
    append_cancel_left x more [] (sym one.0 ∙ sym (append-nil x))

are-last : (g : Format Pair) (xs : List (List ℕ)) (ps : List Pair) (x : List ℕ) (p : Pair) → ArePairs g xs ps → IsPair g x p → ArePairs g (xs ++ x ∷ []) (ps ++ p ∷ [])
are-last g [] [] x p h is = (is, tt)
are-last g [] (q ∷ qs) x p h is = absurd h
are-last g (y ∷ ys) [] x p h is = absurd h
are-last g (y ∷ ys) (q ∷ qs) x p h is = (h.0, are-last g ys qs x p h.1 is)

abbrev pub SoFar : Format Pair → List ℕ → List Pair → List ℕ → Type 0
SoFar g bytes ps left = (parts : List (List ℕ)) × (bytes ≡ concat parts ++ left) × ArePairs g parts ps

pub one_pair_more : (g : Format Pair) (bytes : List ℕ) (ps : List Pair) (old new x : List ℕ) (p : Pair) → SoFar g bytes ps old → old ≡ x ++ new → IsPair g x p → SoFar g bytes (ps ++ p ∷ []) new
one_pair_more g bytes ps old new x p h front is =
    let joined : concat (h.0 ++ x ∷ []) ≡ concat h.0 ++ x = rw (concat-append h.0 (x ∷ []), append-nil x) refl in
    (h.0 ++ x ∷ [], h.1 ∙ ap (λ (t : List ℕ). concat h.0 ++ t) front ∙ sym (append_assoc (concat h.0) x new) ∙ ap (λ (t : List ℕ). t ++ new) (sym joined), are-last g h.0 ps x p h.2 is)

pub covers_from : (g : Format Pair) (bytes : List ℕ) (ps : List Pair) (left : List ℕ) (e : Option Fault) → SoFar g bytes ps left → EndsWith g left e → Covers g bytes ps e
covers_from g bytes ps left e h ending = record { parts = h.0; rest = left; whole = h.1; each = h.2; ending = ending }
