-- Each way to make a format gives an exact format; and what follows from a format being exact.
use Rattle.std.proofs.Common.{◌≡◌, ◌⊎◌, ℕ, ◌<◌, ◌≤◌, Bool, true, false, cond, ltb, List, [], ◌++◌, length, take, drop, Result, Ok, Err, refl, sym, ap, subst, ◌∙◌, append_assoc, append-nil, arith, inl, inr}
use Rattle.std.proofs.lemmas.Bool.{ltb-false, le-ltb, ltb-true, lt-ltb}
use Rattle.std.proofs.lemmas.List.{take_at, drop_at, take-append-drop, length-append, length-take, append_cancel_right}
use Rattle.binlog_base.specs.declared.fault.Fault.{Fault}
use Rattle.binlog_base.specs.declared.fault.Fault.TheVariants.{UnexpectedEof}
use Rattle.binlog_base.specs.Format.{Format, FormatOf, IsExact, IsExactToEnd, IsExactOf, IsExactToEndOf, Exact, ParsesAs, ReadsAs, OrMemoryIf, ◌>>=◌, take_or, take_bytes, no_bytes, refusal, check, within, all_of, sequence, inside, map_value, map_fault, fault_map, choice, all_left}

-- the value of a step that did not fail, and the fault of one that did
pub bind_ok : {E A B : Type 0} (r : Result A E) (f : A → Result B E) (y : B) → (r >>= f) ≡ Ok y → (x : A) × (r ≡ Ok x) × (f x ≡ Ok y)
bind_ok (Ok x) f y e = (x, refl, e)
bind_ok (Err d) f y e = absurd cc

pub bind_err : {E A B : Type 0} (r : Result A E) (f : A → Result B E) (d : E) → (r >>= f) ≡ Err d → (r ≡ Err d) ⊎ ((x : A) × (r ≡ Ok x) × (f x ≡ Err d))
bind_err (Ok x) f d e = inr (x, refl, e)
bind_err (Err c) f d e = inl (cc)

abbrev pub succeeds : {E A : Type 0} → A → Result A E
succeeds x = Ok x

pub ok_or_err : {E A : Type 0} (r : Result A E) (x : A) (e : E) → r ≡ Ok x → r ≡ Err e → ⊥
ok_or_err r x e p q = cc

abbrev pub failed : {E A : Type 0} → E → Result A E
failed e = Err e

pub err_is : {E A : Type 0} (d e : E) → failed {A = A} d ≡ failed {A = A} e → d ≡ e
err_is d e h = cc

pub ok_is : {E A : Type 0} (x y : A) → succeeds {E = E} x ≡ succeeds y → x ≡ y
ok_is x y e = cc

pub guard_ok : {E A : Type 0} (b : Bool) (d : E) (x y : A) → cond b (Err d) (Ok x) ≡ Ok y → (b ≡ false) × (x ≡ y)
guard_ok true d x y e = absurd cc
guard_ok false d x y e = (refl, cc)

pub guard_err : {E A : Type 0} (b : Bool) (c d : E) (x : A) → cond b (Err c) (Ok x) ≡ Err d → (b ≡ true) × (c ≡ d)
guard_err true c d x e = (refl, cc)
guard_err false c d x e = absurd cc

pub exact_take_or : {E : Type 0} {K : E → Type 0} (short : ℕ → E) (n : ℕ) → ((m : ℕ) → m < n → K (short m)) → IsExactOf K (take_or short n)
exact_take_or {E} {K} short n of_bytes = record {
  sound = λ x a rest e.
      let g = guard_ok (ltb (length x) n) (short (length x)) (take n x, drop n x) (a, rest) e in
      let long : n ≤ length x = ltb-false _ _ g.0 in
      let a-is : take n x ≡ a = ap (λ (p : List ℕ × List ℕ). p.0) g.1 in
      let rest-is : drop n x ≡ rest = ap (λ (p : List ℕ × List ℕ). p.1) g.1 in
      (take n x, sym (take-append-drop n x) ∙ ap (λ (r : List ℕ). take n x ++ r) rest-is, (sym a-is, omega (arith, length-take n x)));
  complete = λ y rest a s.
      let long : ltb (length (y ++ rest)) n ≡ false = le-ltb _ _ (omega (arith, length-append y rest, s.1)) in
      rw (long, take_at y rest n s.1, drop_at y rest n s.1, s.0) refl;
  refused_sound = λ x e h. let g = guard_err (ltb (length x) n) (short (length x)) e (take n x, drop n x) h in (ltb-true _ _ g.0, sym g.1);
  refused_complete = λ x e h. rw (lt-ltb _ _ h.0, h.1) refl;
  of_bytes = λ x e h. subst K (sym h.1) (of_bytes (length x) h.0);
}

pub exact_take_bytes : (n : ℕ) → IsExact (take_bytes n)
exact_take_bytes n = exact_take_or (λ _. UnexpectedEof) n (λ m _. refl)

pub exact_no_bytes : {E A : Type 0} {K : E → Type 0} (a : A) → IsExactOf K (no_bytes a)
exact_no_bytes {E} {A} a = record {
  sound = λ x b rest e.
      let both_are : (a, x) ≡ (b, rest) = ok_is (a, x) (b, rest) e in
      ([], ap (λ (p : A × List ℕ). p.1) both_are, (refl, sym (ap (λ (p : A × List ℕ). p.0) both_are)));
  complete = λ y rest b s. rw (s.0, s.1) refl;
  refused_sound = λ x e h. absurd cc;
  refused_complete = λ x e h. absurd h;
  of_bytes = λ x e h. absurd h;
}

pub exact_refusal : {E A : Type 0} {K : E → Type 0} (d : E) → K d → IsExactOf K (refusal {A = A} d)
exact_refusal {E} {A} {K} d of_bytes = record {
  sound = λ x b rest e. absurd cc;
  complete = λ y rest b s. absurd s;
  refused_sound = λ x e h. cc;
  refused_complete = λ x e h. rw h refl;
  of_bytes = λ x e h. subst K (sym h) of_bytes;
}

pub exact_check : {E A : Type 0} {K : E → Type 0} (r : Result A E) → ((e : E) → r ≡ Err e → K e) → IsExactOf K (check r)
exact_check {E} {A} (Ok a) of_bytes = record {
  sound = λ x b rest e.
      let same : (a, x) ≡ (b, rest) = ok_is (a, x) (b, rest) e in
      ([], ap (λ (p : A × List ℕ). p.1) same, (refl, ap (λ (p : A × List ℕ). succeeds p.0) same));
  complete = λ y rest b s. rw (s.0, ok_is a b s.1) refl;
  refused_sound = λ x e h. absurd cc;
  refused_complete = λ x e h. absurd cc;
  of_bytes = λ x e h. of_bytes e h;
}
exact_check {E} {A} (Err d) of_bytes = record {
  sound = λ x b rest e. absurd cc;
  complete = λ y rest b s. absurd (ok_or_err (Err d) b d s.1 refl);
  refused_sound = λ x e h. ap (failed {A = A}) (err_is d e h);
  refused_complete = λ x e h. ap (failed {A = A × List ℕ}) (err_is d e h);
  of_bytes = λ x e h. of_bytes e h;
}

pub exact_within : {E A : Type 0} {K : E → Type 0} (b : List ℕ) (f : FormatOf E A) → IsExactOf K f → IsExactOf K (within b f)
exact_within {E} {A} b f ef = record {
  sound = λ x a rest e.
      let o = bind_ok (f.parse b) (λ r. Ok (r.0, x)) (a, rest) e in
      let inner = ef.sound b o.0.0 o.0.1 o.1 in
      let same : (o.0.0, x) ≡ (a, rest) = ok_is (o.0.0, x) (a, rest) o.2 in
      ([], ap (λ (p : A × List ℕ). p.1) same, (refl, inner.0, o.0.1, inner.1, subst (λ (c : A). f.spells inner.0 c) (ap (λ (p : A × List ℕ). p.0) same) inner.2));
  complete = λ y rest a s.
      let inner : f.parse b ≡ Ok (a, s.2) = ap f.parse s.3 ∙ ef.complete s.1 s.2 a s.4 in
      rw (s.0, inner) refl;
  refused_sound = λ x e h. elim (bind_err (f.parse b) (λ r. Ok (r.0, x)) e h) [
    | inl l ↦ ef.refused_sound b e l
    | inr o ↦ absurd (ok_or_err (Ok (o.0.0, x)) (o.0.0, x) e refl o.2)
  ];
  refused_complete = λ x e h. rw (ef.refused_complete b e h) refl;
  of_bytes = λ x e h. ef.of_bytes b e h;
}

pub exact_sequence : {E A B : Type 0} {K : E → Type 0} (f : FormatOf E A) (g : A → FormatOf E B) → IsExactOf K f → ((a : A) → IsExactOf K (g a)) → IsExactOf K (sequence f g)
exact_sequence {E} {A} {B} f g ef eg = record {
  sound = λ x b rest e.
      let o = bind_ok (f.parse x) (λ r. (g r.0).parse r.1) (b, rest) e in
      let first = ef.sound x o.0.0 o.0.1 o.1 in
      let second = (eg o.0.0).sound o.0.1 b rest o.2 in
      (first.0 ++ second.0, first.1 ∙ ap (λ (t : List ℕ). first.0 ++ t) second.1 ∙ sym (append_assoc first.0 second.0 rest), (o.0.0, first.0, second.0, refl, first.2, second.2));
  complete = λ x rest b s.
      let regrouped : x ++ rest ≡ s.1 ++ (s.2 ++ rest) = ap (λ (t : List ℕ). t ++ rest) s.3 ∙ append_assoc s.1 s.2 rest in
      rw (regrouped, ef.complete s.1 (s.2 ++ rest) s.0 s.4) ((eg s.0).complete s.2 rest b s.5);
  refused_sound = λ x e h.
      elim (bind_err (f.parse x) (λ r. (g r.0).parse r.1) e h) [
        | inl l ↦ inl (ef.refused_sound x e l)
        | inr o ↦ let first = ef.sound x o.0.0 o.0.1 o.1 in inr (o.0.0, first.0, o.0.1, first.1, first.2, (eg o.0.0).refused_sound o.0.1 e o.2)
      ];
  refused_complete = λ x e h.
      elim h [
        | inl l ↦ rw (ef.refused_complete x e l) refl
        | inr s ↦ rw (s.3, ef.complete s.1 s.2 s.0 s.4) ((eg s.0).refused_complete s.2 e s.5)
      ];
  of_bytes = λ x e h. elim h [ inl l ↦ ef.of_bytes x e l | inr s ↦ (eg s.0).of_bytes s.2 e s.5 ];
}

pub exact_map_value : {E A B : Type 0} {K : E → Type 0} (f : FormatOf E A) (g : A → B) → IsExactOf K f → IsExactOf K (map_value f g)
exact_map_value f g ef = exact_sequence f (λ a. no_bytes (g a)) ef (λ a. exact_no_bytes (g a))

pub exact_choice : {E A : Type 0} {K : E → Type 0} (b : Bool) (f g : FormatOf E A) → IsExactOf K f → IsExactOf K g → IsExactOf K (choice b f g)
exact_choice true f g ef eg = record { sound = ef.sound; complete = ef.complete; refused_sound = ef.refused_sound; refused_complete = ef.refused_complete; of_bytes = ef.of_bytes }
exact_choice false f g ef eg = record { sound = eg.sound; complete = eg.complete; refused_sound = eg.refused_sound; refused_complete = eg.refused_complete; of_bytes = eg.of_bytes }

pub exact_map_fault : {D E A : Type 0} {K : D → Type 0} {L : E → Type 0} (f : FormatOf D A) (g : D → E) → IsExactOf K f → ((d : D) → K d → L (g d)) → IsExactOf L (map_fault f g)
exact_map_fault {D} {E} {A} {K} {L} f g ef of_bytes = record {
  sound = λ x a rest e. ef.sound x a rest (of_ok (f.parse x) (a, rest) e);
  complete = λ y rest a s. ap (fault_map g) (ef.complete y rest a s);
  refused_sound = λ x e h. let o = of_err (f.parse x) e h in (o.0, ef.refused_sound x o.0 o.1, o.2);
  refused_complete = λ x e h. ap (fault_map g) (ef.refused_complete x h.0 h.1) ∙ ap (failed {A = A × List ℕ}) (sym h.2);
  of_bytes = λ x e h. subst L (sym h.2) (of_bytes h.0 (ef.of_bytes x h.0 h.1));
}
  where
    of_ok : (r : Result (A × List ℕ) D) (a : A × List ℕ) → fault_map g r ≡ Ok a → r ≡ Ok a
    of_ok (Ok b) a h = ap (succeeds {E = D}) (ok_is b a h)
    of_ok (Err d) a h = absurd cc

    of_err : (r : Result (A × List ℕ) D) (e : E) → fault_map g r ≡ Err e → (d : D) × (r ≡ Err d) × (e ≡ g d)
    of_err (Ok b) e h = absurd cc
    of_err (Err d) e h = (d, refl, sym (err_is (g d) e h))

-- a value that n bytes spell takes n bytes
pub bytes_width : {A : Type 0} (n : ℕ) (g : List ℕ → A) (x : List ℕ) (a : A) → (map_value (take_bytes n) g).spells x a → length x ≡ n
bytes_width n g x a s = ap length (s.3 ∙ ap (λ (t : List ℕ). s.1 ++ t) s.5.0 ∙ append-nil s.1) ∙ s.4.1

-- the format of the two that spelled a value
pub choice_cases : {E A : Type 0} (b : Bool) (f g : FormatOf E A) (x : List ℕ) (a : A) → (choice b f g).spells x a → ((b ≡ true) × f.spells x a) ⊎ ((b ≡ false) × g.spells x a)
choice_cases true f g x a h = inl (refl, h)
choice_cases false f g x a h = inr (refl, h)

-- bytes begin with at most one spelling of a value, and it spells one value
pub one_spelling : {E A : Type 0} {K : E → Type 0} (f : FormatOf E A) → IsExactOf K f → (x y r s : List ℕ) (a b : A) → f.spells x a → f.spells y b → x ++ r ≡ y ++ s → (x ≡ y) × (a ≡ b)
one_spelling {E} {A} f ef x y r s a b hx hy e =
    let same : succeeds (a, r) ≡ succeeds (b, s) = sym (ef.complete x r a hx) ∙ ap f.parse e ∙ ef.complete y s b hy in
    let rests : (a, r) ≡ (b, s) = ok_is (a, r) (b, s) same in
    let r-is : r ≡ s = ap (λ (p : A × List ℕ). p.1) rests in
    (append_cancel_right x y s (ap (λ (t : List ℕ). x ++ t) (sym r-is) ∙ e), ap (λ (p : A × List ℕ). p.0) rests)

-- where bytes are refused, no prefix of them spells a value, and there is one fault
pub refused_no_spelling : {E A : Type 0} {K : E → Type 0} (f : FormatOf E A) → IsExactOf K f → (x y more : List ℕ) (a : A) (e : E) → f.refuses x e → x ≡ y ++ more → f.spells y a → ⊥
refused_no_spelling f ef x y more a e h front s =
    ok_or_err (f.parse x) (a, more) e (ap f.parse front ∙ ef.complete y more a s) (ef.refused_complete x e h)

pub one_fault : {E A : Type 0} {K : E → Type 0} (f : FormatOf E A) → IsExactOf K f → (x : List ℕ) (d e : E) → f.refuses x d → f.refuses x e → d ≡ e
one_fault f ef x d e hd he = err_is d e (sym (ef.refused_complete x d hd) ∙ ef.refused_complete x e he)

-- ---- formats that take all bytes that are left

-- all bytes that are left
pub exact_all_left : {E : Type 0} {K : E → Type 0} → IsExactToEndOf K all_left
exact_all_left = record {
  sound = λ x a left e.
      let both_are : (x, []) ≡ (a, left) = ok_is (x, []) (a, left) e in
      (sym (ap (λ (p : List ℕ × List ℕ). p.1) both_are), sym (ap (λ (p : List ℕ × List ℕ). p.0) both_are));
  complete = λ x a s. rw s refl;
  refused_sound = λ x e h. absurd cc;
  refused_complete = λ x e h. absurd h;
  of_bytes = λ x e h. absurd h;
}

-- a value that is computed from all bytes that are left
pub exact_map_all_left : {E A : Type 0} {K : E → Type 0} (g : List ℕ → A) → IsExactToEndOf K (map_value all_left g)
exact_map_all_left {E} {A} g = record {
  sound = λ x a left e.
      let both_are : (g x, []) ≡ (a, left) = ok_is (g x, []) (a, left) e in (
        sym (ap (λ (p : A × List ℕ). p.1) both_are),
        (x, x, [], sym (append-nil x), refl, (refl, sym (ap (λ (p : A × List ℕ). p.0) both_are))),
      );
  complete = λ x a s.
      let all_of : x ≡ s.0 = s.3 ∙ ap (λ (t : List ℕ). s.1 ++ t) s.5.0 ∙ append-nil s.1 ∙ sym s.4 in
      rw (all_of, s.5.1) refl;
  refused_sound = λ x e h. absurd cc;
  refused_complete = λ x e h. elim h [ inl l ↦ absurd l | inr s ↦ absurd s.5 ];
  of_bytes = λ x e h. elim h [ inl l ↦ absurd l | inr s ↦ absurd s.5 ];
}

pub to_end_both : {E A B : Type 0} {K : E → Type 0} (f : FormatOf E A) (g : A → FormatOf E B) → IsExactOf K f → ((a : A) → IsExactToEndOf K (g a)) → IsExactToEndOf K (sequence f g)
to_end_both {E} {A} {B} f g ef eg = record {
  sound = λ x b left e.
      let o = bind_ok (f.parse x) (λ r. (g r.0).parse r.1) (b, left) e in
      let first = ef.sound x o.0.0 o.0.1 o.1 in
      let second = (eg o.0.0).sound o.0.1 b left o.2 in
      (second.0, (o.0.0, first.0, o.0.1, first.1, first.2, second.1));
  complete = λ x b s.
      rw (s.3, ef.complete s.1 s.2 s.0 s.4) ((eg s.0).complete s.2 b s.5);
  refused_sound = λ x e h.
      elim (bind_err (f.parse x) (λ r. (g r.0).parse r.1) e h) [
        | inl l ↦ inl (ef.refused_sound x e l)
        | inr o ↦ let first = ef.sound x o.0.0 o.0.1 o.1 in inr (o.0.0, first.0, o.0.1, first.1, first.2, (eg o.0.0).refused_sound o.0.1 e o.2)
      ];
  refused_complete = λ x e h.
      elim h [
        | inl l ↦ rw (ef.refused_complete x e l) refl
        | inr s ↦ rw (s.3, ef.complete s.1 s.2 s.0 s.4) ((eg s.0).refused_complete s.2 e s.5)
      ];
  of_bytes = λ x e h. elim h [ inl l ↦ ef.of_bytes x e l | inr s ↦ (eg s.0).of_bytes s.2 e s.5 ];
}

-- ---- a value that takes all bytes that were read before

pub exact_choice_to_end : {E A : Type 0} {K : E → Type 0} (b : Bool) (f g : FormatOf E A) → IsExactToEndOf K f → IsExactToEndOf K g → IsExactToEndOf K (choice b f g)
exact_choice_to_end true f g ef eg = record { sound = ef.sound; complete = ef.complete; refused_sound = ef.refused_sound; refused_complete = ef.refused_complete; of_bytes = ef.of_bytes }
exact_choice_to_end false f g ef eg = record { sound = eg.sound; complete = eg.complete; refused_sound = eg.refused_sound; refused_complete = eg.refused_complete; of_bytes = eg.of_bytes }

pub exact_all_of : {E A : Type 0} {K : E → Type 0} (b : List ℕ) (f : FormatOf E A) → IsExactToEndOf K f → IsExactOf K (all_of b f)
exact_all_of {E} {A} b f ef = record {
  sound = λ x a rest e.
      let o = bind_ok (f.parse b) (λ r. Ok (r.0, x)) (a, rest) e in
      let inner = ef.sound b o.0.0 o.0.1 o.1 in
      let same : (o.0.0, x) ≡ (a, rest) = ok_is (o.0.0, x) (a, rest) o.2 in
      ([], ap (λ (p : A × List ℕ). p.1) same, (refl, subst (λ (c : A). f.spells b c) (ap (λ (p : A × List ℕ). p.0) same) inner.1));
  complete = λ y rest a s. rw (s.0, ef.complete b a s.1) refl;
  refused_sound = λ x e h. elim (bind_err (f.parse b) (λ r. Ok (r.0, x)) e h) [
    | inl l ↦ ef.refused_sound b e l
    | inr o ↦ absurd (ok_or_err (Ok (o.0.0, x)) (o.0.0, x) e refl o.2)
  ];
  refused_complete = λ x e h. rw (ef.refused_complete b e h) refl;
  of_bytes = λ x e h. ef.of_bytes b e h;
}

pub exact_inside : {A : Type 0} (n : ℕ) (f : Format A) → IsExactToEnd f → IsExact (inside n f)
exact_inside n f ef = exact_sequence (take_bytes n) _ (exact_take_bytes n) (λ b. exact_all_of b f ef)

-- ---- the result of a call that reads a value, by spells and refuses

parses_read : {X Y : Type 0} (to_end : Bool) (view : X → Y) (f : Format Y) → Exact to_end f → (r : Result X Fault) (old new : List ℕ) → ParsesAs view f r old new → ReadsAs to_end view f r old new
parses_read false view f ef (Ok x) old new h = ef.sound old (view x) new h
parses_read true view f ef (Ok x) old new h = let all = ef.sound old (view x) new h in (all.1, all.0)
parses_read false view f ef (Err e) old new h = ef.refused_sound old e h
parses_read true view f ef (Err e) old new h = ef.refused_sound old e h

pub reads_from_parses : {X Y : Type 0} (to_end takes : Bool) (view : X → Y) (f : Format Y) → Exact to_end f → (r : Result X Fault) (old new : List ℕ)
    → OrMemoryIf takes r (ParsesAs view f r old new) → OrMemoryIf takes r (ReadsAs to_end view f r old new)
reads_from_parses to_end false view f ef r old new h = parses_read to_end view f ef r old new h
reads_from_parses to_end true view f ef (Ok x) old new h = parses_read to_end view f ef (Ok x) old new h
reads_from_parses to_end true view f ef (Err e) old new h = λ other. parses_read to_end view f ef (Err e) old new (h other)

-- ---- the same format, with another value

-- what spells a value in the first format spells in the second the value that is made of it, and
-- both refuse the same bytes with the same fault
pub record IsSame {A B : Type 0} (m : A → B) (f : Format A) (g : Format B) : Type 0 where
  pub spells : (x : List ℕ) (a : A) → f.spells x a → g.spells x (m a)
  pub refuses : (x : List ℕ) (e : Fault) → f.refuses x e → g.refuses x e

pub same_sequence : {A B C : Type 0} (m : B → C) (f : Format A) (g : A → Format B) (h : A → Format C) → ((a : A) → IsSame m (g a) (h a)) → IsSame m (sequence f g) (sequence f h)
same_sequence m f g h same = record {
  spells = λ x b s. (s.0, s.1, s.2, s.3, s.4, (same s.0).spells s.2 b s.5);
  refuses = λ x e r. elim r [
    | inl l ↦ inl l
    | inr o ↦ inr (o.0, o.1, o.2, o.3, o.4, (same o.0).refuses o.2 e o.5)
  ];
}

pub same_map_value : {A B C : Type 0} (m : B → C) (f : Format A) (g : A → B) → IsSame m (map_value f g) (map_value f (λ a. m (g a)))
same_map_value m f g = same_sequence m f (λ a. no_bytes (g a)) (λ a. no_bytes (m (g a))) (λ a. record {
  spells = λ x b s. (s.0, ap m s.1);
  refuses = λ x e r. r;
})
