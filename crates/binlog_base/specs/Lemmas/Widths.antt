-- The formats whose width is known before their bytes.
use Rattle.std.proofs.Common.{◌≡◌, ℕ, ◌+◌, ◌<◌, ◌≤◌, Bool, true, false, List, [], ◌++◌, length, take, drop, Result, Ok, Err, refl, sym, ap, subst, ◌∙◌, append_assoc, append-nil, arith}
use Rattle.std.specs.Prelude.{nat_lt, ◌==◌, pos, ◌*ℤ◌}
use Rattle.std.proofs.lemmas.Bool.{le-ltb, lt-ltb, ltb-true, ltb-false}
use Rattle.std.proofs.lemmas.List.{take_at, drop_at, take-append-drop, length-append, length-take-le, length-drop}
use Rattle.byteorder.specs.Endian.{big_number, twos_complement}
use Rattle.binlog_base.specs.declared.fault.Fault.{Fault}
use Rattle.binlog_base.specs.declared.fault.Fault.TheVariants.{UnexpectedEof}
use Rattle.binlog_base.specs.Format.{Format, ◌>>=◌, take_bytes, check, sequence, map_value, choice}
use Rattle.binlog_base.specs.Fixed.{fixed}
use Rattle.binlog_base.specs.Numbers.{big_endian, signed_big_endian}
use Rattle.binlog_base.specs.PackedTimes.{fraction_unit, fraction_width, fraction, with_microseconds, timestamp2, datetime2_sum, datetime2_after, datetime2, time2_of_six, time2_after, time2}
use Rattle.binlog_base.specs.Widths.{IsOfWidth}

-- A format that takes n bytes and refuses none of them: v is their value.
pub record HasValue {A : Type 0} (n : ℕ) (v : List ℕ → A) (f : Format A) : Type 0 where
  pub short : (x : List ℕ) → length x < n → f.parse x ≡ Err UnexpectedEof
  pub value : (x more : List ℕ) → length x ≡ n → f.parse (x ++ more) ≡ Ok (v x, more)

value_bytes : {A : Type 0} (n : ℕ) (v : List ℕ → A) → HasValue n v (map_value (take_bytes n) v)
value_bytes n v = record {
  short = λ x h. rw (lt-ltb (length x) n h) refl;
  value = λ x more h.
      let enough : nat_lt (length (x ++ more)) n ≡ false = le-ltb (length (x ++ more)) n (omega (arith, length-append x more)) in
      rw (enough, take_at x more n h, drop_at x more n h) refl;
}

value_as : {A B : Type 0} (n : ℕ) (v : List ℕ → A) (f : Format A) (g : A → B) → HasValue n v f → HasValue n (λ x. g (v x)) (map_value f g)
value_as n v f g h = record {
  short = λ x l. rw (h.short x l) refl;
  value = λ x more l. rw (h.value x more l) refl;
}

pub value_is_of_width : {A : Type 0} (n : ℕ) (v : List ℕ → A) (f : Format A) → HasValue n v f → IsOfWidth n f
value_is_of_width n v f h = record {
  short = h.short;
  whole = λ x more l.
      let alone : f.parse x ≡ Ok (v x, []) = ap f.parse (sym (append-nil x)) ∙ h.value x [] l in
      rw (h.value x more l, alone) refl;
}

-- what parse gives, with `more` bytes left
abbrev leaves : {A : Type 0} → List ℕ → A × List ℕ → Result (A × List ℕ) Fault
leaves more p = Ok (p.0, more)

abbrev valued : {A B : Type 0} → (A → B) → A × List ℕ → Result (B × List ℕ) Fault
valued g p = Ok (g p.0, p.1)

pub map_value_is_of_width : {A B : Type 0} (n : ℕ) (f : Format A) (g : A → B) → IsOfWidth n f → IsOfWidth n (map_value f g)
map_value_is_of_width {A} {B} n f g h = record {
  short = λ x l. rw (h.short x l) refl;
  whole = λ x more l. rw (h.whole x more l) (same_value (f.parse x) more);
}
  where
    same_value : (r : Result (A × List ℕ) Fault) (more : List ℕ) → ((r >>= leaves more) >>= valued g) ≡ ((r >>= valued g) >>= leaves more)
    same_value (Ok p) more = refl
    same_value (Err e) more = refl

-- a value of m bytes, and then a format of n bytes
pub sequence_is_of_width : {A B : Type 0} (m n : ℕ) (v : List ℕ → A) (f : Format A) (g : A → Format B) → HasValue m v f → ((a : A) → IsOfWidth n (g a)) → IsOfWidth (m + n) (sequence f g)
sequence_is_of_width {A} {B} m n v f g h k = record {
  short = λ x l. short_by (nat_lt (length x) m) x l refl;
  whole = λ x more l.
      let front : length (take m x) ≡ m = length-take-le m x (omega arith) in
      let back : length (drop m x) ≡ n = omega (arith, length-drop m x) in
      let split : x ≡ take m x ++ drop m x = sym (take-append-drop m x) in
      let far : f.parse (x ++ more) ≡ Ok (v (take m x), drop m x ++ more) = ap f.parse (ap (λ (y : List ℕ). y ++ more) split ∙ append_assoc (take m x) (drop m x) more) ∙ h.value (take m x) (drop m x ++ more) front in
      let near : f.parse x ≡ Ok (v (take m x), drop m x) = ap f.parse split ∙ h.value (take m x) (drop m x) front in
      rw (far, near) ((k (v (take m x))).whole (drop m x) more back);
}
  where
    short_by : (b : Bool) (x : List ℕ) → length x < m + n → nat_lt (length x) m ≡ b → (sequence f g).parse x ≡ Err UnexpectedEof
    short_by true x l is = rw (h.short x (ltb-true (length x) m is)) refl
    short_by false x l is =
        let enough : m ≤ length x = ltb-false (length x) m is in
        let near : f.parse x ≡ Ok (v (take m x), drop m x) = ap f.parse (sym (take-append-drop m x)) ∙ h.value (take m x) (drop m x) (length-take-le m x enough) in
        rw near ((k (v (take m x))).short (drop m x) (omega (arith, length-drop m x)))

-- a value of n bytes, and then a check of it
pub check_is_of_width : {A B : Type 0} (n : ℕ) (v : List ℕ → A) (f : Format A) (r : A → Result B Fault) → HasValue n v f → IsOfWidth n (sequence f (λ a. check (r a)))
check_is_of_width {A} {B} n v f r h = record {
  short = λ x l. rw (h.short x l) refl;
  whole = λ x more l.
      let alone : f.parse x ≡ Ok (v x, []) = ap f.parse (sym (append-nil x)) ∙ h.value x [] l in
      rw (h.value x more l, alone) (same_demand (r (v x)) more);
}
  where
    same_demand : (d : Result B Fault) (more : List ℕ) → (check d).parse more ≡ ((check d).parse [] >>= λ p. Ok (p.0, more))
    same_demand (Ok b) more = refl
    same_demand (Err e) more = refl

-- the one format or the other, where the format that is chosen takes n bytes
pub choice_is_of_width : {A : Type 0} (n : ℕ) (b : Bool) (f g : Format A) → (b ≡ true → IsOfWidth n f) → (b ≡ false → IsOfWidth n g) → IsOfWidth n (choice b f g)
choice_is_of_width n true f g h k = let w = h refl in record { short = w.short; whole = w.whole }
choice_is_of_width n false f g h k = let w = k refl in record { short = w.short; whole = w.whole }

-- ---- numbers

value_big : (w : ℕ) → HasValue w (big_number w) (big_endian w)
unfolding fixed
value_big w = value_bytes w (big_number w)

value_signed_big : (w : ℕ) → HasValue w (λ x. twos_complement w (big_number w x)) (signed_big_endian w)
unfolding fixed
value_signed_big w = value_bytes w (λ x. twos_complement w (big_number w x))

pub big_of_width : (w : ℕ) → IsOfWidth w (big_endian w)
big_of_width w = value_is_of_width w (big_number w) (big_endian w) (value_big w)

-- ---- packed times

value_fraction : (w : ℕ) → HasValue w (λ x. twos_complement w (big_number w x) *ℤ pos (fraction_unit w)) (fraction w)
unfolding fraction
value_fraction w = value_as w _ (signed_big_endian w) _ (value_signed_big w)

pub timestamp2_of_width : (decimals : ℕ) → IsOfWidth (4 + fraction_width decimals) (timestamp2 decimals)
unfolding timestamp2
timestamp2_of_width decimals =
    let w = fraction_width decimals in
    sequence_is_of_width 4 w _ (signed_big_endian 4) (with_microseconds w) (value_signed_big 4) (λ seconds.
    value_is_of_width w _ (with_microseconds w seconds) (value_as w _ (fraction w) _ (value_fraction w)))

pub datetime2_of_width : (decimals : ℕ) → IsOfWidth (5 + fraction_width decimals) (datetime2 decimals)
unfolding datetime2
datetime2_of_width decimals =
    let w = fraction_width decimals in
    sequence_is_of_width 5 w _ (big_endian 5) (datetime2_after w) (value_big 5) (λ whole.
    check_is_of_width w _ (fraction w) (datetime2_sum whole) (value_fraction w))

is_three : (w : ℕ) → (w == 3) ≡ true → 6 ≡ 3 + w
is_three w h = grind arith

pub time2_of_width : (decimals : ℕ) → IsOfWidth (3 + fraction_width decimals) (time2 decimals)
unfolding time2
time2_of_width decimals =
    let w = fraction_width decimals in
    choice_is_of_width (3 + w) (w == 3) time2_of_six (sequence (big_endian 3) (time2_after w))
    (λ six. subst (λ (n : ℕ). IsOfWidth n time2_of_six) (is_three w six) (value_is_of_width 6 _ time2_of_six (value_as 6 _ (big_endian 6) _ (value_big 6))))
    (λ other. sequence_is_of_width 3 w _ (big_endian 3) (time2_after w) (value_big 3) (λ whole.
    value_is_of_width w _ (time2_after w whole) (value_as w _ (big_endian w) _ (value_big w))))
