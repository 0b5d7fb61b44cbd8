-- Reading packed decimals is exact: the bytes alone decide what is read or which fault comes.
use Rattle.std.proofs.Common.{◌≡◌, ◌⊎◌, ℕ, zero, suc, ◌+◌, ◌-◌, ◌<◌, Bool, true, false, cond, List, [], ◌++◌, length, take, drop, Result, Ok, Err, refl, sym, ap, subst, ◌∙◌, append-nil, arith, inl, inr}
use Rattle.std.specs.Prelude.{nat_eq, nat_lt, ◌==◌, slice_index}
use Rattle.std.specs.Int.Digits.{AllBelowBase}
use Rattle.std.specs.Cmp.Lexicographic.{pointwise}
use Rattle.std.proofs.lemmas.Slice.Eq.{slice_eq-Decides}
use Rattle.std.proofs.lemmas.Bool.Decides.{Decides-eqb}
use Rattle.std.proofs.Math.Dec.{eqb-suc-zero}
use Rattle.std.proofs.lemmas.Bool.{ltb-false, le-ltb, ltb-true, lt-ltb}
use Rattle.std.proofs.lemmas.List.{take_at, drop_at, take-append-drop, length-append, length-take-le, length-drop}
use Rattle.binlog_base.specs.declared.fault.Fault.{Fault}
use Rattle.binlog_base.specs.declared.fault.Fault.TheVariants.{UnexpectedEof, DecimalScale, DecimalGroup}
use Rattle.binlog_base.specs.Faults.{IsOfBytes}
use Rattle.binlog_base.specs.Format.{Format, IsExact, ◌>>=◌, no_bytes, refusal, choice}
use Rattle.binlog_base.specs.Lemmas.Format.{exact_no_bytes, exact_refusal, exact_map_value, exact_sequence, bind_ok, bind_err, ok_is}
use Rattle.binlog_base.specs.Numbers.{big_endian}
use Rattle.binlog_base.specs.Lemmas.Numbers.{exact_big_endian}
use Rattle.binlog_decimal.specs.Decimals.{DecimalView, IsDecimal, IsPacked, packed_bytes, grouped_bytes, packed_size, zero_decimal, kept_decimal, integer_groups, fraction_groups, inverted_bytes}
use Rattle.binlog_decimal.specs.DecimalGroups.{ungrouped_digits, digits_in, bytes_in}
use Rattle.binlog_decimal.specs.Lemmas.DecimalGroups.{length-ungrouped_digits, below-ungrouped_digits, ungrouped_digits-grouped_bytes, below-append, below-front, below-back, digits_in-append, bytes_in-append, digits_in-integer, digits_in-fraction, bytes_in-integer, bytes_in-fraction, integer_groups-small, fraction_groups-small, length-grouped_bytes, grouped_bytes-append, low-grouped_bytes, below-grouped_bytes}
use Rattle.binlog_decimal.specs.DecimalMasks.{is_minus, unmasked_bytes}
use Rattle.binlog_decimal.specs.Lemmas.DecimalMasks.{length-inverted_bytes, length-flipped_bytes, sign_back, unmasked_bytes-masked_bytes}
use Rattle.binlog_decimal.specs.PackedDecimals.{candidate_decimal, decimal_in_bytes, packed_digits, packed_decimal, counted_decimal}

abbrev pub groups_of : ℕ → ℕ → List ℕ
groups_of integer fraction = integer_groups integer ++ fraction_groups fraction

pub groups_of-small : (integer fraction : ℕ) → AllBelowBase 10 (groups_of integer fraction)
groups_of-small integer fraction = below-append 10 (integer_groups integer) (fraction_groups fraction) (integer_groups-small integer) (fraction_groups-small fraction)

pub digits_in-groups_of : (integer fraction : ℕ) → digits_in (groups_of integer fraction) ≡ integer + fraction
digits_in-groups_of integer fraction = omega (arith, digits_in-append (integer_groups integer) (fraction_groups fraction), digits_in-integer integer, digits_in-fraction fraction)

pub bytes_in-groups_of : (integer fraction : ℕ) → bytes_in (groups_of integer fraction) ≡ packed_size integer fraction
bytes_in-groups_of integer fraction = omega (arith, bytes_in-append (integer_groups integer) (fraction_groups fraction), bytes_in-integer integer, bytes_in-fraction fraction)

-- the bytes of all digits, without the sign encoding
abbrev pub plain : DecimalView → List ℕ
plain d = grouped_bytes (integer_groups (length d.integer)) d.integer ++ grouped_bytes (fraction_groups (length d.fraction)) d.fraction

pub plain-is : (d : DecimalView) → plain d ≡ grouped_bytes (groups_of (length d.integer) (length d.fraction)) (d.integer ++ d.fraction)
plain-is d = sym (grouped_bytes-append (integer_groups (length d.integer)) (fraction_groups (length d.fraction)) d.integer d.fraction (sym (digits_in-integer (length d.integer))))

digits_of_both : (d : DecimalView) → length (d.integer ++ d.fraction) ≡ digits_in (groups_of (length d.integer) (length d.fraction))
digits_of_both d = length-append d.integer d.fraction ∙ sym (digits_in-groups_of (length d.integer) (length d.fraction))

pub length-plain : (d : DecimalView) → length (plain d) ≡ packed_size (length d.integer) (length d.fraction)
length-plain d =
    ap length (plain-is d) ∙ length-grouped_bytes (groups_of (length d.integer) (length d.fraction)) (d.integer ++ d.fraction) (digits_of_both d)
    ∙ bytes_in-groups_of (length d.integer) (length d.fraction)

pub length-packed_bytes : (d : DecimalView) → length (packed_bytes d) ≡ packed_size (length d.integer) (length d.fraction)
unfolding packed_bytes
length-packed_bytes d = length-flipped_bytes (inverted_bytes d.negative (plain d)) ∙ length-inverted_bytes d.negative (plain d) ∙ length-plain d

-- a decimal with a digit takes at least one byte
pub packed_size-some : (integer fraction : ℕ) → 0 < integer + fraction → 0 < packed_size integer fraction
packed_size-some integer fraction some = omega arith

pub below-plain : (d : DecimalView) → AllBelowBase 256 (plain d)
below-plain d = subst (AllBelowBase 256) (sym (plain-is d)) (below-grouped_bytes (groups_of (length d.integer) (length d.fraction)) (d.integer ++ d.fraction))

pub low-plain : (d : DecimalView) → IsDecimal d → slice_index (plain d) 0 < 128
low-plain d is =
    subst (λ (x : List ℕ). slice_index x 0 < 128) (sym (plain-is d))
    (low-grouped_bytes (groups_of (length d.integer) (length d.fraction)) (d.integer ++ d.fraction) (groups_of-small (length d.integer) (length d.fraction)) (below-append 10 d.integer d.fraction is.0 is.1) (digits_of_both d))

pub some-plain : (d : DecimalView) → IsDecimal d → 0 < length (plain d)
some-plain d is = omega (arith, length-plain d, packed_size-some (length d.integer) (length d.fraction) is.2)

pub sign_of-packed_bytes : (d : DecimalView) → IsDecimal d → is_minus (packed_bytes d) ≡ d.negative
unfolding packed_bytes
sign_of-packed_bytes d is = sign_back d.negative (plain d) (some-plain d is) (low-plain d is)

pub unmasked_bytes-packed_bytes : (d : DecimalView) → IsDecimal d → unmasked_bytes (packed_bytes d) ≡ plain d
unfolding packed_bytes
unmasked_bytes-packed_bytes d is = unmasked_bytes-masked_bytes d.negative (plain d) (below-plain d) (some-plain d is) (low-plain d is)

-- the digits of a packed decimal are read back from its bytes
pub digits-packed_bytes : (d : DecimalView) → IsDecimal d → ungrouped_digits (groups_of (length d.integer) (length d.fraction)) (unmasked_bytes (packed_bytes d)) ≡ d.integer ++ d.fraction
digits-packed_bytes d is =
    let groups = groups_of (length d.integer) (length d.fraction) in
    let digits = d.integer ++ d.fraction in
    ap (ungrouped_digits groups) (unmasked_bytes-packed_bytes d is ∙ plain-is d ∙ sym (append-nil (grouped_bytes groups digits)))
    ∙ ungrouped_digits-grouped_bytes groups digits [] (groups_of-small (length d.integer) (length d.fraction)) (below-append 10 d.integer d.fraction is.0 is.1) (digits_of_both d)

abbrev pub view_of : Bool → List ℕ → List ℕ → DecimalView
view_of negative integer fraction = record { negative = negative; integer = integer; fraction = fraction }

pub same_view : (a b : DecimalView) → a.negative ≡ b.negative → a.integer ≡ b.integer → a.fraction ≡ b.fraction → a ≡ b
same_view a b n i f =
    ap (λ (x : Bool). view_of x a.integer a.fraction) n ∙ ap (λ (x : List ℕ). view_of b.negative x a.fraction) i ∙ ap (λ (x : List ℕ). view_of b.negative b.integer x) f

pub decimal_in_bytes-packed_bytes : (d : DecimalView) → IsDecimal d → candidate_decimal (length d.integer) (length d.fraction) (packed_bytes d) ≡ d
unfolding candidate_decimal
decimal_in_bytes-packed_bytes d is =
    let i = length d.integer in
    let f = length d.fraction in
    let digits = digits-packed_bytes d is in
    same_view (candidate_decimal i f (packed_bytes d)) d (sign_of-packed_bytes d is)
    (ap (take i) digits ∙ take_at d.integer d.fraction i refl)
    (ap (drop i) digits ∙ drop_at d.integer d.fraction i refl)

-- ---- what bytes hold

counts-decimal_in_bytes : (i f : ℕ) (x : List ℕ) → (length (candidate_decimal i f x).integer ≡ i) × (length (candidate_decimal i f x).fraction ≡ f)
unfolding candidate_decimal
counts-decimal_in_bytes i f x =
    let all = ungrouped_digits (groups_of i f) (unmasked_bytes x) in
    let long : length all ≡ i + f = length-ungrouped_digits (groups_of i f) (unmasked_bytes x) ∙ digits_in-groups_of i f in
    (length-take-le i all (omega arith), omega (arith, length-drop i all))

digits-decimal_in_bytes : (i f : ℕ) (x : List ℕ) → 0 < i + f → IsDecimal (candidate_decimal i f x)
unfolding candidate_decimal
digits-decimal_in_bytes i f x some =
    let all = ungrouped_digits (groups_of i f) (unmasked_bytes x) in
    let both : take i all ++ drop i all ≡ all = take-append-drop i all in
    let below : AllBelowBase 10 (take i all ++ drop i all) = subst (AllBelowBase 10) (sym both) (below-ungrouped_digits (groups_of i f) (unmasked_bytes x)) in
    (below-front 10 (take i all) (drop i all) below, below-back 10 (take i all) (drop i all) below, omega (arith, (counts-decimal_in_bytes i f x).0, (counts-decimal_in_bytes i f x).1))

-- a decimal that is packed in the bytes is the only one that they can hold
decimal_in_bytes-is : (i f : ℕ) (x : List ℕ) (d : DecimalView) → IsPacked i f x d → candidate_decimal i f x ≡ d
decimal_in_bytes-is i f x d h =
    ap (λ (n : ℕ). candidate_decimal n f x) (sym h.before) ∙ ap (λ (n : ℕ). candidate_decimal (length d.integer) n x) (sym h.after)
    ∙ ap (candidate_decimal (length d.integer) (length d.fraction)) (sym h.written) ∙ decimal_in_bytes-packed_bytes d h.digits

same_bytes : (xs ys : List ℕ) → (pointwise nat_eq xs ys ≡ true → xs ≡ ys) × (xs ≡ ys → pointwise nat_eq xs ys ≡ true)
same_bytes xs ys = slice_eq-Decides Decides-eqb xs ys (pointwise nat_eq xs ys) refl

chosen : (b : Bool) (v d : DecimalView) → cond b (Ok v) (Err DecimalGroup) ≡ Ok d → (b ≡ true) × (v ≡ d)
chosen true v d e = (refl, cc)
chosen false v d e = absurd cc

refused : (b : Bool) (v : DecimalView) (e : Fault) → cond b (Ok v) (Err DecimalGroup) ≡ Err e → (b ≡ false) × (e ≡ DecimalGroup)
refused true v e h = absurd cc
refused false v e h = (refl, cc)

true_or_false : (b : Bool) → b ≡ true → b ≡ false → ⊥
true_or_false b p q = cc

decimal_in_bytes-ok : (i f : ℕ) (x : List ℕ) (d : DecimalView) → 0 < i + f → decimal_in_bytes i f x ≡ Ok d → IsPacked i f x d
unfolding decimal_in_bytes
decimal_in_bytes-ok i f x d some e =
    let v = candidate_decimal i f x in
    let g = chosen (pointwise nat_eq (packed_bytes v) x) v d e in
    let counts = counts-decimal_in_bytes i f x in
    subst (λ (w : DecimalView). IsPacked i f x w) g.1 (record { digits = digits-decimal_in_bytes i f x some; before = counts.0; after = counts.1; written = (same_bytes (packed_bytes v) x).0 g.0 })

decimal_in_bytes-of : (i f : ℕ) (x : List ℕ) (d : DecimalView) → IsPacked i f x d → decimal_in_bytes i f x ≡ Ok d
unfolding decimal_in_bytes
decimal_in_bytes-of i f x d h =
    let is = decimal_in_bytes-is i f x d h in
    let written : packed_bytes (candidate_decimal i f x) ≡ x = ap packed_bytes is ∙ h.written in
    rw ((same_bytes (packed_bytes (candidate_decimal i f x)) x).1 written, is) refl

decimal_in_bytes-err : (i f : ℕ) (x : List ℕ) (e : Fault) → decimal_in_bytes i f x ≡ Err e → ((d : DecimalView) → IsPacked i f x d → ⊥) × (e ≡ DecimalGroup)
unfolding decimal_in_bytes
decimal_in_bytes-err i f x e h =
    let v = candidate_decimal i f x in
    let g = refused (pointwise nat_eq (packed_bytes v) x) v e h in
    (λ d p. true_or_false (pointwise nat_eq (packed_bytes v) x) ((same_bytes (packed_bytes v) x).1 (ap packed_bytes (decimal_in_bytes-is i f x d p) ∙ p.written)) g.0, g.1)

decimal_in_bytes-none : (i f : ℕ) (x : List ℕ) → 0 < i + f → ((d : DecimalView) → IsPacked i f x d → ⊥) → decimal_in_bytes i f x ≡ Err DecimalGroup
decimal_in_bytes-none i f x some none = none_of (decimal_in_bytes i f x) refl
  where
    none_of : (r : Result DecimalView Fault) → decimal_in_bytes i f x ≡ r → decimal_in_bytes i f x ≡ Err DecimalGroup
    none_of (Ok d) e = absurd (none d (decimal_in_bytes-ok i f x d some e))
    none_of (Err c) e = e ∙ ap (λ (c : Fault). Err c) (decimal_in_bytes-err i f x c e).1

-- ---- the formats

guarded_ok : {A : Type 0} (b : Bool) (c : Fault) (r : Result A Fault) (y : A) → cond b (Err c) r ≡ Ok y → (b ≡ false) × (r ≡ Ok y)
guarded_ok true c r y e = absurd cc
guarded_ok false c r y e = (refl, e)

guarded_err : {A : Type 0} (b : Bool) (c e : Fault) (r : Result A Fault) → cond b (Err c) r ≡ Err e → ((b ≡ true) × (e ≡ c)) ⊎ ((b ≡ false) × (r ≡ Err e))
guarded_err true c e r h = inl (refl, cc)
guarded_err false c e r h = inr (refl, h)

pub length-IsPacked : (i f : ℕ) (x : List ℕ) (d : DecimalView) → IsPacked i f x d → length x ≡ packed_size i f
length-IsPacked i f x d h =
    ap length (sym h.written) ∙ length-packed_bytes d ∙ ap (λ (n : ℕ). packed_size n (length d.fraction)) h.before ∙ ap (packed_size i) h.after

abbrev paired : List ℕ → DecimalView → Result (DecimalView × List ℕ) Fault
paired left d = Ok (d, left)

pub exact_packed_digits : (i f : ℕ) → 0 < i + f → IsExact (packed_digits i f)
unfolding packed_digits
exact_packed_digits i f some = record {
  sound = λ x d left e.
      let n = packed_size i f in
      let g = guarded_ok (nat_lt (length x) n) UnexpectedEof (decimal_in_bytes i f (take n x) >>= paired (drop n x)) (d, left) e in
      let o = bind_ok (decimal_in_bytes i f (take n x)) (paired (drop n x)) (d, left) g.1 in
      let same : (o.0, drop n x) ≡ (d, left) = ok_is (o.0, drop n x) (d, left) o.2 in
      let value : o.0 ≡ d = ap (λ (p : DecimalView × List ℕ). p.0) same in
      let rest : drop n x ≡ left = ap (λ (p : DecimalView × List ℕ). p.1) same in
      (take n x, sym (take-append-drop n x) ∙ ap (λ (l : List ℕ). take n x ++ l) rest, subst (λ (v : DecimalView). IsPacked i f (take n x) v) value (decimal_in_bytes-ok i f (take n x) o.0 some o.1));
  complete = λ y left d s.
      let n = packed_size i f in
      let long : length y ≡ n = length-IsPacked i f y d s in
      let enough : nat_lt (length (y ++ left)) n ≡ false = le-ltb (length (y ++ left)) n (omega (arith, length-append y left)) in
      rw (enough, take_at y left n long, decimal_in_bytes-of i f y d s, drop_at y left n long) refl;
  refused_sound = λ x e h.
      let n = packed_size i f in
      elim (guarded_err (nat_lt (length x) n) UnexpectedEof e (decimal_in_bytes i f (take n x) >>= paired (drop n x)) h) [
        | inl l ↦ inl (ltb-true (length x) n l.0, l.1)
        | inr r ↦ elim (bind_err (decimal_in_bytes i f (take n x)) (paired (drop n x)) e r.1) [
          | inl l ↦ let c = decimal_in_bytes-err i f (take n x) e l in inr (ltb-false (length x) n r.0, c.0, c.1)
          | inr o ↦ absurd cc
        ]
      ];
  refused_complete = λ x e h.
      let n = packed_size i f in
      elim h [
        | inl l ↦ rw (lt-ltb (length x) n l.0, l.1) refl
        | inr r ↦ rw (le-ltb (length x) n r.0, decimal_in_bytes-none i f (take n x) some r.1, r.2) refl
      ];
  of_bytes = λ x e h. elim h [ inl l ↦ subst IsOfBytes (sym l.1) refl | inr r ↦ subst IsOfBytes (sym r.2) refl ];
}

-- a choice between two formats is exact if the chosen one is
exact_chosen : {A : Type 0} (b : Bool) (f g : Format A) → (b ≡ true → IsExact f) → (b ≡ false → IsExact g) → IsExact (choice b f g)
exact_chosen true f g ef eg = let e = ef refl in record { sound = e.sound; complete = e.complete; refused_sound = e.refused_sound; refused_complete = e.refused_complete; of_bytes = e.of_bytes }
exact_chosen false f g ef eg = let e = eg refl in record { sound = e.sound; complete = e.complete; refused_sound = e.refused_sound; refused_complete = e.refused_complete; of_bytes = e.of_bytes }

pub some_asked : (precision scale : ℕ) → nat_lt precision scale ≡ false → (precision == 0) ≡ false → 0 < (precision - scale) + scale
some_asked zero scale within some = absurd cc
some_asked (suc precision) scale within some = omega (arith, ltb-false (suc precision) scale within)

pub exact_packed_decimal : (precision scale : ℕ) (keep : Bool) → IsExact (packed_decimal precision scale keep)
unfolding packed_decimal
exact_packed_decimal precision scale keep =
    exact_chosen (nat_lt precision scale) (refusal DecimalScale) _ (λ beyond. exact_refusal DecimalScale refl) (λ within.
    exact_chosen (precision == 0) (no_bytes zero_decimal) _ (λ none. exact_no_bytes zero_decimal) (λ some.
    exact_map_value (packed_digits (precision - scale) scale) (kept_decimal keep) (exact_packed_digits (precision - scale) scale (some_asked precision scale within some))))

pub exact_counted_decimal : (keep : Bool) → IsExact (counted_decimal keep)
unfolding counted_decimal
exact_counted_decimal keep = exact_sequence (big_endian 1) _ (exact_big_endian 1) (λ precision. exact_sequence (big_endian 1) _ (exact_big_endian 1) (λ scale. exact_packed_decimal precision scale keep))

pub some_sum : (n : ℕ) → 0 < n → (n == 0) ≡ false
some_sum zero h = absurd (omega arith)
some_sum (suc n) h = eqb-suc-zero n

-- the packed form of a decimal is that decimal in the packed DECIMAL format
pub packed_spells : (d : DecimalView) → IsDecimal d → (packed_decimal (length d.integer + length d.fraction) (length d.fraction) true).spells (packed_bytes d) d
unfolding packed_decimal packed_digits
packed_spells d is =
    let i = length d.integer in
    let f = length d.fraction in
    let enough : nat_lt (i + f) f ≡ false = le-ltb (i + f) f (omega arith) in
    let some : (i + f == 0) ≡ false = some_sum (i + f) is.2 in
    let counts : (i + f) - f ≡ i = omega arith in
    let whole : IsPacked i f (packed_bytes d) d = record { digits = is; before = refl; after = refl; written = refl } in
    rw (enough, some, counts) (d, packed_bytes d, [], sym (append-nil (packed_bytes d)), whole, (refl, refl))

-- the packed form of a decimal is read back as that decimal, whatever bytes follow it
pub packed_again : (d : DecimalView) → IsDecimal d → (left : List ℕ) → (packed_decimal (length d.integer + length d.fraction) (length d.fraction) true).parse (packed_bytes d ++ left) ≡ Ok (d, left)
packed_again d is left =
    let i = length d.integer in
    let f = length d.fraction in
    (exact_packed_decimal (i + f) f true).complete (packed_bytes d) left d (packed_spells d is)
