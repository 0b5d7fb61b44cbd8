-- Reading packed decimals from a source.
use Rattle.std.proofs.Common.{◌≡◌, ◌≢◌, ℕ, ◌-◌, ◌<◌, ◌≤◌, Bool, true, false, List, [], ◌++◌, length, Option, Some, None, Result, Ok, Err, refl, sym, ap, ap₂, subst, ◌∙◌, append-nil, arith}
use Rattle.std.specs.Prelude.{nat_lt, ◌==◌}
use Rattle.std.specs.Io.KnownBytes.{Consumes}
use Rattle.std.proofs.lemmas.Bool.{le-ltb, lt-ltb, ltb-true}
use Rattle.std.proofs.lemmas.List.{length-append, take_at, drop_at}
use Rattle.binlog_base.specs.declared.fault.Fault.{Fault}
use Rattle.binlog_base.specs.declared.fault.Fault.TheVariants as fault
use Rattle.binlog_base.specs.declared.fault.Fault.TheVariants.{DecimalScale}
use Rattle.binlog_base.specs.Format.{Format, Parses, ParsesAs, OrMemory, ◌>>=◌, no_bytes, refusal, sequence, map_value}
use Rattle.binlog_base.specs.Numbers.{big_endian}
use Rattle.binlog_base.specs.Widths.{IsOfWidth}
use Rattle.binlog_base.specs.Lemmas.Widths.{map_value_is_of_width, choice_is_of_width}
use Rattle.binlog_base.specs.Failures.{CountsFailure, IsShort, count_after}
use Rattle.binlog_base.specs.Sources.{TakesSpelling, IsLeft, ReadsFrom, ReadsFromOrMemory}
use Rattle.binlog_base.proofs.Known.{answers}
use Rattle.binlog_base.proofs.Filled.{short_answers, filled_answers}
use Rattle.binlog_base.proofs.Sequences.{Consumes-nil, takes_first, takes_then}
use Rattle.binlog_decimal.specs.Decimals.{DecimalView, packed_size, zero_decimal, kept_decimal}
use Rattle.binlog_decimal.specs.DecimalText.{decimal_text}
use Rattle.binlog_decimal.specs.LentDecimals.{read_or_zero, digits_of, decimal_of, IsAllOf}
use Rattle.binlog_decimal.specs.PackedDecimals.{decimal_in_bytes, packed_digits, packed_decimal, counted_decimal}
use Rattle.binlog_decimal.specs.Lemmas.PackedDecimals.{some_sum, exact_packed_decimal, exact_counted_decimal}

abbrev paired : List ℕ → DecimalView → Result (DecimalView × List ℕ) Fault
paired more d = Ok (d, more)

abbrev leaves : List ℕ → DecimalView × List ℕ → Result (DecimalView × List ℕ) Fault
leaves more p = Ok (p.0, more)

digits_of_width : (i f : ℕ) → IsOfWidth (packed_size i f) (packed_digits i f)
unfolding packed_digits
digits_of_width i f = record {
  short = λ x l. rw (lt-ltb (length x) (packed_size i f) l) refl;
  whole = λ x more l. far x more l ∙ same_held (decimal_in_bytes i f x) more ∙ sym (ap (λ (r : Result (DecimalView × List ℕ) Fault). r >>= leaves more) (ap (packed_digits i f).parse (sym (append-nil x)) ∙ far x [] l));
}
  where
    far : (x more : List ℕ) → length x ≡ packed_size i f → (packed_digits i f).parse (x ++ more) ≡ (decimal_in_bytes i f x >>= paired more)
    far x more l =
        let enough : nat_lt (length (x ++ more)) (packed_size i f) ≡ false = le-ltb (length (x ++ more)) (packed_size i f) (omega (arith, length-append x more)) in
        rw (enough, take_at x more (packed_size i f) l, drop_at x more (packed_size i f) l) refl

    same_held : (r : Result DecimalView Fault) (more : List ℕ) → (r >>= paired more) ≡ ((r >>= paired []) >>= leaves more)
    same_held (Ok d) more = refl
    same_held (Err e) more = refl

decimal_of_width : (precision scale : ℕ) (keep : Bool) → scale ≤ precision → 0 < precision → IsOfWidth (packed_size (precision - scale) scale) (packed_decimal precision scale keep)
unfolding packed_decimal
decimal_of_width precision scale keep within some =
    let n = packed_size (precision - scale) scale in
    choice_is_of_width n (nat_lt precision scale) (refusal DecimalScale) _ (λ above. absurd (omega (arith, ltb-true precision scale above))) (λ below.
    choice_is_of_width n (precision == 0) (no_bytes zero_decimal) _ (λ none. absurd (true_or_false none (some_sum precision some))) (λ asked.
    map_value_is_of_width n (packed_digits (precision - scale) scale) (kept_decimal keep) (digits_of_width (precision - scale) scale)))
  where
    true_or_false : {b : Bool} → b ≡ true → b ≡ false → ⊥
    true_or_false p q = cc

-- the source has too few bytes
pub decimal_short : (precision scale : ℕ) (keep : Bool) (e : Fault) (n : ℕ) (old new : Option (List ℕ)) (failures failures_after : ℕ) → scale ≤ precision → 0 < precision → n ≡ packed_size (precision - scale) scale
    → (e ≢ fault.Reader → (e ≡ fault.UnexpectedEof) × IsShort old n) → CountsFailure {X = DecimalView} (Err e) failures failures_after
    → ReadsFromOrMemory (packed_decimal precision scale keep) (Err e) old new failures failures_after
decimal_short precision scale keep e n old new m k within some is h counts =
    short_answers true n (packed_decimal precision scale keep) (exact_packed_decimal precision scale keep) (subst (λ (m : ℕ). IsOfWidth m (packed_decimal precision scale keep)) (sym is) (decimal_of_width precision scale keep within some)) e old new m k h counts

-- all bytes of the decimal were read, and there was room for exactly its digits
pub decimal_filled : (precision scale room : ℕ) (keep : Bool) (r : Result DecimalView Fault) (old new : Option (List ℕ)) (failures failures_after : ℕ) (taken : List ℕ) → scale ≤ precision → 0 < precision → room ≡ precision → length taken ≡ packed_size (precision - scale) scale
    → Consumes old new taken → failures_after ≡ failures → OrMemory r (Parses (packed_decimal room scale keep) r taken [])
    → ReadsFromOrMemory (packed_decimal precision scale keep) r old new failures failures_after
decimal_filled precision scale room keep r old new m k taken within some exact long c is h =
    filled_answers true _ (packed_decimal precision scale keep) (exact_packed_decimal precision scale keep) (decimal_of_width precision scale keep within some) r old new m k taken [] long c is
    (subst (λ (n : ℕ). OrMemory r (Parses (packed_decimal n scale keep) r taken [])) exact h)

some_bytes : (old : Option (List ℕ)) → (bytes : List ℕ) × IsLeft old bytes
some_bytes None = ([], tt)
some_bytes (Some x) = (x, refl)

scale_above : (precision scale : ℕ) (keep : Bool) (old new : Option (List ℕ)) → precision < scale → TakesSpelling (packed_decimal precision scale keep) (Err fault.DecimalScale) old new
unfolding packed_decimal
scale_above precision scale keep old new above = λ other. let left = some_bytes old in rw (lt-ltb precision scale above) (left.0, refl, left.1)

-- the scale is above the precision
pub decimal_refused : (precision scale : ℕ) (keep : Bool) (old : Option (List ℕ)) (failures : ℕ) → precision < scale → ReadsFromOrMemory (packed_decimal precision scale keep) (Err fault.DecimalScale) old old failures failures
decimal_refused precision scale keep old n above =
    answers true (packed_decimal precision scale keep) (exact_packed_decimal precision scale keep) (Err fault.DecimalScale) old old n n (λ other. scale_above precision scale keep old old above) refl

no_digit : (precision scale : ℕ) (keep : Bool) (d : DecimalView) (old : Option (List ℕ)) → scale ≤ precision → precision ≡ 0 → d ≡ zero_decimal → TakesSpelling (packed_decimal precision scale keep) (Ok d) old old
unfolding packed_decimal
no_digit precision scale keep d old within none is =
    let all : (precision == 0) ≡ true = ap (λ (n : ℕ). n == 0) none in
    rw (le-ltb precision scale within, all) ([], (refl, is), Consumes-nil old)

-- the precision is 0
pub decimal_empty : (precision scale : ℕ) (keep : Bool) (d : DecimalView) (old : Option (List ℕ)) (failures : ℕ) → scale ≤ precision → precision ≡ 0 → d ≡ zero_decimal → ReadsFromOrMemory (packed_decimal precision scale keep) (Ok d) old old failures failures
decimal_empty precision scale keep d old n within none is =
    answers true (packed_decimal precision scale keep) (exact_packed_decimal precision scale keep) (Ok d) old old n n (no_digit precision scale keep d old within none is) refl

-- ---- after a precision and a scale

abbrev after_precision : Bool → ℕ → Format DecimalView
after_precision keep precision = sequence (big_endian 1) (λ scale. packed_decimal precision scale keep)

pub counted_no_precision : (keep : Bool) (e : Fault) (old new : Option (List ℕ)) (failures failures_after : ℕ) → ReadsFrom (big_endian 1) (Err e) old new failures failures_after → ReadsFromOrMemory (counted_decimal keep) (Err e) old new failures failures_after
unfolding counted_decimal
counted_no_precision keep e old new m k h =
    answers true (counted_decimal keep) (exact_counted_decimal keep) (Err e) old new m k (λ other. takes_first (big_endian 1) (after_precision keep) e old new new h.takes) h.counts

pub counted_no_scale : (keep : Bool) (precision : ℕ) (e : Fault) (old mid new : Option (List ℕ)) (n m k : ℕ) → ReadsFrom (big_endian 1) (Ok precision) old mid n m → ReadsFrom (big_endian 1) (Err e) mid new m k → ReadsFromOrMemory (counted_decimal keep) (Err e) old new n k
unfolding counted_decimal
counted_no_scale keep precision e old mid new n m k h l =
    answers true (counted_decimal keep) (exact_counted_decimal keep) (Err e) old new n k
    (λ other. takes_then (big_endian 1) (after_precision keep) precision (Err e) old mid new h.takes (takes_first (big_endian 1) (λ scale. packed_decimal precision scale keep) e mid new new l.takes))
    (l.counts ∙ ap (count_after e) h.counts)

pub counted_then : (keep : Bool) (precision scale : ℕ) (r : Result DecimalView Fault) (old mid later new : Option (List ℕ)) (n m k l : ℕ)
    → ReadsFrom (big_endian 1) (Ok precision) old mid n m → ReadsFrom (big_endian 1) (Ok scale) mid later m k → ReadsFromOrMemory (packed_decimal precision scale keep) r later new k l
    → ReadsFromOrMemory (counted_decimal keep) r old new n l
unfolding counted_decimal
counted_then keep precision scale r old mid later new n m k l h i j =
    answers true (counted_decimal keep) (exact_counted_decimal keep) r old new n l (all r j.takes) (counts r j.counts)
  where
    each : (r : Result DecimalView Fault) → TakesSpelling (packed_decimal precision scale keep) r later new → TakesSpelling (counted_decimal keep) r old new
    each r took = takes_then (big_endian 1) (after_precision keep) precision r old mid new h.takes (takes_then (big_endian 1) (λ scale. packed_decimal precision scale keep) scale r mid later new i.takes took)

    all : (r : Result DecimalView Fault) → OrMemory r (TakesSpelling (packed_decimal precision scale keep) r later new) → OrMemory r (TakesSpelling (counted_decimal keep) r old new)
    all (Ok d) took = each (Ok d) took
    all (Err e) took = λ other. each (Err e) (took other)

    counts : (r : Result DecimalView Fault) → CountsFailure r k l → CountsFailure r n l
    counts (Ok d) c = c ∙ i.counts ∙ h.counts
    counts (Err e) c = c ∙ ap (count_after e) (i.counts ∙ h.counts)

-- ---- the text of a decimal at the start of bytes

abbrev text : ℕ → ℕ → Format (List ℕ)
text precision scale = map_value (packed_decimal precision scale false) decimal_text

abbrev texted : DecimalView × List ℕ → Result (List ℕ × List ℕ) Fault
texted r = Ok (decimal_text r.0, r.1)

pub text_short : (precision scale : ℕ) (x : List ℕ) → scale ≤ precision → 0 < precision → length x < packed_size (precision - scale) scale → (text precision scale).parse x ≡ Err fault.UnexpectedEof
text_short precision scale x within some few =
    ap (λ (r : Result (DecimalView × List ℕ) Fault). r >>= texted) ((decimal_of_width precision scale false within some).short x few)

still_refused : (r : Result (DecimalView × List ℕ) Fault) (more : List ℕ) (e : Fault) → (r >>= texted) ≡ Err e → ((r >>= leaves more) >>= texted) ≡ Err e
still_refused (Ok p) more e h = absurd cc
still_refused (Err f) more e h = h

abbrev text_in : Result (List ℕ × List ℕ) Fault → List ℕ
text_in (Ok p) = p.0
text_in (Err e) = []

with_rest : (r : Result (DecimalView × List ℕ) Fault) (t y more : List ℕ) → (r >>= texted) ≡ Ok (t, y) → ((r >>= leaves more) >>= texted) ≡ Ok (t, more)
with_rest (Ok p) t y more h = ap (λ (l : List ℕ). Ok (l, more)) (ap text_in h)
with_rest (Err f) t y more h = absurd cc

pub text_refused : (precision scale n m : ℕ) (x y more : List ℕ) (e : Fault) → (text n m).parse y ≡ Err e → n ≡ precision → m ≡ scale → y ≡ x → scale ≤ precision → 0 < precision → length x ≡ packed_size (precision - scale) scale → (text precision scale).parse (x ++ more) ≡ Err e
text_refused precision scale n m x y more e h count after is within some long =
    let same : (text precision scale).parse x ≡ Err e = sym (ap₂ (λ (j k : ℕ). (text j k).parse y) count after ∙ ap (text precision scale).parse is) ∙ h in
    ap (λ (r : Result (DecimalView × List ℕ) Fault). r >>= texted) ((decimal_of_width precision scale false within some).whole x more long)
    ∙ still_refused ((packed_decimal precision scale false).parse x) more e same

pub text_read : (precision scale n m : ℕ) (x y more t : List ℕ) → (text n m).parse y ≡ Ok (t, []) → n ≡ precision → m ≡ scale → y ≡ x → scale ≤ precision → 0 < precision → length x ≡ packed_size (precision - scale) scale → (text precision scale).parse (x ++ more) ≡ Ok (t, more)
text_read precision scale n m x y more t h count after is within some long =
    let same : (text precision scale).parse x ≡ Ok (t, []) = sym (ap₂ (λ (j k : ℕ). (text j k).parse y) count after ∙ ap (text precision scale).parse is) ∙ h in
    ap (λ (r : Result (DecimalView × List ℕ) Fault). r >>= texted) ((decimal_of_width precision scale false within some).whole x more long)
    ∙ with_rest ((packed_decimal precision scale false).parse x) t [] more same

-- a text that was read from all of these bytes, where more follow them
pub text_of_front : {X : Type 0} (view : X → List ℕ) (r : Result X Fault) (precision scale n m : ℕ) (x more all : List ℕ) → OrMemory r (ParsesAs view (text n m) r x []) → n ≡ precision → m ≡ scale → all ≡ x ++ more → scale ≤ precision → 0 < precision → length x ≡ packed_size (precision - scale) scale
    → OrMemory r (ParsesAs view (text precision scale) r all more)
text_of_front view (Ok v) precision scale n m x more all h count after is within some long =
    ap (text precision scale).parse is ∙ text_read precision scale n m x x more (view v) h count after refl within some long
text_of_front view (Err e) precision scale n m x more all h count after is within some long = λ other.
    ap (text precision scale).parse is ∙ text_refused precision scale n m x x more e (h other) count after refl within some long

-- ---- packed decimals that lend their bytes

-- what was read is what the bytes are read as
itself : (r : Result (DecimalView × List ℕ) Fault) (d : DecimalView) (y : List ℕ) → r ≡ Ok (d, y) → r ≡ Ok (read_or_zero r, y)
itself r d y h = h ∙ ap (λ (v : DecimalView). Ok (v, y)) (sym (ap read_or_zero h))

-- a precision of 0 takes no bytes
pub none_lent : (precision scale : ℕ) → scale ≤ precision → precision ≡ 0 → IsAllOf precision scale []
unfolding packed_decimal
none_lent precision scale within none =
    let below = le-ltb precision scale within in
    let all : (precision == 0) ≡ true = ap (λ (n : ℕ). n == 0) none in
    rw (below, all) refl

pub none_read : (precision scale : ℕ) (x : List ℕ) → scale ≤ precision → precision ≡ 0 → (packed_decimal precision scale false).parse x ≡ Ok (decimal_of precision scale [], x)
unfolding packed_decimal
none_read precision scale x within none =
    let below = le-ltb precision scale within in
    let all : (precision == 0) ≡ true = ap (λ (n : ℕ). n == 0) none in
    rw (below, all) refl

-- there are too few bytes
pub lent_short : (precision scale : ℕ) (x : List ℕ) → scale ≤ precision → 0 < precision → length x < packed_size (precision - scale) scale → (packed_decimal precision scale false).parse x ≡ Err fault.UnexpectedEof
lent_short precision scale x within some few = (decimal_of_width precision scale false within some).short x few

abbrev kept : Result (DecimalView × List ℕ) Fault → Result (DecimalView × List ℕ) Fault
kept r = r >>= λ p. Ok (kept_decimal false p.0, p.1)

pub by_digits : (precision scale : ℕ) (x : List ℕ) → scale ≤ precision → 0 < precision → (packed_decimal precision scale false).parse x ≡ kept ((packed_digits (precision - scale) scale).parse x)
unfolding packed_decimal
by_digits precision scale x within some =
    let below = le-ltb precision scale within in
    rw (below, some_sum precision some) refl

-- all of the bytes are those of a decimal, by its digits
pub lent_whole : (precision scale i f : ℕ) (x : List ℕ) → (packed_digits i f).parse x ≡ Ok (digits_of i f x, []) → i ≡ precision - scale → f ≡ scale → scale ≤ precision → 0 < precision → IsAllOf precision scale x
lent_whole precision scale i f x h count after within some =
    let same : (packed_digits (precision - scale) scale).parse x ≡ Ok (digits_of i f x, []) = sym (ap₂ (λ (j k : ℕ). (packed_digits j k).parse x) count after) ∙ h in
    itself ((packed_decimal precision scale false).parse x) (kept_decimal false (digits_of i f x)) [] (by_digits precision scale x within some ∙ ap kept same)

-- they are the first of these bytes
pub lent_front : (precision scale : ℕ) (x more all : List ℕ) → IsAllOf precision scale x → all ≡ x ++ more → scale ≤ precision → 0 < precision → length x ≡ packed_size (precision - scale) scale → (packed_decimal precision scale false).parse all ≡ Ok (decimal_of precision scale x, more)
lent_front precision scale x more all h is within some long =
    ap (packed_decimal precision scale false).parse is ∙ (decimal_of_width precision scale false within some).whole x more long ∙ ap (λ (r : Result (DecimalView × List ℕ) Fault). r >>= leaves more) h

-- the first of these bytes are those of no decimal
pub lent_refused : (precision scale i f : ℕ) (x more all : List ℕ) (e : Fault) → (packed_digits i f).parse x ≡ Err e → i ≡ precision - scale → f ≡ scale → all ≡ x ++ more → scale ≤ precision → 0 < precision → length x ≡ packed_size (precision - scale) scale → (packed_decimal precision scale false).parse all ≡ Err e
lent_refused precision scale i f x more all e h count after is within some long =
    let same : (packed_digits (precision - scale) scale).parse x ≡ Err e = sym (ap₂ (λ (j k : ℕ). (packed_digits j k).parse x) count after) ∙ h in
    ap (packed_decimal precision scale false).parse is ∙ (decimal_of_width precision scale false within some).whole x more long
    ∙ ap (λ (r : Result (DecimalView × List ℕ) Fault). r >>= leaves more) (by_digits precision scale x within some ∙ ap kept same)
