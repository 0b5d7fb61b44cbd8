-- The texts that are read as decimals are those of the grammar.
use Rattle.std.proofs.Common.{◌≡◌, ◌⊎◌, ℕ, suc, ◌+◌, ◌-◌, ◌<◌, ◌≤◌, Bool, true, false, cond, not, List, [], ◌∷◌, ◌++◌, length, take, drop, Some, refl, sym, ap, subst, ◌∙◌, arith, inl, inr}
use Rattle.std.specs.Prelude.{◌&&◌, ◌||◌, ◌==◌, nat_le, nat_lt}
use Rattle.std.specs.List.{list_all, flat_map, prefix_len, before_first, after_first}
use Rattle.std.specs.Fmt.{decimal}
use Rattle.std.proofs.lemmas.Bool.{leb-true}
use Rattle.std.proofs.lemmas.Bool.Decides.{Decides-eqb}
use Rattle.binlog_decimal.specs.Decimals.{DecimalView}
use Rattle.binlog_decimal.specs.DecimalText.{is_digit, is_zero, is_point, digits_of, are_digits, decimal_with, signed_decimal, decimal_of_text, without_leading_zeros, has_minus, without_sign}
use Rattle.binlog_decimal.specs.DecimalLaws.{IsSign, IsPoint, IsNumeral}
use Rattle.binlog_decimal.specs.Lemmas.PackedDecimals.{view_of, same_view}
use Rattle.binlog_decimal.proofs.DecimalTexts.{both_true, all_front, all_back, below-digits_of, digits-decimal}
use Rattle.binlog_decimal.proofs.DecimalPrinting.{all_zeros, apart, After, before_point, after_point, read_digits, zeros_of, guarded}
use Rattle.binlog_decimal.proofs.DigitCharacters.{chars, glyphs}

-- ---- each text of the grammar is read

after_is : (point fs : List ℕ) → IsPoint point fs → After (point ++ chars fs) (chars fs)
after_is point fs (inl h) = inr (ap (λ (l : List ℕ). l ++ chars fs) h)
after_is point fs (inr h) = inl (ap (λ (l : List ℕ). l ++ chars fs) h.0 ∙ ap chars h.1, ap chars h.1)

-- a text of digits and a point doesn't begin with a sign
bare : (js text fs : List ℕ) → 0 < length js + length fs → After text (chars fs) → (without_sign (chars js ++ text) ≡ chars js ++ text) × (has_minus (chars js ++ text) ≡ false)
bare [] text [] some b = absurd (omega arith)
bare [] text (f ∷ fs) some (inl h) = absurd cc
bare [] text (f ∷ fs) some (inr h) = (ap without_sign h ∙ sym h, ap has_minus h)
bare (j ∷ js) text fs some b =
    let other : (48 + j == 45) ≡ false = apart (48 + j) 45 (omega arith) in
    let neither : ((48 + j == 43) || (48 + j == 45)) ≡ false = rw (apart (48 + j) 43 (omega arith), other) refl in
    (rw neither refl, other)

with_sign : (sign js text fs : List ℕ) (minus : Bool) → 0 < length js + length fs → After text (chars fs) → IsSign sign minus → (without_sign (sign ++ (chars js ++ text)) ≡ chars js ++ text) × (has_minus (sign ++ (chars js ++ text)) ≡ minus)
with_sign sign js text fs minus some b (inl h) =
    let none = bare js text fs some b in
    let all : sign ++ (chars js ++ text) ≡ chars js ++ text = ap (λ (l : List ℕ). l ++ (chars js ++ text)) h.0 in
    (ap without_sign all ∙ none.0, ap has_minus all ∙ none.1 ∙ sym h.1)
with_sign sign js text fs minus some b (inr (inl h)) =
    let all : sign ++ (chars js ++ text) ≡ 43 ∷ (chars js ++ text) = ap (λ (l : List ℕ). l ++ (chars js ++ text)) h.0 in
    (ap without_sign all, ap has_minus all ∙ sym h.1)
with_sign sign js text fs minus some b (inr (inr h)) =
    let all : sign ++ (chars js ++ text) ≡ 45 ∷ (chars js ++ text) = ap (λ (l : List ℕ). l ++ (chars js ++ text)) h.0 in
    (ap without_sign all, ap has_minus all ∙ sym h.1)

numeral_read : (text : List ℕ) (d : DecimalView) → IsNumeral text d → signed_decimal text ≡ Some d
numeral_read text d h =
    let js = d.integer in
    let fs = d.fraction in
    let b = after_is h.point fs h.is_point in
    let tail = h.point ++ chars fs in
    let spelled : text ≡ h.sign ++ (chars js ++ tail) =
    h.spelled ∙ ap (λ (l : List ℕ). h.sign ++ (l ++ (h.point ++ flat_map decimal fs))) (glyphs js h.is_decimal.0) ∙ ap (λ (l : List ℕ). h.sign ++ (chars js ++ (h.point ++ l))) (glyphs fs h.is_decimal.1) in
    let s = with_sign h.sign js tail fs h.minus h.is_decimal.2 b h.is_sign in
    let same : view_of (h.minus && not (all_zeros (js ++ fs))) js fs ≡ d = same_view (view_of (h.minus && not (all_zeros (js ++ fs))) js fs) d (sym h.negative) refl refl in
    ap signed_decimal spelled
    ∙ ap (λ (m : Bool). decimal_with m (before_first is_point (without_sign (h.sign ++ (chars js ++ tail)))) (after_first is_point (without_sign (h.sign ++ (chars js ++ tail))))) s.1
    ∙ ap (λ (l : List ℕ). decimal_with h.minus (before_first is_point l) (after_first is_point l)) s.0
    ∙ ap (λ (l : List ℕ). decimal_with h.minus l (after_first is_point (chars js ++ tail))) (before_point js tail (chars fs) h.is_decimal.0 b)
    ∙ ap (decimal_with h.minus (chars js)) (after_point js tail (chars fs) h.is_decimal.0 b)
    ∙ read_digits h.minus js fs h.is_decimal.0 h.is_decimal.1 h.is_decimal.2
    ∙ ap (λ (v : DecimalView). Some v) same

-- ---- each text that is read is of the grammar

chars-digits_of : (xs : List ℕ) → list_all is_digit xs ≡ true → chars (digits_of xs) ≡ xs
chars-digits_of [] h = refl
chars-digits_of (x ∷ xs) h =
    let b = both_true (is_digit x) (list_all is_digit xs) h in
    let low : 48 ≤ x = leb-true 48 x (both_true (nat_le 48 x) (nat_le x 57) b.0).0 in
    let first : 48 + (x - 48) ≡ x = omega arith in
    let rest = chars-digits_of xs b.1 in
    cc (first, rest)

-- digits that were read from a text are printed as that text
text_of : (xs : List ℕ) → list_all is_digit xs ≡ true → flat_map decimal (digits_of xs) ≡ xs
text_of xs h = glyphs (digits_of xs) (below-digits_of xs h) ∙ chars-digits_of xs h

record IsSplit (text : List ℕ) : Type 0 where
  point : List ℕ
  pointed : (point ≡ 46 ∷ []) ⊎ ((point ≡ []) × (after_first is_point text ≡ []))
  parts : text ≡ before_first is_point text ++ (point ++ after_first is_point text)

split_cons : (c : ℕ) (text : List ℕ) (b : Bool) → is_point c ≡ b → IsSplit text → IsSplit (c ∷ text)
split_cons c text true h s =
    let n = prefix_len (λ x. not (is_point x)) text in
    let none : prefix_len (λ x. not (is_point x)) (c ∷ text) ≡ 0 = ap (λ (b : Bool). cond (not b) (1 + n) 0) h in
    let front : before_first is_point (c ∷ text) ≡ [] = ap (λ (k : ℕ). take k (c ∷ text)) none in
    let back : after_first is_point (c ∷ text) ≡ text = ap (λ (k : ℕ). drop (k + 1) (c ∷ text)) none in
    let point : c ≡ 46 = (Decides-eqb c 46).0 h in
    record {
      point = 46 ∷ [];
      pointed = inl refl;
      parts = sym (ap (λ (l : List ℕ). l ++ (46 ∷ after_first is_point (c ∷ text))) front ∙ ap (λ (l : List ℕ). 46 ∷ l) back ∙ ap (λ (k : ℕ). k ∷ text) (sym point));
    }
split_cons c text false h s =
    let n = prefix_len (λ x. not (is_point x)) text in
    let more : prefix_len (λ x. not (is_point x)) (c ∷ text) ≡ suc n = ap (λ (b : Bool). cond (not b) (1 + n) 0) h ∙ omega arith in
    let front : before_first is_point (c ∷ text) ≡ c ∷ before_first is_point text = ap (λ (k : ℕ). take k (c ∷ text)) more in
    let after : prefix_len (λ x. not (is_point x)) (c ∷ text) + 1 ≡ suc (n + 1) = omega (arith, more) in
    let back : after_first is_point (c ∷ text) ≡ after_first is_point text = ap (λ (k : ℕ). drop k (c ∷ text)) after in
    record {
      point = s.point;
      pointed = elim s.pointed [ inl l ↦ inl l | inr r ↦ inr (r.0, back ∙ r.1) ];
      parts = sym (ap (λ (l : List ℕ). l ++ (s.point ++ after_first is_point (c ∷ text))) front ∙ ap (λ (l : List ℕ). c ∷ (before_first is_point text ++ (s.point ++ l))) back ∙ ap (λ (l : List ℕ). c ∷ l) (sym s.parts));
    }

split : (text : List ℕ) → IsSplit text
split [] = record { point = []; pointed = inr (refl, refl); parts = refl }
split (c ∷ text) = split_cons c text (is_point c) refl (split text)

or_true : (b : Bool) → (b || true) ≡ true
or_true true = refl
or_true false = refl

sign_cons : (c : ℕ) (text : List ℕ) (plus minus : Bool) → (c == 43) ≡ plus → (c == 45) ≡ minus → (sign : List ℕ) × IsSign sign (has_minus (c ∷ text)) × (c ∷ text ≡ sign ++ without_sign (c ∷ text))
sign_cons c text plus true p m =
    let is : c ≡ 45 = (Decides-eqb c 45).0 m in
    let signed : ((c == 43) || (c == 45)) ≡ true = ap (λ (b : Bool). (c == 43) || b) m ∙ or_true (c == 43) in
    let rest : without_sign (c ∷ text) ≡ text = ap (λ (b : Bool). cond b text (c ∷ text)) signed in
    (45 ∷ [], inr (inr (refl, m)), ap (λ (k : ℕ). k ∷ text) is ∙ ap (λ (l : List ℕ). 45 ∷ l) (sym rest))
sign_cons c text true false p m =
    let is : c ≡ 43 = (Decides-eqb c 43).0 p in
    let signed : ((c == 43) || (c == 45)) ≡ true = ap (λ (b : Bool). b || (c == 45)) p in
    let rest : without_sign (c ∷ text) ≡ text = ap (λ (b : Bool). cond b text (c ∷ text)) signed in
    (43 ∷ [], inr (inl (refl, m)), ap (λ (k : ℕ). k ∷ text) is ∙ ap (λ (l : List ℕ). 43 ∷ l) (sym rest))
sign_cons c text false false p m =
    let signed : ((c == 43) || (c == 45)) ≡ false = ap (λ (b : Bool). b || (c == 45)) p ∙ m in
    let rest : without_sign (c ∷ text) ≡ c ∷ text = ap (λ (b : Bool). cond b text (c ∷ text)) signed in
    ([], inl (refl, m), sym rest)

signed : (text : List ℕ) → (sign : List ℕ) × IsSign sign (has_minus text) × (text ≡ sign ++ without_sign text)
signed [] = ([], inl (refl, refl), refl)
signed (c ∷ text) = sign_cons c text (c == 43) (c == 45) refl refl

read_numeral : (text : List ℕ) (d : DecimalView) → signed_decimal text ≡ Some d → IsNumeral text d
read_numeral text d h =
    let minus = has_minus text in
    let before = before_first is_point (without_sign text) in
    let after = after_first is_point (without_sign text) in
    let v = view_of (minus && not (list_all is_zero (before ++ after))) (digits_of before) (digits_of after) in
    let g = guarded (are_digits before after) v d h in
    let digits = (both_true (list_all is_digit (before ++ after)) (nat_lt 0 (length (before ++ after))) g.0).0 in
    let front = all_front is_digit before after digits in
    let back = all_back is_digit before after digits in
    let s = signed text in
    let p = split (without_sign text) in
    subst (λ (w : DecimalView). IsNumeral text w) g.1
    (record {
      minus = minus;
      sign = s.0;
      point = p.point;
      is_sign = s.1;
      is_point = elim p.pointed [ inl l ↦ inl l | inr r ↦ inr (r.0, ap digits_of r.1) ];
      is_decimal = digits-decimal v.negative before after (digits_of before) (digits_of after) g.0 refl refl;
      spelled = s.2 ∙ ap (λ (l : List ℕ). s.0 ++ l) p.parts
          ∙ ap (λ (l : List ℕ). s.0 ++ (l ++ (p.point ++ after))) (sym (text_of before front))
          ∙ ap (λ (l : List ℕ). s.0 ++ (flat_map decimal (digits_of before) ++ (p.point ++ l))) (sym (text_of after back));
      negative = ap (λ (z : Bool). minus && not z) (zeros_of before after front back);
    })

pub texts_are_numerals : (text : List ℕ) (d : DecimalView) → (decimal_of_text text ≡ Some d → IsNumeral (without_leading_zeros text) d) × (IsNumeral (without_leading_zeros text) d → decimal_of_text text ≡ Some d)
unfolding decimal_of_text
texts_are_numerals text d = (read_numeral (without_leading_zeros text) d, numeral_read (without_leading_zeros text) d)
