-- What a writer and a piece show, and what a piece does to a writer.
use Rattle.std.proofs.Common.{◌≡◌, ℕ, ◌-◌, Bool, true, false, cond, List, [], ◌∷◌, ◌++◌, fold, length, take, drop, refl, sym, ap, ◌∙◌, arith, length-append, length-take-le, take_at, append_assoc, ◌≤◌, ℤ, pos, negsuc}
use Rattle.std.proofs.lemmas.List.{drop-append-le, take-append-le}
use Rattle.std.proofs.lemmas.Bool.{le-ltb}
use lib.Signed.{lt_z}
use lib.IntN.{nat_abs}
use Rattle.std.specs.Prelude.{decimal}
use Rattle.std.specs.Fmt.{signed_decimal}
use Rattle.json.specs.Token.{Token, key, string, number}
use Rattle.json.specs.Lex.{tokens}
use Rattle.json.specs.Print.{print, print_from, ends, ends_value, separator, token_text, escape, IsPrintable, ArePrintable}
use Rattle.json.proofs.Printed.Tokens.{tokens-print, print_from_push, print_from-append, ends_push, ArePrintable-push}
use Rattle.json_line.specs.Writer.{writer_view, IsWriter, IsBegun, piece_view, IsPiece}
use Rattle.json_line.specs.declared.writer.Writer.TheInside as writer
use Rattle.json_line.specs.declared.piece.Piece.TheInside as piece

pub shows_printed : (w : writer.Inside) (h : IsWriter w) → (writer_view w).tokens ≡ h.printed
shows_printed w h = ap tokens h.text ∙ tokens-print h.printed h.printable

-- tokens that begin a value or a member have a comma before them after a value
pub comma_first : (ts : List Token) → IsBegun ts → print_from true ts ≡ 44 ∷ print ts
unfolding print_from
comma_first [] h = absurd h
comma_first (t ∷ ts) h = ap (λ b. cond b (44 ∷ []) [] ++ (token_text t ++ print_from (ends t) ts)) h

pub shows_piece : (p : piece.Inside) (h : IsPiece p) → piece_view p ≡ h.printed
shows_piece p h = ap (λ l. tokens (drop 1 l)) (h.text ∙ comma_first h.printed h.begun) ∙ tokens-print h.printed h.printable

-- the comma is left out where no value was ended
pub from_place : (after : Bool) (ts : List Token) → IsBegun ts → drop (cond after 0 1) (print_from true ts) ≡ print_from after ts
from_place true ts h = refl
from_place false ts h = ap (drop 1) (comma_first ts h)

printable_both : (ts us : List Token) → ArePrintable ts → ArePrintable us → ArePrintable (ts ++ us)
unfolding ArePrintable
printable_both [] us h k = k
printable_both (t ∷ ts) us h k = (h.0, printable_both ts us h.1 k)

ends_from : (b c : Bool) (ts us : List Token) → IsBegun us → fold (λ _ u. ends u) b (ts ++ us) ≡ fold (λ _ u. ends u) c us
ends_from b c [] [] h = absurd h
ends_from b c [] (u ∷ us) h = refl
ends_from b c (t ∷ ts) us h = ends_from (ends t) c ts us h

module _ (w v : writer.Inside) (h : IsWriter w) (ts : List Token) (begun : IsBegun ts) (printable : ArePrintable ts) (start : v.start ≡ w.start) (place : v.after_value ≡ ends_value ts)
    (items : v.out.items ≡ w.out.items ++ print_from w.after_value ts) where
  pub appended : IsWriter v
  appended =
      let more = print_from w.after_value ts in
      record {
        within = omega (arith, h.within, ap length items, length-append w.out.items more);
        printed = h.printed ++ ts;
        printable = printable_both h.printed ts h.printable printable;
        text = (λ i. drop (start i) (items i)) ∙ drop-append-le w.start w.out.items more h.within
            ∙ (λ i. h.text i ++ print_from (h.place i) ts) ∙ sym (print_from-append false h.printed ts);
        place = place ∙ sym (ends_from false false h.printed ts begun);
      }

  pub appended_tokens : (writer_view v).tokens ≡ (writer_view w).tokens ++ ts
  unfolding appended
  appended_tokens = shows_printed v appended ∙ ap (λ l. l ++ ts) (sym (shows_printed w h))

  pub appended_before : (writer_view v).before ≡ (writer_view w).before
  appended_before = (λ i. take (start i) (items i)) ∙ take-append-le w.start w.out.items _ h.within

-- bytes that 16 others follow
pub before_last : (bytes front zeros : List ℕ) → bytes ≡ front ++ zeros → length zeros ≡ 16 → take (length bytes - 16) bytes ≡ front
before_last bytes front zeros e z =
    let n : length front ≡ length bytes - 16 = omega (arith, ap length e, length-append front zeros, z) in
    ap (take (length bytes - 16)) e ∙ take_at front zeros (length bytes - 16) n

pub room_after : (bytes front zeros : List ℕ) → bytes ≡ front ++ zeros → length zeros ≡ 16 → 16 ≤ length bytes
room_after bytes front zeros e z = omega (arith, ap length e, length-append front zeros, z)

-- a piece has a comma at least
pub has_comma : (bytes : List ℕ) (ts : List Token) → 16 ≤ length bytes → IsBegun ts → take (length bytes - 16) bytes ≡ print_from true ts → 17 ≤ length bytes
has_comma bytes ts room begun text =
    omega (arith, ap length (text ∙ comma_first ts begun), length-take-le (length bytes - 16) bytes (omega arith))

-- ---- one more token

module _ (w v : writer.Inside) (h : IsWriter w) (t : Token) (printable : IsPrintable t) (start : v.start ≡ w.start) (place : v.after_value ≡ ends t)
    (items : v.out.items ≡ w.out.items ++ (separator w.after_value t ++ token_text t)) where
  pub pushed : IsWriter v
  pushed =
      let more = separator w.after_value t ++ token_text t in
      record {
        within = omega (arith, h.within, ap length items, length-append w.out.items more);
        printed = h.printed ++ t ∷ [];
        printable = ArePrintable-push h.printed t h.printable printable;
        text = (λ i. drop (start i) (items i)) ∙ drop-append-le w.start w.out.items more h.within
            ∙ (λ i. h.text i ++ (separator (h.place i) t ++ token_text t)) ∙ sym (print_from_push false h.printed t);
        place = place ∙ sym (ends_push false h.printed t);
      }

  pub pushed_tokens : (writer_view v).tokens ≡ (writer_view w).tokens ++ t ∷ []
  unfolding pushed
  pushed_tokens = shows_printed v pushed ∙ ap (λ l. l ++ t ∷ []) (sym (shows_printed w h))

  pub pushed_before : (writer_view v).before ≡ (writer_view w).before
  pushed_before = (λ i. take (start i) (items i)) ∙ take-append-le w.start w.out.items _ h.within

-- a key and a string that need no escape
pub quoted_key : (after : Bool) (s : List ℕ) → escape s ≡ s → cond after (44 ∷ []) [] ++ 34 ∷ (s ++ 34 ∷ 58 ∷ []) ≡ separator after (key s) ++ token_text (key s)
quoted_key true s e = ap (λ l. 44 ∷ 34 ∷ l) (ap (λ l. l ++ 34 ∷ 58 ∷ []) (sym e) ∙ sym (append_assoc (escape s) (34 ∷ []) (58 ∷ [])))
quoted_key false s e = ap (λ l. 34 ∷ l) (ap (λ l. l ++ 34 ∷ 58 ∷ []) (sym e) ∙ sym (append_assoc (escape s) (34 ∷ []) (58 ∷ [])))

pub quoted_string : (after : Bool) (s : List ℕ) → escape s ≡ s → cond after (44 ∷ []) [] ++ 34 ∷ (s ++ 34 ∷ []) ≡ separator after (string s) ++ token_text (string s)
quoted_string true s e = ap (λ l. 44 ∷ 34 ∷ (l ++ 34 ∷ [])) (sym e)
quoted_string false s e = ap (λ l. 34 ∷ (l ++ 34 ∷ [])) (sym e)

-- a number after its comma
pub after_comma : (after : Bool) (s : List ℕ) → cond after (44 ∷ []) [] ++ s ≡ separator after (number s) ++ token_text (number s)
after_comma true s = refl
after_comma false s = refl

-- a number with its sign
pub signed_text : (z : ℤ) → cond (lt_z z (pos 0)) (45 ∷ []) [] ++ decimal (nat_abs z) ≡ signed_decimal z
signed_text (pos n) = ap (λ b. cond b (45 ∷ []) [] ++ decimal n) (le-ltb n 0 (omega arith))
signed_text (negsuc n) = refl
