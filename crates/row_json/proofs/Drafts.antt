-- Lines whose long texts stand apart, while they are made.
use Rattle.std.proofs.Common.{◌≡◌, ℕ, Bool, true, false, List, [], ◌∷◌, ◌++◌, take, drop, length, refl, sym, ap, ◌∙◌, subst, append_assoc, append-nil, ◌<◌, ◌-◌, arith}
use Rattle.std.specs.Prelude.{fold, codes, OnOk, Result, Ok, Err}
use Rattle.std.specs.List.{flat_map}
use Rattle.std.proofs.lemmas.Grind.{flat_map-append}
use Rattle.std.proofs.lemmas.List.{take_at, length_push}
use Rattle.json.specs.Token.{Token}
use Rattle.json.specs.Token as token
use Rattle.json.specs.Json.{Json, null, boolean, number, string, array, object, Items, no_items, item, Members, no_members, member}
use Rattle.json.specs.Tree.{json_tokens, items_tokens, members_tokens, HasNumbers, ItemsHaveNumbers, MembersHaveNumbers}
use Rattle.json.specs.Print.{escape, print_from, print, separator, ends, ends_value, ArePrintableOrBad}
use Rattle.json.specs.Lex.{tokens}
use Rattle.json_line.specs.Written.{Written, Writes}
use Rattle.json.proofs.Printed.Tokens.{print_from_push, print_from-append, ends_push}
use Rattle.json.proofs.Numbered.{ArePrintableOrBad-tokens}
use Rattle.row_json.specs.LongLines.{LinePart, part_bytes, characters}
use Rattle.row_json.specs.Workings.Drafts.{has_parts, opening, closing, Holds, Goes, GoesMembers}
use Rattle.row_json.specs.Wrote.{Adds, Named, Wrote, WroteMembers, Fits, named_tokens, members_of, object_end}
use Rattle.row_json.proofs.Steps.{members_end}
use Rattle.mysql_binlog_rows.specs.Images.{Pair}
use Rattle.mysql_binlog_rows.specs.RowsEvent.{RowsEvent}
use Rattle.json.proofs.Printed.Trees.{document-print}
use Rattle.row_json.specs.Columns.{Column}
use Rattle.row_json.specs.Rows.{operation_of, AreImages, IsPairJson, IsLine}
use Rattle.row_json.proofs.Depths.{pair_fits}
use Rattle.row_json.proofs.Objects.{pair_wrote}

-- ---- steps

pub goes_adds : (ps : List LinePart) (a b : Written) (ts : List Token) → Adds a b ts → Goes ps a ps b ts
goes_adds ps a b ts w = λ us h. record {
  first = h.first;
  last = h.last ++ ts;
  all = ap (λ (l : List Token). l ++ ts) h.all ∙ append_assoc h.first h.last ts;
  before = w.before ∙ h.before;
  tokens = w.tokens ∙ ap (λ (l : List Token). l ++ ts) h.tokens ∙ append_assoc (opening ps) h.last ts;
  text = h.text;
  ends = h.ends;
  printable = h.printable;
}

pub goes_both : (ps qs rs : List LinePart) (a b d : Written) (ts us : List Token) → Goes ps a qs b ts → Goes qs b rs d us → Goes ps a rs d (ts ++ us)
goes_both ps qs rs a b d ts us x y = λ vs h. subst (λ (l : List Token). Holds rs d l) (append_assoc vs ts us) (y (vs ++ ts) (x vs h))

pub goes_same : (ps qs : List LinePart) (a b : Written) (ts us : List Token) → ts ≡ us → Goes ps a qs b ts → Goes ps a qs b us
goes_same ps qs a b ts us e x = λ vs h. subst (λ (l : List Token). Holds qs b (vs ++ l)) e (x vs h)

pub goes_nothing : (ps : List LinePart) (a : Written) → Goes ps a ps a []
goes_nothing ps a = λ vs h. subst (λ (l : List Token). Holds ps a l) (sym (append-nil vs)) h

-- nothing was written yet
pub holds_nothing : (a : Written) → a.before ≡ [] → a.tokens ≡ [] → Holds [] a []
unfolding print_from
holds_nothing a before none = record { first = []; last = []; all = refl; before = before; tokens = none; text = refl; ends = refl; printable = tt }

-- ---- tokens that were written

printable_front : (ts us : List Token) → ArePrintableOrBad (ts ++ us) → ArePrintableOrBad ts
printable_front [] us h = tt
printable_front (t ∷ ts) us h = (h.0, printable_front ts us h.1)

printable_end : (ts us : List Token) → ArePrintableOrBad (ts ++ us) → ArePrintableOrBad us
printable_end [] us h = h
printable_end (t ∷ ts) us h = printable_end ts us h.1

pub printable_both : (ts us : List Token) → ArePrintableOrBad ts → ArePrintableOrBad us → ArePrintableOrBad (ts ++ us)
printable_both [] us h k = k
printable_both (t ∷ ts) us h k = (h.0, printable_both ts us h.1 k)

mutual
  numbers_of : (j : Json) (rest : List Token) → ArePrintableOrBad (json_tokens j ++ rest) → HasNumbers j × ArePrintableOrBad rest
  numbers_of null rest h = (tt, h.1)
  numbers_of (boolean b) rest h = (tt, h.1)
  numbers_of (number s) rest h = (h.0, h.1)
  numbers_of (string s) rest h = (tt, h.1)
  numbers_of (array js) rest h = numbers_of_items js rest h.1
  numbers_of (object ms) rest h = numbers_of_members ms rest h.1

  numbers_of_items : (js : Items) (rest : List Token) → ArePrintableOrBad (items_tokens js ++ rest) → ItemsHaveNumbers js × ArePrintableOrBad rest
  numbers_of_items no_items rest h = (tt, h.1)
  numbers_of_items (item j js) rest h =
      let one = numbers_of j (items_tokens js ++ rest) (subst ArePrintableOrBad (append_assoc (json_tokens j) (items_tokens js) rest) h) in
      let more = numbers_of_items js rest one.1 in
      ((one.0, more.0), more.1)

  numbers_of_members : (ms : Members) (rest : List Token) → ArePrintableOrBad (members_tokens ms ++ rest) → MembersHaveNumbers ms × ArePrintableOrBad rest
  numbers_of_members no_members rest h = (tt, h.1)
  numbers_of_members (member k j ms) rest h =
      let one = numbers_of j (members_tokens ms ++ rest) (subst ArePrintableOrBad (append_assoc (json_tokens j) (members_tokens ms) rest) h.1) in
      let more = numbers_of_members ms rest one.1 in
      ((one.0, more.0), more.1)

-- a value whose tokens were written has numbers that are read back
pub has_numbers : (j : Json) → ArePrintableOrBad (json_tokens j) → HasNumbers j
has_numbers j h = (numbers_of j [] (subst ArePrintableOrBad (sym (append-nil (json_tokens j))) h)).0

-- what a writer has is read back
pub last_printable : (ps : List LinePart) (out : Written) (ts : List Token) (h : Holds ps out ts) → tokens (print out.tokens) ≡ out.tokens → ArePrintableOrBad h.last
last_printable ps out ts h back =
    printable_end (opening ps) h.last (subst ArePrintableOrBad (back ∙ h.tokens) (ArePrintableOrBad-tokens (print out.tokens)))

-- ---- their text

-- what stands in a writer, after the opening quote that it begins with where there is a part
pub without_quote : List LinePart → List ℕ → List ℕ
without_quote [] text = text
without_quote (p ∷ ps) text = drop 1 text

from_quote : (ps : List LinePart) (last : List Token) → without_quote ps (print (opening ps ++ last)) ≡ closing ps ++ print_from (has_parts ps) last
unfolding print_from without_quote
from_quote [] last = refl
from_quote (p ∷ ps) last = refl

pub text_without : (ps : List LinePart) (out : Written) (ts : List Token) (h : Holds ps out ts) (text : List ℕ) → text ≡ out.before ++ print out.tokens → without_quote ps text ≡ closing ps ++ print_from (has_parts ps) h.last
text_without ps out ts h text is =
    ap (without_quote ps) (is ∙ ap (λ (b : List ℕ). b ++ print out.tokens) h.before ∙ ap print h.tokens) ∙ from_quote ps h.last

-- the first byte is left out where there is a part
pub all_of_it : (ps : List LinePart) (text : List ℕ) → length ps ≡ 0 → without_quote ps text ≡ text
unfolding without_quote
all_of_it [] text none = refl
all_of_it (p ∷ ps) text none = absurd (omega (arith, none))

pub but_the_first : (ps : List LinePart) (text : List ℕ) → 0 < length ps → without_quote ps text ≡ drop 1 text
unfolding without_quote
but_the_first [] text some = absurd (omega (arith, some))
but_the_first (p ∷ ps) text some = refl

-- what was written is the text of its tokens
pub whole_text : (ps : List LinePart) (out : Written) (ts : List Token) (h : Holds ps out ts) → flat_map part_bytes ps ++ (closing ps ++ print_from (has_parts ps) h.last) ≡ print ts
whole_text ps out ts h =
    sym (append_assoc (flat_map part_bytes ps) (closing ps) (print_from (has_parts ps) h.last))
    ∙ ap (λ (t : List ℕ). t ++ print_from (has_parts ps) h.last) (sym h.text)
    ∙ ap (λ (b : Bool). print h.first ++ print_from b h.last) (sym h.ends)
    ∙ sym (print_from-append false h.first h.last)
    ∙ ap print (sym h.all)

pub all_printable : (ps : List LinePart) (out : Written) (ts : List Token) (h : Holds ps out ts) → ArePrintableOrBad h.last → ArePrintableOrBad ts
all_printable ps out ts h last = subst ArePrintableOrBad (sym h.all) (printable_both h.first h.last h.printable last)

-- ---- a text that stands apart

has_parts_push : (ps : List LinePart) (p : LinePart) → has_parts (ps ++ p ∷ []) ≡ true
has_parts_push [] p = refl
has_parts_push (q ∷ ps) p = refl

opening_push : (ps : List LinePart) (p : LinePart) → opening (ps ++ p ∷ []) ≡ token.string [] ∷ []
opening_push [] p = refl
opening_push (q ∷ ps) p = refl

closing_push : (ps : List LinePart) (p : LinePart) → closing (ps ++ p ∷ []) ≡ 34 ∷ []
closing_push [] p = refl
closing_push (q ∷ ps) p = refl

-- a text without its last byte
but_the_last : (x : List ℕ) (y : ℕ) (text : List ℕ) → text ≡ x ++ y ∷ [] → take (length text - 1) text ≡ x
but_the_last x y text is =
    let at : length x ≡ length text - 1 = omega (arith, ap length is, length_push x y) in
    ap (take (length text - 1)) is ∙ take_at x (y ∷ []) (length text - 1) at

-- what stands before a string of which the closing quote is cut off
cut : (b : Bool) (front : List ℕ) (last : List Token) (text : List ℕ) → text ≡ front ++ print_from b (last ++ token.string [] ∷ []) → take (length text - 1) text ≡ front ++ (print_from b last ++ (separator (fold (λ _ u. ends u) b last) (token.string []) ++ 34 ∷ []))
cut b front last text is =
    let sep = separator (fold (λ _ u. ends u) b last) (token.string []) in
    let pushed : print_from b (last ++ token.string [] ∷ []) ≡ print_from b last ++ (sep ++ 34 ∷ 34 ∷ []) = print_from_push b last (token.string []) in
    let whole : (front ++ (print_from b last ++ (sep ++ 34 ∷ []))) ++ 34 ∷ [] ≡ front ++ (print_from b last ++ (sep ++ 34 ∷ 34 ∷ [])) = simp append_assoc in
    but_the_last (front ++ (print_from b last ++ (sep ++ 34 ∷ []))) 34 text (is ∙ ap (λ (t : List ℕ). front ++ t) pushed ∙ sym whole)

goes_apart : (ps : List LinePart) (p : LinePart) (a b d : Written) (written : List ℕ) → Adds a b (token.string [] ∷ []) → p.before ≡ take (length written - 1) written →
    ((ts : List Token) (h : Holds ps b ts) → written ≡ closing ps ++ print_from (has_parts ps) h.last) →
    ((ts : List Token) (h : Holds ps b ts) → ArePrintableOrBad h.last) → d.before ≡ [] → d.tokens ≡ token.string [] ∷ [] → Goes ps a (ps ++ p ∷ []) d (token.string (characters p.text) ∷ [])
unfolding goes_adds
goes_apart ps p a b d written empty cut_off text printable before new us h =
    let s = characters p.text in
    let k = goes_adds ps a b (token.string [] ∷ []) empty us h in
    let c = has_parts ps in
    let sep = separator (fold (λ _ u. ends u) c h.last) (token.string []) in
    let is = cut_off ∙ cut c (closing ps) h.last written (text (us ++ token.string [] ∷ []) k) in
    let front = flat_map part_bytes ps in
    let first = h.first ++ (h.last ++ token.string s ∷ []) in
    let printed : print first ≡ (front ++ closing ps) ++ (print_from c h.last ++ (sep ++ 34 ∷ (escape s ++ 34 ∷ []))) =
    print_from-append false h.first (h.last ++ token.string s ∷ [])
    ∙ ap (λ (t : List ℕ). t ++ print_from (ends_value h.first) (h.last ++ token.string s ∷ [])) h.text
    ∙ ap (λ (e : Bool). (front ++ closing ps) ++ print_from e (h.last ++ token.string s ∷ [])) h.ends
    ∙ ap (λ (t : List ℕ). (front ++ closing ps) ++ t) (print_from_push c h.last (token.string s)) in
    let parts : flat_map part_bytes (ps ++ p ∷ []) ≡ front ++ (p.before ++ escape s) = flat_map-append part_bytes ps (p ∷ []) ∙ ap (λ (t : List ℕ). front ++ t) (append-nil (part_bytes p)) in
    let joined : (front ++ closing ps) ++ (print_from c h.last ++ (sep ++ 34 ∷ (escape s ++ 34 ∷ []))) ≡ (front ++ ((closing ps ++ (print_from c h.last ++ (sep ++ 34 ∷ []))) ++ escape s)) ++ 34 ∷ [] = simp append_assoc in
    record {
      first = first;
      last = [];
      all = ap (λ (l : List token.Token). l ++ token.string s ∷ []) h.all ∙ append_assoc h.first h.last (token.string s ∷ []) ∙ sym (append-nil first);
      before = before;
      tokens = new ∙ sym (append-nil (token.string [] ∷ [])) ∙ ap (λ (l : List token.Token). l ++ []) (sym (opening_push ps p));
      text = printed ∙ joined ∙ ap (λ (t : List ℕ). (front ++ (t ++ escape s)) ++ 34 ∷ []) (sym is) ∙ ap (λ (t : List ℕ). t ++ 34 ∷ []) (sym parts) ∙ ap (λ (t : List ℕ). flat_map part_bytes (ps ++ p ∷ []) ++ t) (sym (closing_push ps p));
      ends = ap (fold (λ _ u. ends u) false) (sym (append_assoc h.first h.last (token.string s ∷ []))) ∙ ends_push false (h.first ++ h.last) (token.string s) ∙ sym (has_parts_push ps p);
      printable = printable_both h.first (h.last ++ token.string s ∷ []) h.printable (printable_both h.last (token.string s ∷ []) (printable_front h.last (token.string [] ∷ []) (printable (us ++ token.string [] ∷ []) k)) (tt, tt));
    }

-- the same where a call begins a new writer
pub goes_apart_if : {E : Type 0} (r : Result (Unit {0}) E) (ps : List LinePart) (p : LinePart) (a b e d : Written) (written : List ℕ) → Adds a b (token.string [] ∷ []) → p.before ≡ take (length written - 1) written →
    ((ts : List Token) (h : Holds ps b ts) → written ≡ closing ps ++ print_from (has_parts ps) h.last) →
    ((ts : List Token) (h : Holds ps b ts) → ArePrintableOrBad h.last) → e.before ≡ [] → e.tokens ≡ [] → Writes r e d (token.string []) → OnOk r (Goes ps a (ps ++ p ∷ []) d (token.string (characters p.text) ∷ []))
goes_apart_if (Ok _) ps p a b e d written empty cut_off text printable before none w =
    goes_apart ps p a b d written empty cut_off text printable (w.before ∙ before) (w.ok ∙ ap (λ (l : List Token). l ++ token.string [] ∷ []) none)
goes_apart_if (Err _) ps p a b e d written empty cut_off text printable before none w = tt

-- ---- values and members

-- members, and then more members
pub goes_members : (ps qs rs : List LinePart) (a b d : Written) (ms more : List Named) → Goes ps a qs b (flat_map named_tokens ms) → Goes qs b rs d (flat_map named_tokens more) → Goes ps a rs d (flat_map named_tokens (ms ++ more))
goes_members ps qs rs a b d ms more x y = goes_same ps rs a d _ _ (sym (flat_map-append named_tokens ms more)) (goes_both ps qs rs a b d _ _ x y)

-- a name, and then a value
pub goes_member : (ps qs : List LinePart) (a b d : Written) (s name : List ℕ) (j : Json) → s ≡ name → Adds a b (token.key s ∷ []) → Goes ps b qs d (json_tokens j) → Goes ps a qs d (flat_map named_tokens ((name, j) ∷ []))
goes_member ps qs a b d s name j e key value =
    goes_same ps qs a d _ _ (ap (λ (t : List ℕ). token.key t ∷ json_tokens j) e ∙ sym (append-nil (token.key name ∷ json_tokens j)))
    (goes_both ps ps qs a b d (token.key s ∷ []) (json_tokens j) (goes_adds ps a b (token.key s ∷ []) key) value)

-- what a call wrote without a text that stands apart
pub members_wrote : {E : Type 0} (r : Result (Unit {0}) E) (ps : List LinePart) (a b : Written) (Are : List Named → Type 0) → OnOk r (WroteMembers Are a b) → OnOk r (GoesMembers Are ps a ps b)
members_wrote (Ok _) ps a b Are w = (w.0, w.1, goes_adds ps a b (flat_map named_tokens w.0) w.2)
members_wrote (Err _) ps a b Are w = tt

-- an object
pub goes_object : (ps qs : List LinePart) (a b d e : Written) (ms : List Named) → Adds a b (token.begin_object ∷ []) → Goes ps b qs d (flat_map named_tokens ms) → Adds d e (token.end_object ∷ []) → Goes ps a qs e (json_tokens (object (members_of ms)))
goes_object ps qs a b d e ms begun written ended =
    goes_same ps qs a e _ _ (ap (λ (l : List Token). token.begin_object ∷ l) (sym (members_end ms)))
    (goes_both ps ps qs a b e (token.begin_object ∷ []) (object_end ms) (goes_adds ps a b _ begun) (goes_both ps qs qs b d e (flat_map named_tokens ms) (token.end_object ∷ []) written (goes_adds qs d e _ ended)))

-- ---- lines

-- a line of which all was written that a pair is
pub long_line_is : (cs : List Column) (e : RowsEvent) (added ms : List Named) (pair : Pair) (ts us vs : List Token) (line : List ℕ) → Fits added → ts ≡ token.begin_object ∷ named_tokens (codes "op", string (operation_of pair)) →
    us ≡ flat_map named_tokens added → AreImages cs e pair ms → vs ≡ object_end ms → ArePrintableOrBad (ts ++ (us ++ vs)) → line ≡ print (ts ++ (us ++ vs)) ++ codes "\n" → IsLine cs e added pair line
long_line_is cs e added ms pair ts us vs line fits first own are last printable is =
    let at : List Token → Written = λ l. record { before = []; tokens = l; capacity = 0 } in
    let x : Adds (at []) (at ts) (token.begin_object ∷ named_tokens (codes "op", string (operation_of pair))) = record { before = refl; tokens = first } in
    let y : Adds (at ts) (at (ts ++ us)) (flat_map named_tokens added) = record { before = refl; tokens = ap (λ (l : List Token). ts ++ l) own } in
    let z : Adds (at (ts ++ us)) (at (ts ++ (us ++ vs))) (object_end ms) = record { before = refl; tokens = sym (append_assoc ts us vs) ∙ ap (λ (l : List Token). (ts ++ us) ++ l) last } in
    let w : Wrote (IsPairJson cs e added pair) (at []) (at (ts ++ (us ++ vs))) = pair_wrote {E = ℕ} (Ok tt) cs e added pair (at []) (at ts) (at (ts ++ us)) (at (ts ++ (us ++ vs))) x y (ms, are, z) in
    let all : ts ++ (us ++ vs) ≡ json_tokens w.value = w.adds.tokens in
    record {
      value = w.value;
      is = w.is;
      text = is ∙ ap (λ (l : List Token). print l ++ codes "\n") all;
      reads_back = document-print w.value (has_numbers w.value (subst ArePrintableOrBad all printable)) (pair_fits cs e added pair w.value fits w.is);
    }
