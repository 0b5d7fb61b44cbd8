-- Names that are shown alike are the same.
use Rattle.std.proofs.Common.{◌≡◌, ◌+◌, ◌*◌, ◌/◌, ◌%◌, ◌<◌, ℕ, suc, true, false, List, [], ◌∷◌, ◌++◌, length, codes, slice_index, Option, unwrap_or, inl, inr, refl, sym, ap, subst, ◌∙◌, append_assoc, append-nil, length-append, arith, encode_utf8, encode_utf8_all}
use Rattle.std.specs.Prelude.{◌==◌, ◌↔◌, if◌then◌else◌}
use Rattle.std.proofs.lemmas.Bool.{true≢false, and_parts, cases_eq, cases_lt, cases_Bool, cond-true, cond-false, cond_both, ne_eqb, eqb-true, eqb-false, ltb-true}
use Rattle.std.proofs.lemmas.Bool.Decides.{nat_tests}
use Rattle.std.proofs.lemmas.List.{nil_from_length}
use Rattle.std.proofs.lemmas.Str.{char_from_byte, encode_same, encodes_same}
use Rattle.std.specs.Int.{w16, to_be_bytes}
use Rattle.std.specs.List.{flat_map, list_all}
use Rattle.std.specs.Str.Lossy.{utf8_lossy}
use Rattle.bstr.specs.Utf8.{lossy_chars}
use Rattle.bstr.proofs.lemmas.LossyLemmas.{lossy_chars-utf8_lossy}
use Rattle.hex.specs.Hex.{encode_lower, encode_with, hex_digit_value, lower_digits}
use Rattle.hex.proofs.HexLemmas.{IsDigits-lower_digits}
use Rattle.row_lines.specs.Names.{is_control, code_text, shown_character, quoted_character, shown_name, quoted_name, is_bare}

-- ---- what an escape says, by its letter and by the bytes after that

abbrev digit_at : List ℕ → ℕ → ℕ
digit_at bs i = unwrap_or (hex_digit_value (slice_index bs i)) 0

abbrev byte_in : List ℕ → ℕ → ℕ
byte_in bs i = digit_at bs i * 16 + digit_at bs (i + 1)

abbrev width_of : ℕ → ℕ
width_of letter = if letter == 120 then 2 else if letter == 117 then 4 else 0

abbrev meaning : ℕ → List ℕ → ℕ
meaning letter bs =
    if letter == 116 then 9
    else if letter == 110 then 10
    else if letter == 114 then 13
    else if letter == 92 then 92
    else if letter == 120 then byte_in bs 0
    else byte_in bs 0 * 256 + byte_in bs 2

-- a character stands for itself, or it has an escape
data Shape (c : ℕ) (bs : List ℕ) : Type 0 where
  itself : (c ≡ 92 → ⊥) → bs ≡ encode_utf8 c → Shape c bs
  escape : (letter : ℕ) (digits : List ℕ) → bs ≡ 92 ∷ letter ∷ digits → length digits ≡ width_of letter → ((rest : List ℕ) → meaning letter (digits ++ rest) ≡ c) → Shape c bs

digit_back : (k : ℕ) → k < 16 → unwrap_or (hex_digit_value (slice_index lower_digits k)) 0 ≡ k
digit_back k h = ap (λ (o : Option ℕ). unwrap_or o 0) (IsDigits-lower_digits k h)

shape_code : (c : ℕ) → c < 65536 → Shape c (code_text c)
unfolding encode_with
shape_code c h = cond_both _ _ _ (Shape c)
    (λ low.
    let below : c < 256 = ltb-true c 256 low in
    let a = digit_back (c / 16) (omega arith) in
    let b = digit_back (c % 16) (omega arith) in
    escape 120 (encode_lower (c ∷ [])) refl refl (λ rest. rw (a, b) (omega arith)))
    (λ high.
    let a = digit_back (c / 256 % 256 / 16) (omega arith) in
    let b = digit_back (c / 256 % 256 % 16) (omega arith) in
    let d = digit_back (c % 256 / 16) (omega arith) in
    let e = digit_back (c % 256 % 16) (omega arith) in
    escape 117 (encode_lower (to_be_bytes w16 c)) refl refl (λ rest. rw (a, b, d, e) (omega arith)))

shape_or : (c d : ℕ) (x y : List ℕ) → (c ≡ d → Shape c x) → ((c ≡ d → ⊥) → Shape c y) → Shape c (if c == d then x else y)
shape_or c d x y a b = cond_both (c == d) x y (Shape c) (λ h. a (eqb-true c d h)) (λ h. b (eqb-false c d h))

shape_or_code : (c : ℕ) → (c ≡ 92 → ⊥) → Shape c (if is_control c then code_text c else encode_utf8 c)
shape_or_code c h = cond_both (is_control c) (code_text c) (encode_utf8 c) (Shape c)
    (λ yes. let below : c < 65536 = grind (arith, nat_tests) in shape_code c below)
    (λ other. itself h refl)

shape : (c : ℕ) → Shape c (shown_character c)
shape c =
    shape_or c 9 (codes "\\t") _ (λ h. escape 116 [] refl refl (λ rest. sym h)) (λ _.
    shape_or c 10 (codes "\\n") _ (λ h. escape 110 [] refl refl (λ rest. sym h)) (λ _.
    shape_or c 13 (codes "\\r") _ (λ h. escape 114 [] refl refl (λ rest. sym h)) (λ _.
    shape_or c 92 (codes "\\\\") _ (λ h. escape 92 [] refl refl (λ rest. sym h)) (λ h. shape_or_code c h))))

-- ---- characters are told apart, whatever follows them

-- what begins with an ASCII byte begins with that character
begins : (c b : ℕ) (rest more : List ℕ) → encode_utf8 c ++ rest ≡ b ∷ more → b < 128 → c ≡ b
begins c b rest more e low = char_from_byte (b ∷ more) rest c (sym e) low (omega arith)

split_same : (xs ys r t : List ℕ) → length xs ≡ length ys → xs ++ r ≡ ys ++ t → r ≡ t
split_same [] [] r t n e = e
split_same [] (y ∷ ys) r t n e = absurd (omega arith)
split_same (x ∷ xs) [] r t n e = absurd (omega arith)
split_same (x ∷ xs) (y ∷ ys) r t n e =
    let less : length xs ≡ length ys = omega arith in
    let tails : xs ++ r ≡ ys ++ t = cc in
    split_same xs ys r t less tails

told_apart : (c d : ℕ) (x y r t : List ℕ) → Shape c x → Shape d y → x ++ r ≡ y ++ t → (c ≡ d) × (r ≡ t)
told_apart c d x y r t (itself h is) (itself k at) e =
    encode_same c d r t (ap (λ (s : List ℕ). s ++ r) (sym is) ∙ e ∙ ap (λ (s : List ℕ). s ++ t) at)
told_apart c d x y r t (itself h is) (escape letter digits at width says) e =
    absurd (h (begins c 92 r _ (ap (λ (s : List ℕ). s ++ r) (sym is) ∙ e ∙ ap (λ (s : List ℕ). s ++ t) at) (omega arith)))
told_apart c d x y r t (escape letter digits is width says) (itself k at) e =
    absurd (k (begins d 92 t _ (ap (λ (s : List ℕ). s ++ t) (sym at) ∙ sym e ∙ ap (λ (s : List ℕ). s ++ r) is) (omega arith)))
told_apart c d x y r t (escape l ls is m p) (escape k ks at n q) e =
    let whole : 92 ∷ l ∷ (ls ++ r) ≡ 92 ∷ k ∷ (ks ++ t) = ap (λ (s : List ℕ). s ++ r) (sym is) ∙ e ∙ ap (λ (s : List ℕ). s ++ t) at in
    let letters : l ≡ k = cc in
    let rests : ls ++ r ≡ ks ++ t = cc in
    let lengths : length ls ≡ length ks = m ∙ ap width_of letters ∙ sym n in
    (sym (p r) ∙ ap (λ (a : ℕ). meaning a (ls ++ r)) letters ∙ ap (meaning k) rests ∙ q t, split_same ls ks r t lengths rests)

shown_apart : (c d : ℕ) (r t : List ℕ) → shown_character c ++ r ≡ shown_character d ++ t → (c ≡ d) × (r ≡ t)
shown_apart c d r t e = told_apart c d _ _ r t (shape c) (shape d) e

-- what begins with a backquote is a backquote
shape_backquote : (c : ℕ) (x r more : List ℕ) → Shape c x → x ++ r ≡ 96 ∷ more → c ≡ 96
shape_backquote c x r more (itself h is) e = begins c 96 r more (ap (λ (s : List ℕ). s ++ r) (sym is) ∙ e) (omega arith)
shape_backquote c x r more (escape letter digits is width says) e =
    let whole : 92 ∷ letter ∷ (digits ++ r) ≡ 96 ∷ more = ap (λ (s : List ℕ). s ++ r) (sym is) ∙ e in
    absurd (omega (arith, ap (λ (s : List ℕ). slice_index s 0) whole))

shown_backquote : (c : ℕ) (r more : List ℕ) → shown_character c ++ r ≡ 96 ∷ more → c ≡ 96
shown_backquote c r more e = shape_backquote c _ r more (shape c) e

quoted_at : (c : ℕ) → c ≡ 96 → quoted_character c ≡ codes "``"
quoted_at c h = rw h

quoted_other : (c : ℕ) → (c ≡ 96 → ⊥) → quoted_character c ≡ shown_character c
quoted_other c h = cond-false (c == 96) (codes "``") (shown_character c) (ne_eqb c 96 h)

quoted_apart : (c d : ℕ) (r t : List ℕ) → quoted_character c ++ r ≡ quoted_character d ++ t → (c ≡ d) × (r ≡ t)
quoted_apart c d r t e = elim (cases_eq c 96) [
  | inl h ↦ elim (cases_eq d 96) [
    | inl k ↦
        let whole : 96 ∷ 96 ∷ r ≡ 96 ∷ 96 ∷ t = ap (λ (s : List ℕ). s ++ r) (sym (quoted_at c h)) ∙ e ∙ ap (λ (s : List ℕ). s ++ t) (quoted_at d k) in
        (h ∙ sym k, (cc))
    | inr k ↦
        let whole : shown_character d ++ t ≡ 96 ∷ 96 ∷ r = ap (λ (s : List ℕ). s ++ t) (sym (quoted_other d k)) ∙ sym e ∙ ap (λ (s : List ℕ). s ++ r) (quoted_at c h) in
        absurd (k (shown_backquote d t (96 ∷ r) whole))
  ]
  | inr h ↦ elim (cases_eq d 96) [
    | inl k ↦
        let whole : shown_character c ++ r ≡ 96 ∷ 96 ∷ t = ap (λ (s : List ℕ). s ++ r) (sym (quoted_other c h)) ∙ e ∙ ap (λ (s : List ℕ). s ++ t) (quoted_at d k) in
        absurd (h (shown_backquote c r (96 ∷ t) whole))
    | inr k ↦ shown_apart c d r t (ap (λ (s : List ℕ). s ++ r) (sym (quoted_other c h)) ∙ e ∙ ap (λ (s : List ℕ). s ++ t) (quoted_other d k))
  ]
]

-- ---- so are names

abbrev AreToldApart : (ℕ → List ℕ) → Type 0
AreToldApart f = (c d : ℕ) (r t : List ℕ) → f c ++ r ≡ f d ++ t → (c ≡ d) × (r ≡ t)

-- a character takes a byte at least, or the next number would be the same
some_byte : (f : ℕ → List ℕ) → AreToldApart f → (c : ℕ) → 0 < length (f c)
some_byte f apart c = elim (cases_lt 0 (length (f c))) [
  | inl some ↦ some
  | inr none ↦
      let empty : f c ≡ [] = nil_from_length (f c) (omega arith) in
      let same : c ≡ suc c = (apart c (suc c) (f (suc c)) [] (ap (λ (s : List ℕ). s ++ f (suc c)) empty ∙ sym (append-nil (f (suc c))))).0 in
      absurd (omega arith)
]

-- characters that have the same text before the same end
all_apart : (f : ℕ → List ℕ) → AreToldApart f → (cs ds end : List ℕ) → flat_map f cs ++ end ≡ flat_map f ds ++ end → cs ≡ ds
all_apart f apart [] [] end e = refl
all_apart f apart [] (d ∷ ds) end e =
    absurd (omega (arith, some_byte f apart d, ap length e, length-append (f d ++ flat_map f ds) end, length-append (f d) (flat_map f ds)))
all_apart f apart (c ∷ cs) [] end e =
    absurd (omega (arith, some_byte f apart c, ap length e, length-append (f c ++ flat_map f cs) end, length-append (f c) (flat_map f cs)))
all_apart f apart (c ∷ cs) (d ∷ ds) end e =
    let both = apart c d (flat_map f cs ++ end) (flat_map f ds ++ end) (sym (append_assoc (f c) (flat_map f cs) end) ∙ e ∙ append_assoc (f d) (flat_map f ds) end) in
    ap (λ (x : ℕ). x ∷ cs) both.0 ∙ ap (λ (xs : List ℕ). d ∷ xs) (all_apart f apart cs ds end both.1)

shown_chars : (cs ds : List ℕ) → flat_map shown_character cs ≡ flat_map shown_character ds → cs ≡ ds
shown_chars cs ds e = all_apart shown_character shown_apart cs ds [] (append-nil (flat_map shown_character cs) ∙ e ∙ sym (append-nil (flat_map shown_character ds)))

-- what stands bare doesn't begin with a backquote
bare_begins : (cs more : List ℕ) → list_all is_bare cs ≡ true → flat_map shown_character cs ≡ 96 ∷ more → ⊥
bare_begins [] more h e = cc
bare_begins (c ∷ cs) more h e =
    let is : is_bare c ≡ true = (and_parts (is_bare c) (list_all is_bare cs) h).0 in
    let at : c ≡ 96 = shown_backquote c (flat_map shown_character cs) more e in
    let quoted : is_bare 96 ≡ true = subst (λ (x : ℕ). is_bare x ≡ true) at is in
    true≢false (sym quoted)

abbrev quoted_chars : List ℕ → List ℕ
quoted_chars cs = if list_all is_bare cs then flat_map shown_character cs else codes "`" ++ (flat_map quoted_character cs ++ codes "`")

bare_text : (cs : List ℕ) → list_all is_bare cs ≡ true → quoted_chars cs ≡ flat_map shown_character cs
bare_text cs h = cond-true (list_all is_bare cs) (flat_map shown_character cs) _ h

backquoted_text : (cs : List ℕ) → list_all is_bare cs ≡ false → quoted_chars cs ≡ 96 ∷ (flat_map quoted_character cs ++ codes "`")
backquoted_text cs h = cond-false (list_all is_bare cs) (flat_map shown_character cs) (codes "`" ++ (flat_map quoted_character cs ++ codes "`")) h

quoted_same : (cs ds : List ℕ) → quoted_chars cs ≡ quoted_chars ds → cs ≡ ds
quoted_same cs ds e = elim (cases_Bool (list_all is_bare cs)) [
  | inl h ↦ elim (cases_Bool (list_all is_bare ds)) [
    | inl k ↦ shown_chars cs ds (sym (bare_text cs h) ∙ e ∙ bare_text ds k)
    | inr k ↦ absurd (bare_begins cs _ h (sym (bare_text cs h) ∙ e ∙ backquoted_text ds k))
  ]
  | inr h ↦ elim (cases_Bool (list_all is_bare ds)) [
    | inl k ↦ absurd (bare_begins ds _ k (sym (bare_text ds k) ∙ sym e ∙ backquoted_text cs h))
    | inr k ↦
        let whole : 96 ∷ (flat_map quoted_character cs ++ codes "`") ≡ 96 ∷ (flat_map quoted_character ds ++ codes "`") = sym (backquoted_text cs h) ∙ e ∙ backquoted_text ds k in
        let inside : flat_map quoted_character cs ++ codes "`" ≡ flat_map quoted_character ds ++ codes "`" = cc in
        all_apart quoted_character quoted_apart cs ds (codes "`") inside
  ]
]

-- the same characters, the same name after U+FFFD, and back
lossy_same : (a b : List ℕ) → lossy_chars a ≡ lossy_chars b → utf8_lossy a ≡ utf8_lossy b
lossy_same a b e = sym (lossy_chars-utf8_lossy a) ∙ ap encode_utf8_all e ∙ lossy_chars-utf8_lossy b

chars_same : (a b : List ℕ) → utf8_lossy a ≡ utf8_lossy b → lossy_chars a ≡ lossy_chars b
chars_same a b e = encodes_same (lossy_chars a) (lossy_chars b) (lossy_chars-utf8_lossy a ∙ e ∙ sym (lossy_chars-utf8_lossy b))

pub shown_tell : (a b : List ℕ) → (shown_name a ≡ shown_name b) ↔ (utf8_lossy a ≡ utf8_lossy b)
shown_tell a b = (
  λ e. lossy_same a b (shown_chars (lossy_chars a) (lossy_chars b) e),
  λ e. ap (flat_map shown_character) (chars_same a b e),
)

pub quoted_tell : (a b : List ℕ) → (quoted_name a ≡ quoted_name b) ↔ (utf8_lossy a ≡ utf8_lossy b)
quoted_tell a b = (
  λ e. lossy_same a b (quoted_same (lossy_chars a) (lossy_chars b) e),
  λ e. ap quoted_chars (chars_same a b e),
)
