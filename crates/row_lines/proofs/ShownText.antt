-- Names are shown as text in which no character is a control character.
use Rattle.std.proofs.Common.{◌≡◌, ◌/◌, ◌%◌, ◌<◌, ◌≤◌, ℕ, zero, suc, Bool, true, false, not, ◌&&◌, List, [], ◌∷◌, ◌++◌, length, drop, codes, slice_index, Option, Some, None, refl, ap, subst, ◌∙◌, append-nil, arith, IsUtf8, encode_utf8, encode_utf8_all, length-drop}
use Rattle.std.specs.Prelude.{◌==◌, if◌then◌else◌}
use Rattle.std.proofs.lemmas.Bool.{agree_below_at, not-true, and_parts, and_from, cond_both, ltb-true}
use Rattle.std.proofs.lemmas.Bool.Decides.{nat_tests}
use Rattle.std.proofs.lemmas.List.Folds.{list_all-append}
use Rattle.std.proofs.lemmas.Str.{encode_ascii, encodes-append}
use Rattle.std.proofs.Math.Utf8.{scalar, scalars}
use Rattle.std.specs.Int.{is_in_range}
use Rattle.std.specs.Str.{NonePass, NoCharPasses}
use Rattle.std.specs.List.{flat_map, list_all}
use Rattle.bstr.specs.Utf8.{decoded, lossy_chars, or_replacement}
use Rattle.bstr.proofs.lemmas.PieceLemmas.{piece-bounds, lossy_chars-step, lossy_chars-nil}
use Rattle.bstr.proofs.lemmas.SoundLemmas.{SpellsChar-decoded}
use Rattle.hex.specs.Hex.{encode_lower, encode_with, lower_digits}
use Rattle.row_lines.specs.Names.{is_control, code_text, shown_character, quoted_character, shown_name, quoted_name, shown_table, quoted_table}

-- ---- text without control characters

abbrev pub is_clean : ℕ → Bool
is_clean c = scalar c && not (is_control c)

pub record IsClean (bs : List ℕ) : Type 0 where
  pub characters : List ℕ
  pub clean : list_all is_clean characters ≡ true
  pub spelt : encode_utf8_all characters ≡ bs

clean_nothing : IsClean []
clean_nothing = record { characters = []; clean = refl; spelt = refl }

clean_both : (xs ys : List ℕ) → IsClean xs → IsClean ys → IsClean (xs ++ ys)
clean_both xs ys a b = record {
  characters = a.characters ++ b.characters;
  clean = list_all-append is_clean a.characters b.characters ∙ and_from _ _ a.clean b.clean;
  spelt = encodes-append a.characters b.characters ∙ ap (λ (t : List ℕ). t ++ encode_utf8_all b.characters) a.spelt ∙ ap (λ (t : List ℕ). xs ++ t) b.spelt;
}

clean_character : (c : ℕ) → scalar c ≡ true → is_control c ≡ false → IsClean (encode_utf8 c)
clean_character c is isnt = record {
  characters = c ∷ [];
  clean = and_from _ _ (and_from _ _ is (ap not isnt)) refl;
  spelt = append-nil (encode_utf8 c);
}

-- ASCII characters from the space to the tilde
abbrev is_printable : ℕ → Bool
is_printable b = is_in_range 32 126 b

clean_ascii : (bs : List ℕ) → list_all is_printable bs ≡ true → IsClean bs
clean_ascii [] h = clean_nothing
clean_ascii (b ∷ bs) h =
    let parts = and_parts (is_printable b) (list_all is_printable bs) h in
    let low : b < 128 = grind (arith, nat_tests) in
    let is : scalar b ≡ true = grind (arith, nat_tests) in
    let no : is_control b ≡ false = grind (arith, nat_tests) in
    let one : IsClean (b ∷ []) = subst IsClean (encode_ascii b low) (clean_character b is no) in
    clean_both (b ∷ []) bs one (clean_ascii bs parts.1)

-- ---- escapes

digit_printable : (k : ℕ) → k < 16 → is_printable (slice_index lower_digits k) ≡ true
digit_printable k h = agree_below_at (λ (n : ℕ). is_printable (slice_index lower_digits n)) (λ (n : ℕ). true) 16 k refl h

clean_byte : (b : ℕ) → b < 256 → IsClean (encode_lower (b ∷ []))
unfolding encode_with
clean_byte b h = clean_ascii _ (and_from _ _ (digit_printable (b / 16) (omega arith)) (and_from _ _ (digit_printable (b % 16) (omega arith)) refl))

clean_two_bytes : (a b : ℕ) → a < 256 → b < 256 → IsClean (encode_lower (a ∷ b ∷ []))
unfolding encode_with
clean_two_bytes a b h k = clean_both _ _ (clean_byte a h) (clean_byte b k)

clean_code : (c : ℕ) → IsClean (code_text c)
clean_code c = cond_both _ _ _ IsClean
    (λ low. clean_both (codes "\\x") _ (clean_ascii _ refl) (clean_byte c (ltb-true c 256 low)))
    (λ high. clean_both (codes "\\u") _ (clean_ascii _ refl) (clean_two_bytes _ _ (omega arith) (omega arith)))

-- what is written for one character and for all others
clean_or : (c d : ℕ) (x y : List ℕ) → IsClean x → IsClean y → IsClean (if c == d then x else y)
clean_or c d x y a b = cond_both (c == d) x y IsClean (λ _. a) (λ _. b)

clean_or_code : (c : ℕ) → scalar c ≡ true → IsClean (if is_control c then code_text c else encode_utf8 c)
clean_or_code c is = cond_both (is_control c) (code_text c) (encode_utf8 c) IsClean (λ _. clean_code c) (λ other. clean_character c is other)

clean_shown : (c : ℕ) → scalar c ≡ true → IsClean (shown_character c)
clean_shown c is =
    clean_or c 9 (codes "\\t") _ (clean_ascii _ refl)
    (clean_or c 10 (codes "\\n") _ (clean_ascii _ refl)
    (clean_or c 13 (codes "\\r") _ (clean_ascii _ refl)
    (clean_or c 92 (codes "\\\\") _ (clean_ascii _ refl) (clean_or_code c is))))

clean_quoted : (c : ℕ) → scalar c ≡ true → IsClean (quoted_character c)
clean_quoted c is = clean_or c 96 (codes "``") (shown_character c) (clean_ascii _ refl) (clean_shown c is)

-- ---- names

clean_all : (f : ℕ → List ℕ) → ((c : ℕ) → scalar c ≡ true → IsClean (f c)) → (cs : List ℕ) → scalars cs ≡ true → IsClean (flat_map f cs)
clean_all f each [] h = clean_nothing
clean_all f each (c ∷ cs) h =
    let parts = and_parts (scalar c) (scalars cs) h in
    clean_both (f c) (flat_map f cs) (each c parts.0) (clean_all f each cs parts.1)

-- what stands for bytes that are no character is one, too
scalar_of : (bs : List ℕ) (o : Option ℕ) → (decoded bs).char ≡ o → scalar (or_replacement o) ≡ true
scalar_of bs None e = refl
scalar_of bs (Some c) e = (SpellsChar-decoded bs c e).scalar

scalars_within : (n : ℕ) (bs : List ℕ) → length bs ≤ n → scalars (lossy_chars bs) ≡ true
scalars_within zero [] h = ap scalars lossy_chars-nil
scalars_within zero (b ∷ bs) h = absurd (omega arith)
scalars_within (suc n) [] h = ap scalars lossy_chars-nil
scalars_within (suc n) (b ∷ bs) h =
    let all = b ∷ bs in
    let some : 0 < length all = omega arith in
    let size = (decoded all).size in
    let shorter : length (drop size all) ≤ n = omega (arith, length-drop size all, (piece-bounds all some).0) in
    ap scalars (lossy_chars-step all some) ∙ and_from _ _ (scalar_of all _ refl) (scalars_within n (drop size all) shorter)

pub scalars_lossy : (bs : List ℕ) → scalars (lossy_chars bs) ≡ true
scalars_lossy bs = scalars_within (length bs) bs (omega arith)

pub clean_shown_name : (name : List ℕ) → IsClean (shown_name name)
clean_shown_name name = clean_all shown_character clean_shown (lossy_chars name) (scalars_lossy name)

pub clean_quoted_name : (name : List ℕ) → IsClean (quoted_name name)
clean_quoted_name name =
    let inside = clean_all quoted_character clean_quoted (lossy_chars name) (scalars_lossy name) in
    cond_both _ _ _ IsClean (λ _. clean_shown_name name)
    (λ _. clean_both (codes "`") _ (clean_ascii _ refl) (clean_both _ (codes "`") inside (clean_ascii _ refl)))

clean_table : (database table : List ℕ) → IsClean database → IsClean table → IsClean (database ++ (codes "." ++ table))
clean_table database table a b = clean_both database _ a (clean_both (codes ".") table (clean_ascii _ refl) b)

scalars_clean : (cs : List ℕ) → list_all is_clean cs ≡ true → scalars cs ≡ true
scalars_clean [] h = refl
scalars_clean (c ∷ cs) h =
    let parts = and_parts (is_clean c) (list_all is_clean cs) h in
    and_from _ _ (and_parts (scalar c) _ parts.0).0 (scalars_clean cs parts.1)

utf8_clean : (bs : List ℕ) → IsClean bs → IsUtf8 bs
utf8_clean bs h = (h.characters, (scalars_clean h.characters h.clean, h.spelt))

pub utf8_shown : (name : List ℕ) → IsUtf8 (shown_name name)
utf8_shown name = utf8_clean _ (clean_shown_name name)

pub utf8_quoted : (name : List ℕ) → IsUtf8 (quoted_name name)
utf8_quoted name = utf8_clean _ (clean_quoted_name name)

pub utf8_shown_table : (database table : List ℕ) → IsUtf8 (shown_table database table)
utf8_shown_table database table = utf8_clean _ (clean_table _ _ (clean_shown_name database) (clean_shown_name table))

pub utf8_quoted_table : (database table : List ℕ) → IsUtf8 (quoted_table database table)
utf8_quoted_table database table = utf8_clean _ (clean_table _ _ (clean_quoted_name database) (clean_quoted_name table))

none_pass : (cs : List ℕ) → list_all is_clean cs ≡ true → NonePass is_control cs
none_pass [] h = tt
none_pass (c ∷ cs) h =
    let parts = and_parts (is_clean c) (list_all is_clean cs) h in
    (not-true (is_control c) (and_parts (scalar c) _ parts.0).1, none_pass cs parts.1)

pub without_controls : (bs : List ℕ) → IsClean bs → NoCharPasses is_control bs
without_controls bs h = (h.characters, h.spelt, none_pass h.characters h.clean)
