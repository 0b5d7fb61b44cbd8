-- Names of ASCII letters, digits, `_`, `$` and `@` are shown as they are.
use Rattle.std.proofs.Common.{◌≡◌, ◌<◌, ℕ, true, List, [], ◌∷◌, ◌++◌, refl, sym, ap, ◌∙◌, arith, encode_utf8, encode_utf8_all}
use Rattle.std.proofs.lemmas.Bool.{and_parts, and_from, cond-true}
use Rattle.std.proofs.lemmas.Bool.Decides.{nat_tests}
use Rattle.std.proofs.lemmas.Str.{encode_ascii}
use Rattle.std.proofs.Math.Utf8.{scalar, scalars}
use Rattle.std.specs.List.{flat_map, list_all}
use Rattle.bstr.specs.Utf8.{lossy_chars}
use Rattle.bstr.proofs.lemmas.EncodeLemmas.{lossy_chars-encode}
use Rattle.row_lines.specs.Names.{is_ascii_bare, is_bare, shown_character, shown_name, quoted_name}

module _ (b : ℕ) (h : is_ascii_bare b ≡ true) where
  bare_low : b < 128
  bare_low = grind (arith, nat_tests)

  bare_scalar : scalar b ≡ true
  bare_scalar = grind (arith, nat_tests)

  bare_is : is_bare b ≡ true
  bare_is = grind (arith, nat_tests)

  bare_encoded : encode_utf8 b ≡ b ∷ []
  bare_encoded = encode_ascii b bare_low

  bare_character : shown_character b ≡ encode_utf8 b
  bare_character = grind (arith, nat_tests)

encoded : (bs : List ℕ) → list_all is_ascii_bare bs ≡ true → encode_utf8_all bs ≡ bs
encoded [] h = refl
encoded (b ∷ bs) h =
    let parts = and_parts (is_ascii_bare b) (list_all is_ascii_bare bs) h in
    ap (λ (t : List ℕ). t ++ encode_utf8_all bs) (bare_encoded b parts.0) ∙ ap (λ (t : List ℕ). b ∷ t) (encoded bs parts.1)

are_scalars : (bs : List ℕ) → list_all is_ascii_bare bs ≡ true → scalars bs ≡ true
are_scalars [] h = refl
are_scalars (b ∷ bs) h =
    let parts = and_parts (is_ascii_bare b) (list_all is_ascii_bare bs) h in
    and_from _ _ (bare_scalar b parts.0) (are_scalars bs parts.1)

are_bare : (bs : List ℕ) → list_all is_ascii_bare bs ≡ true → list_all is_bare bs ≡ true
are_bare [] h = refl
are_bare (b ∷ bs) h =
    let parts = and_parts (is_ascii_bare b) (list_all is_ascii_bare bs) h in
    and_from _ _ (bare_is b parts.0) (are_bare bs parts.1)

shown : (bs : List ℕ) → list_all is_ascii_bare bs ≡ true → flat_map shown_character bs ≡ bs
shown [] h = refl
shown (b ∷ bs) h =
    let parts = and_parts (is_ascii_bare b) (list_all is_ascii_bare bs) h in
    ap (λ (t : List ℕ). t ++ flat_map shown_character bs) (bare_character b parts.0 ∙ bare_encoded b parts.0) ∙ ap (λ (t : List ℕ). b ∷ t) (shown bs parts.1)

pub quoted_bare : (name : List ℕ) → list_all is_ascii_bare name ≡ true → quoted_name name ≡ name
quoted_bare name h =
    let same : lossy_chars name ≡ name = ap lossy_chars (sym (encoded name h)) ∙ lossy_chars-encode name (are_scalars name h) in
    cond-true _ (shown_name name) _ (ap (list_all is_bare) same ∙ are_bare name h) ∙ ap (flat_map shown_character) same ∙ shown name h
