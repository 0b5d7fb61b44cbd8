-- Texts of latin1 read back as their bytes.
use Rattle.std.proofs.Common.{◌≡◌, ℕ, suc, ◌+◌, ◌<◌, true, List, [], ◌∷◌, ◌++◌, length, refl, sym, ap, ◌∙◌, arith}
use Rattle.std.specs.Prelude.{◌==◌, slice_index, position, Option, Some, None, encode_utf8}
use Rattle.std.proofs.lemmas.Bool.{agree_below, agree_below_at, eqb-true}
use Rattle.std.proofs.lemmas.Str.{encode_same, length-encode, len_utf8_bounds}
use Rattle.std.proofs.lemmas.List.{length-append}
use Rattle.row_json.specs.Charsets.{windows_characters, latin1_character, latin1_text}

-- the byte of a character
byte_at : ℕ → Option ℕ → ℕ
byte_at c None = c
byte_at c (Some place) = 128 + place

byte_of : ℕ → ℕ
unfolding byte_at
byte_of c = byte_at c (position (λ w. w == c) windows_characters)

all_read_back : agree_below (λ b. byte_of (latin1_character b) == b) (λ b. true) 256 ≡ true
unfolding byte_of byte_at
all_read_back = refl

reads_back : (b : ℕ) → b < 256 → byte_of (latin1_character b) ≡ b
reads_back b h = eqb-true (byte_of (latin1_character b)) b (agree_below_at (λ b. byte_of (latin1_character b) == b) (λ b. true) 256 b all_read_back h)

same_characters : (x y : ℕ) → x < 256 → y < 256 → latin1_character x ≡ latin1_character y → x ≡ y
same_characters x y hx hy e = sym (reads_back x hx) ∙ (ap byte_of e ∙ reads_back y hy)

no_character : (c : ℕ) (rest : List ℕ) → [] ≡ encode_utf8 c ++ rest → ⊥
no_character c rest e = omega (arith, ap length e, length-append (encode_utf8 c) rest, length-encode c, len_utf8_bounds c)

pub latin1_text_injective : (xs ys : List ℕ) → ((i : ℕ) → slice_index xs i < 256) → ((i : ℕ) → slice_index ys i < 256) → latin1_text xs ≡ latin1_text ys → xs ≡ ys
latin1_text_injective [] [] hx hy e = refl
latin1_text_injective [] (y ∷ ys) hx hy e = absurd (no_character (latin1_character y) (latin1_text ys) e)
latin1_text_injective (x ∷ xs) [] hx hy e = absurd (no_character (latin1_character x) (latin1_text xs) (sym e))
latin1_text_injective (x ∷ xs) (y ∷ ys) hx hy e =
    let same = encode_same (latin1_character x) (latin1_character y) (latin1_text xs) (latin1_text ys) e in
    let head : x ≡ y = same_characters x y (hx 0) (hy 0) same.0 in
    let tail : xs ≡ ys = latin1_text_injective xs ys (λ i. hx (suc i)) (λ i. hy (suc i)) same.1 in
    cc
