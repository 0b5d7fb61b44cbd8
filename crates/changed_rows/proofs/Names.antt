-- Lemmas on names.
use Rattle.std.proofs.Common.{◌≡◌, ◌≤◌, get_or, ℕ, List, [], ◌∷◌, ◌++◌, length, take, drop, refl, sym, ap, ◌∙◌, arith}
use Rattle.std.proofs.lemmas.List.{take-append-drop, length-map, map-append}
use Rattle.std.specs.Prelude.{◌&&◌, bytes_eq}
use Rattle.std.specs.Char.{to_ascii_lowercase}
use Rattle.std.specs.Str.{str_eq_ignore_ascii_case, str_to_ascii_lowercase}

pub eq_append : (a b x y : List ℕ) → length a ≡ length b → bytes_eq (a ++ x) (b ++ y) ≡ (bytes_eq a b && bytes_eq x y)
eq_append [] [] x y same = refl
eq_append [] (k ∷ b) x y same = absurd (omega (arith, same))
eq_append (k ∷ a) [] x y same = absurd (omega (arith, same))
eq_append (k ∷ a) (l ∷ b) x y same =
    let more = eq_append a b x y (omega (arith, same)) in
    grind (arith, more)

-- a text is compared in two parts
pub split_eq : (text front rest name more : List ℕ) → front ≡ take (length name) text → rest ≡ drop (length name) text → length front ≡ length name → bytes_eq text (name ++ more) ≡ (bytes_eq front name && bytes_eq rest more)
split_eq text front rest name more is_front is_rest same =
    let whole : text ≡ front ++ rest = rw (is_front, is_rest) (sym (take-append-drop (length name) text)) in
    ap (λ t. bytes_eq t (name ++ more)) whole ∙ eq_append front name rest more same

-- ---- names in any case

pub split_alike : (text front rest name more : List ℕ) → front ≡ take (length name) text → rest ≡ drop (length name) text → length front ≡ length name → str_eq_ignore_ascii_case text (name ++ more) ≡ (str_eq_ignore_ascii_case front name && str_eq_ignore_ascii_case rest more)
split_alike text front rest name more is_front is_rest same =
    let whole : text ≡ front ++ rest = rw (is_front, is_rest) (sym (take-append-drop (length name) text)) in
    let lower = str_to_ascii_lowercase in
    let lengths : length (lower front) ≡ length (lower name) = length-map front to_ascii_lowercase ∙ same ∙ sym (length-map name to_ascii_lowercase) in
    ap (λ t. str_eq_ignore_ascii_case t (name ++ more)) whole
    ∙ ap (λ t. bytes_eq t (lower (name ++ more))) (map-append to_ascii_lowercase front rest)
    ∙ ap (λ t. bytes_eq (lower front ++ lower rest) t) (map-append to_ascii_lowercase name more)
    ∙ eq_append (lower front) (lower name) (lower rest) (lower more) lengths

-- a text that begins with a point, which is the same in any case
pub point_alike : (text table : List ℕ) → 1 ≤ length text → get_or text 0 0 ≡ 46 → str_eq_ignore_ascii_case text (46 ∷ table) ≡ str_eq_ignore_ascii_case (drop 1 text) table
point_alike [] table h k = absurd (omega (arith, h))
point_alike (c ∷ cs) table h k = ap (λ (x : ℕ). str_eq_ignore_ascii_case (x ∷ cs) (46 ∷ table)) k
