-- Digits as ASCII characters.
use Rattle.std.proofs.Common.{◌≡◌, ℕ, zero, suc, ◌+◌, List, [], ◌∷◌, ◌++◌, map, refl, ap, ◌∙◌, lit<, arith}
use Rattle.std.specs.List.{flat_map}
use Rattle.std.specs.Fmt.{decimal}
use Rattle.std.specs.Str.{IsAscii}
use Rattle.std.specs.Int.Digits.{AllBelowBase}
use Rattle.std.proofs.lemmas.Fmt.{decimal_digit}

abbrev pub chars : List ℕ → List ℕ
chars ds = map (λ d. 48 + d) ds

pub glyphs : (ds : List ℕ) → AllBelowBase 10 ds → flat_map decimal ds ≡ chars ds
glyphs [] h = refl
glyphs (d ∷ ds) h = ap (λ (l : List ℕ). l ++ flat_map decimal ds) (decimal_digit d h.0) ∙ ap (λ (l : List ℕ). (48 + d) ∷ l) (glyphs ds h.1)

pub IsAscii-chars : (ds : List ℕ) → AllBelowBase 10 ds → IsAscii (chars ds)
IsAscii-chars [] h k = lit< tt
IsAscii-chars (d ∷ ds) h zero = omega (arith, h.0)
IsAscii-chars (d ∷ ds) h (suc k) = IsAscii-chars ds h.1 k
