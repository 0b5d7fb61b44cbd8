-- Lemmas on the lines of rows.
use Rattle.std.proofs.Common.{◌≡◌, ◌+◌, ℕ, suc, List, [], ◌∷◌, ◌++◌, length, refl, sym, ap, subst, ◌∙◌, append_assoc, append-nil, arith}
use Rattle.mysql_binlog_rows.specs.Images.{Pair}
use Rattle.change_lines.specs.Rows.{AreLinesBy}

pub line_more : (Is : ℕ → Pair → List ℕ → Type 0) (row : ℕ) (ps : List Pair) (text : List ℕ) (p : Pair) (line : List ℕ) (n : ℕ) → AreLinesBy Is row ps text → n ≡ row + length ps → Is n p line → AreLinesBy Is row (ps ++ p ∷ []) (text ++ line)
line_more Is row [] text p line n none at is =
    let here : n ≡ row = omega (arith, at) in
    (line, [], subst (λ (k : ℕ). Is k p line) here is, refl, ap (λ (t : List ℕ). t ++ line) none ∙ sym (append-nil line))
line_more Is row (q ∷ ps) text p line n h at is = (
  h.0,
  h.1 ++ line,
  h.2,
  line_more Is (suc row) ps h.1 p line n h.3 (omega (arith, at)) is,
  ap (λ (t : List ℕ). t ++ line) h.4 ∙ append_assoc h.0 h.1 line,
)

pub lines_weaker : (Is Be : ℕ → Pair → List ℕ → Type 0) → ((row : ℕ) (p : Pair) (line : List ℕ) → Is row p line → Be row p line) → (row : ℕ) (ps : List Pair) (text : List ℕ) → AreLinesBy Is row ps text → AreLinesBy Be row ps text
lines_weaker Is Be to row [] text h = h
lines_weaker Is Be to row (p ∷ ps) text h = (h.0, h.1, to row p h.0 h.2, lines_weaker Is Be to (suc row) ps h.1 h.3, h.4)

pub no_lines : (row : ℕ) (ps : List Pair) → AreLinesBy (λ row p line. line ≡ []) row ps []
no_lines row [] = refl
no_lines row (p ∷ ps) = ([], [], refl, no_lines (suc row) ps, refl)
