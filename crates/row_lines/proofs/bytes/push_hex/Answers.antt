use Rattle.std.proofs.Common.{◌≡◌, List, ℕ, [], ◌++◌, sym, ap, ◌∙◌, append_assoc, append-nil, rules}
use Rattle.std.proofs.lemmas.List.{take-append-drop, nil_from_length}
use Rattle.hex.specs.Hex.{encode_lower, lower_digits}
use Rattle.row_lines.proofs.Digits.{encode-append, encode-nothing}
use Rattle.row_lines.proofs.Kept.{keeps_then}
use Rattle.row_lines.proofs.bytes.push_hex.Goals as goal

pub loop-left-preserved : goal.loop-left-preserved
loop-left-preserved c =
    let chunk = c.split_at.result.0.now in
    let rest = c.split_at.result.1.now in
    let before = c.loop-left.buf.items in
    let parts : chunk ++ rest ≡ c.loop-left.left.now = rw (c.split_at.ensures.front, c.split_at.ensures.back) (take-append-drop c.min.result c.loop-left.left.now) in (
      rw c.in_ok-push_chunk.ensures.added (append_assoc before (encode_lower chunk) (encode_lower rest)
          ∙ ap (λ (t : List ℕ). before ++ t) (sym (encode-append lower_digits chunk rest) ∙ ap encode_lower parts)
          ∙ c.loop-left.invariant.0),
      keeps_then _ _ _ c.loop-left.invariant.1 c.push_chunk.ensures.kept,
    )

pub returns-clause-added : goal.returns-clause-added
returns-clause-added c =
    let none : c.loop-left.left.now ≡ [] = nil_from_length _ (search rules) in
    rw (none, encode-nothing, append-nil) at c.loop-left.invariant.0
