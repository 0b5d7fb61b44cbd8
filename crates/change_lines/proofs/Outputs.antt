-- Lemmas on what is written to an output.
use Rattle.std.proofs.Common.{◌≡◌, ℕ, List, [], ◌++◌, Option, sym, ap, ◌∙◌, append_assoc, append-nil}
use Rattle.std.proofs.KnownBytes.{Appends-nil, Appends-trans, Appends-kept}
use Rattle.std.specs.Io.KnownBytes.{Appends, Keeps}
use Rattle.change_lines.specs.Outputs.{Outputs}

pub outputs_nothing : (out : Option (List ℕ)) (held : List ℕ) → Outputs out held [] out held
outputs_nothing out held = ([], Appends-nil out, append-nil held)

pub outputs_held : (out : Option (List ℕ)) (held text left : List ℕ) → left ≡ held ++ text → Outputs out held text out left
outputs_held out held text left is = ([], Appends-nil out, sym is)

pub outputs_more : (a b d : Option (List ℕ)) (held mid left first more : List ℕ) → Outputs a held first b mid → Outputs b mid more d left → Outputs a held (first ++ more) d left
outputs_more a b d held mid left first more h k = (
  h.0 ++ k.0,
  Appends-trans a b d h.0 k.0 h.1 k.1,
  sym (append_assoc held first more) ∙ ap (λ (t : List ℕ). t ++ more) h.2 ∙ append_assoc h.0 mid more ∙ ap (λ (t : List ℕ). h.0 ++ t) k.2 ∙ sym (append_assoc h.0 k.0 left),
)

-- a line was held back, and then perhaps written
pub outputs_line : (a b : Option (List ℕ)) (held line mid left : List ℕ) → mid ≡ held ++ line → Outputs a mid [] b left → Outputs a held line b left
outputs_line a b held line mid left is h = (h.0, h.1, sym is ∙ sym (append-nil mid) ∙ h.2)

-- what was held back was written, and then a line
pub outputs_both : (a b d : Option (List ℕ)) (held line left : List ℕ) → Appends a b held → Appends b d line → left ≡ [] → Outputs a held line d left
outputs_both a b d held line left h k none = (held ++ line, Appends-trans a b d held line h k, sym (append-nil (held ++ line)) ∙ ap (λ (t : List ℕ). (held ++ line) ++ t) (sym none))

-- all that was held back was written
pub outputs_all : (a b d : Option (List ℕ)) (held left : List ℕ) → Appends a b held → Keeps b d → left ≡ [] → Outputs a held [] d left
outputs_all a b d held left h kept none = (held, Appends-kept a b d held h kept, ap (λ (t : List ℕ). held ++ t) (sym none))
