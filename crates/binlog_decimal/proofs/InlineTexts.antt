-- The text that several calls write to an `InlineText`, one after the other.
use Rattle.std.proofs.Common.{◌≡◌, ℕ, List, [], ◌∷◌, ◌++◌, ap, sym, subst, ◌∙◌, append_assoc, append-nil}
use Rattle.std.specs.List.{FoldsTo, concat}
use Rattle.std.specs.Fmt.InlineText.{IsIntact, AppendsIfIntact, inline_text}
use Rattle.std.specs.declared.fmt.InlineText.{InlineText}

pub all_written : {n : ℕ} (w v : InlineText n) (parts : List (List ℕ)) → FoldsTo AppendsIfIntact w parts v → IsIntact w → IsIntact v × (inline_text v ≡ inline_text w ++ concat parts)
all_written w v [] h i = (subst IsIntact h i, ap inline_text (sym h) ∙ sym (append-nil (inline_text w)))
all_written w v (part ∷ parts) h i =
    let first = h.1 i in
    let rest = all_written h.0 v parts h.2 first.0 in
    (rest.0, rest.1 ∙ ap (λ (l : List ℕ). l ++ concat parts) first.1 ∙ append_assoc (inline_text w) part (concat parts))
