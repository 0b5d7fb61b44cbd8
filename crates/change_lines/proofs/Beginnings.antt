-- What was written of bytes.
use Rattle.std.proofs.Common.{refl, ◌≡◌, ℕ, List, [], ◌∷◌, ◌++◌, length, take, drop, Option, Some, None, sym, ap, ◌∙◌, append_assoc, append-nil, take-append-drop, subst, arith}
use Rattle.std.specs.Io.KnownBytes.{Appends, Keeps}
use Rattle.std.proofs.KnownBytes.{Appends-nil, Appends-trans}
use Rattle.change_lines.specs.Outputs.{AppendsFirst}

pub kept_as_nothing : (a b : Option (List ℕ)) → Keeps a b → Appends a b []
kept_as_nothing None b h = tt
kept_as_nothing (Some x) None h = absurd h
kept_as_nothing (Some x) (Some y) h = h ∙ sym (append-nil x)

pub nothing_as_kept : (a b : Option (List ℕ)) → Appends a b [] → Keeps a b
nothing_as_kept None b h = tt
nothing_as_kept (Some x) None h = absurd h
nothing_as_kept (Some x) (Some y) h = h ∙ append-nil x

-- What was written of bytes so far, and what is left of them.
abbrev pub WroteSoFar : Option (List ℕ) → Option (List ℕ) → List ℕ → List ℕ → Type 0
WroteSoFar old new bytes rest = (front : List ℕ) × Appends old new front × (bytes ≡ front ++ rest)

pub wrote_some : (a b d : Option (List ℕ)) (bytes rest : List ℕ) (n : ℕ) → WroteSoFar a b bytes rest → Appends b d (take n rest) → WroteSoFar a d bytes (drop n rest)
wrote_some a b d bytes rest n h k = (
  h.0 ++ take n rest,
  Appends-trans a b d h.0 (take n rest) h.1 k,
  h.2 ∙ ap (λ (t : List ℕ). h.0 ++ t) (sym (take-append-drop n rest)) ∙ sym (append_assoc h.0 (take n rest) (drop n rest)),
)

-- a beginning was written before a call that wrote nothing
pub wrote_first : (a b d : Option (List ℕ)) (bytes rest : List ℕ) → WroteSoFar a b bytes rest → Keeps b d → AppendsFirst a d bytes
wrote_first a b d bytes rest h k = let more = wrote_some a b d bytes rest 0 h (kept_as_nothing b d k) in (more.0, rest, more.1, more.2)

-- all was written where nothing is left
pub wrote_all : (a b : Option (List ℕ)) (bytes rest : List ℕ) → WroteSoFar a b bytes rest → length rest ≡ 0 → Appends a b bytes
wrote_all a b bytes [] h none = subst (λ (t : List ℕ). Appends a b t) (sym (h.2 ∙ append-nil h.0)) h.1
wrote_all a b bytes (x ∷ rest) h none = absurd (omega (arith, none))

-- ---- pieces

pub wrote_next : (a b d : Option (List ℕ)) (bytes piece rest : List ℕ) → WroteSoFar a b bytes (piece ++ rest) → Appends b d piece → WroteSoFar a d bytes rest
wrote_next a b d bytes piece rest h k = (h.0 ++ piece, Appends-trans a b d h.0 piece h.1 k, h.2 ∙ sym (append_assoc h.0 piece rest))

-- a beginning of a piece was written
pub wrote_part : (a b d : Option (List ℕ)) (bytes piece rest : List ℕ) → WroteSoFar a b bytes (piece ++ rest) → AppendsFirst b d piece → AppendsFirst a d bytes
wrote_part a b d bytes piece rest h k =
    let joined : h.0 ++ ((k.0 ++ k.1) ++ rest) ≡ (h.0 ++ k.0) ++ (k.1 ++ rest) = simp append_assoc in
    (h.0 ++ k.0, k.1 ++ rest, Appends-trans a b d h.0 k.0 h.1 k.2, h.2 ∙ ap (λ (t : List ℕ). h.0 ++ (t ++ rest)) k.3 ∙ joined)

pub wrote_up_to : (a b : Option (List ℕ)) (bytes rest : List ℕ) → WroteSoFar a b bytes rest → AppendsFirst a b bytes
wrote_up_to a b bytes rest h = (h.0, rest, h.1, h.2)

pub wrote_nothing : (a : Option (List ℕ)) (bytes : List ℕ) → WroteSoFar a a bytes bytes
wrote_nothing a bytes = ([], Appends-nil a, refl)

pub wrote_it : (a b : Option (List ℕ)) (bytes rest : List ℕ) → WroteSoFar a b bytes rest → rest ≡ [] → Appends a b bytes
wrote_it a b bytes rest h none = wrote_all a b bytes rest h (ap length none)
