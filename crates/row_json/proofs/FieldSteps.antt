-- Members that are written one after the other.
use Rattle.std.proofs.Common.{◌≡◌, ◌+◌, ◌<◌, ℕ, List, [], ◌∷◌, ◌++◌, length, get_or, take, ap, ◌∙◌, subst}
use Rattle.std.specs.List.{flat_map}
use Rattle.std.proofs.lemmas.List.{take_more, map-append}
use Rattle.json_line.specs.Written.{Written}
use Rattle.row_json.specs.Fields.{Field, scalar_json, fields_json}
use Rattle.row_json.specs.Wrote.{Adds, Named, named_tokens, WroteMembers}
use Rattle.row_json.proofs.Steps.{adds_members}

-- the first fields and one more
pub fields_more : (fields : List Field) (i : ℕ) (f : Field) → i < length fields → fields_json (take (i + 1) fields) ≡ fields_json (take i fields) ++ ((get_or fields i f).0.now, scalar_json (get_or fields i f).1) ∷ []
fields_more fields i f h = ap fields_json (take_more fields i f h) ∙ map-append (λ (g : Field). (g.0.now, scalar_json g.1)) (take i fields) (get_or fields i f ∷ [])

pub adds_field : {a b d : Written} (ms : List Named) (m : Named) → Adds a b (flat_map named_tokens ms) → WroteMembers (λ xs. xs ≡ m ∷ []) b d → Adds a d (flat_map named_tokens (ms ++ m ∷ []))
adds_field {a = a} {b = b} {d = d} ms m h w =
    let one = subst (λ (xs : List Named). Adds b d (flat_map named_tokens xs)) w.1 w.2 in
    adds_members ms (m ∷ []) h one
