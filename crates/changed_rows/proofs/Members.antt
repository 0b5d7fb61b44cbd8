-- Members that are written one after the other.
use Rattle.std.proofs.Common.{◌≡◌, List, ◌++◌, refl, subst}
use Rattle.std.specs.List.{flat_map}
use Rattle.json_line.specs.Written.{Written}
use Rattle.row_json.specs.Wrote.{Adds, Named, named_tokens, WroteMembers}
use Rattle.row_json.proofs.Steps.{adds_members}

pub wrote_more : {a b d : Written} (xs ys : List Named) → WroteMembers (λ ms. ms ≡ xs) a b → WroteMembers (λ ms. ms ≡ ys) b d → WroteMembers (λ ms. ms ≡ xs ++ ys) a d
wrote_more {a = a} {b = b} {d = d} xs ys first more =
    let front = subst (λ (ms : List Named). Adds a b (flat_map named_tokens ms)) first.1 first.2 in
    let rest = subst (λ (ms : List Named). Adds b d (flat_map named_tokens ms)) more.1 more.2 in
    (xs ++ ys, refl, adds_members xs ys front rest)
