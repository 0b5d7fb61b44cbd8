-- A buffer to whose end something was added begins with what it held.
use Rattle.std.proofs.Common.{◌≡◌, ℕ, ◌≤◌, List, [], ◌++◌, length, take, drop, sym, ap, subst, ◌∙◌, append-nil, arith}
use Rattle.std.proofs.Math.Seq.{take-append_seam}
use Rattle.std.proofs.lemmas.List.{take-append-le, length-take, take-append-drop}
use Rattle.row_lines.specs.Lines.{Keeps}

pub keeps_added : (old new text : List ℕ) → new ≡ old ++ text → Keeps old new
keeps_added old new text e = record { kept = rw e (take-append_seam old text) }

pub keeps_same : (old new : List ℕ) → new ≡ old → Keeps old new
keeps_same old new e = keeps_added old new [] (e ∙ sym (append-nil old))

pub keeps_then : (a b c : List ℕ) → Keeps a b → Keeps b c → Keeps a c
keeps_then a b c x y =
    let split : b ++ drop (length b) c ≡ c = ap (λ (t : List ℕ). t ++ drop (length b) c) (sym y.kept) ∙ take-append-drop (length b) c in
    let short : length a ≤ length b = omega (arith, ap length x.kept, length-take (length a) b) in
    record { kept = subst (λ (t : List ℕ). take (length a) t ≡ a) split (take-append-le (length a) b (drop (length b) c) short ∙ x.kept) }

pub ruleset keeping = (keeps_added, keeps_same, keeps_then)
