use Rattle.std.proofs.Common.{◌≡◌, ℕ, ◌-◌, List, ◌++◌, rules, length, take, drop, ap, ◌∙◌, append_assoc, take-append-drop}
use Rattle.std.proofs.lemmas.List.{take_rest}
use Rattle.std.proofs.KnownBytes.{Appends-trans}
use Rattle.binlog_base.proofs.below.io.transfers.write_all.Goals as goal

moves_front : (all done left : List ℕ) (n : ℕ) → done ++ left ≡ all → (done ++ take n left) ++ take (length left - n) (drop n left) ≡ all
moves_front all done left n e =
    append_assoc done (take n left) _ ∙ ap (λ (l : List ℕ). done ++ (take n left ++ l)) (take_rest left n) ∙ ap (λ (l : List ℕ). done ++ l) (take-append-drop n left) ∙ e

pub loop-left-preserved : goal.loop-left-preserved
loop-left-preserved g c =
    let h = c.loop-left.invariant.bytes in
    let left = c.loop-left.left.now in
    let n = c.in_ok-n.n in
    record {
      count = search rules;
      bytes = (h.0 ++ take n left, moves_front _ h.0 left n h.1, Appends-trans _ _ _ _ _ h.2 c.in_ok-n.ensures.bytes);
    }
