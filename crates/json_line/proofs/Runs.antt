-- Texts that stand in a string as they are, a block at a time.
use Rattle.std.proofs.Common.{◌≡◌, ℕ, zero, suc, ◌+◌, ◌≤◌, List, length, drop, ap, arith}
use Rattle.std.proofs.lemmas.List.Sums.{prefix_len-drop_yes}
use Rattle.std.specs.List.{prefix_len}
use Rattle.json.specs.Run.{is_plain}
use Rattle.json.specs.Written.{PlainBetween}

-- the end of what is plain stays where it is past n plain bytes
pub plain_run : (d : List ℕ) (i n : ℕ) → i + n ≤ length d → PlainBetween d i (i + n) → i + prefix_len is_plain (drop i d) ≡ (i + n) + prefix_len is_plain (drop (i + n) d)
plain_run d i zero room plain = ap (λ k. k + prefix_len is_plain (drop k d)) (omega arith)
plain_run d i (suc n) room plain =
    let before = plain_run d i n (omega arith) (λ k from to. plain k from (omega arith)) in
    let more = prefix_len-drop_yes is_plain d (i + n) 0 (omega arith) (plain (i + n) (omega arith) (omega arith)) in
    let same : (i + n) + 1 ≡ i + suc n = omega arith in
    let moved = ap (λ k. k + prefix_len is_plain (drop k d)) same in
    omega (arith, before, more, moved)
