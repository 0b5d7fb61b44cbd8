use Rattle.std.proofs.Common.{◌≡◌, ◌-◌, ◌<◌, ℕ, length, take, drop, sym, ap, ◌∙◌, arith, length-drop}
use Rattle.std.proofs.lemmas.Grind.{common_steps}
use Rattle.std.proofs.lemmas.List.{take_all}
use Rattle.binlog_events.specs.Crc32.{after_bytes}
use Rattle.binlog_events.proofs.Remainders.{seam_in_word}
use Rattle.binlog_events.proofs.crc.after_seam.Goals as goal

pub returns-then-not-is_empty : goal.returns-then-not-is_empty
returns-then-not-is_empty c =
    let xs = c.args.last.now in
    let ys = c.args.second.now in
    let some : 0 < length ys = grind (arith, common_steps, c.is_empty.ensures) in
    let rest : take (length ys - 1) (drop 1 ys) ≡ drop 1 ys = take_all (length ys - 1) (drop 1 ys) (omega (arith, length-drop 1 ys)) in
    c.after.ensures ∙ ap (after_bytes c.word_entry.result) rest
    ∙ ap (λ (x : ℕ). after_bytes x (drop 1 ys)) c.word_entry.ensures
    ∙ sym (seam_in_word c.args.start c.from_le_bytes-word.result xs ys c.if-last-eq3.true some (λ k. (c.type_inv.last k).fits) (λ k. (c.type_inv.second k).fits) (omega (arith, c.from_le_bytes-word.ensures)))
