use Rattle.std.specs.Prelude.{decimal}
use Rattle.std.proofs.Common.{rules, arith, ◌≡◌, ◌+◌, ◌-◌, ◌≤◌, ℕ, List, [], ◌∷◌, ◌++◌, length, drop, set, ap, ◌∙◌, append-nil}
use Rattle.std.proofs.Math.ListN.{drop_of_length-le}
use Rattle.std.proofs.lemmas.Fmt.{length-decimal-le}
use Rattle.std.proofs.lemmas.List.{drop-set}
use Rattle.mysql_binlog_rows.proofs.row.plan.write_default_name.Goals as goal

pub write_digits-digits-requires : goal.write_digits-digits-requires
write_digits-digits-requires c = search (rules, length-decimal-le 20)

pub overflow_sub-start : goal.overflow_sub-start
overflow_sub-start c =
    let short : length (decimal c.args.index) ≤ 20 = search (rules, length-decimal-le 20) in
    omega (arith, short, c.write_digits-digits.ensures.start)

pub returns-clause-name : goal.returns-clause-name
returns-clause-name c =
    let written = c.write_digits-digits.ensures in
    let at = c.write_digits-digits.result in
    let new = c.write_digits-digits.new.buf in
    let short : length (decimal c.args.index) ≤ 20 = search (rules, length-decimal-le 20) in
    let one : 1 ≤ at = omega (arith, short, written.start) in
    let whole : length new ≡ 21 = search rules in
    let here : drop (at - 1) (set new (at - 1) 64) ≡ 64 ∷ drop (at - 1 + 1) new = drop-set new (at - 1) 64 (omega (arith, one, whole, written.start)) in
    let same : at - 1 + 1 ≡ at = omega (arith, one) in
    let none : drop 21 c.args.room.now ≡ [] = drop_of_length-le c.args.room.now {i = 21} (omega (arith, c.told-room)) in
    here
    ∙ ap (λ (k : ℕ). 64 ∷ drop k new) same
    ∙ ap (λ (t : List ℕ). 64 ∷ t) (written.written ∙ ap (λ (t : List ℕ). decimal c.args.index ++ t) none ∙ append-nil (decimal c.args.index))
