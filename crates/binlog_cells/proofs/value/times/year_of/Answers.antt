use Rattle.std.specs.Prelude.{decimal, replicate}
use Rattle.std.proofs.lemmas.List.{length-replicate}
use Rattle.std.proofs.Common.{rules, arith, ◌≡◌, ◌≤◌, ◌+◌, ℕ, length, ap, ◌∙◌}
use Rattle.std.proofs.lemmas.Fmt.{length-decimal-le}
use Rattle.binlog_base.specs.Values.{Bytes}
use Rattle.binlog_cells.proofs.Places.{four_digits, filled}
use Rattle.binlog_cells.proofs.value.times.year_of.Goals as goal

pub write_digits-requires : goal.write_digits-requires
write_digits-requires c =
    let short : length (decimal (1900 + c.from.result)) ≤ 4 = search (rules, length-decimal-le 4) in
    (short, omega arith)

pub returns : goal.returns
returns c =
    let n = 1900 + c.from.result in
    let four : length (decimal n) ≡ 4 = four_digits n (omega arith) (omega arith) in
    ap Bytes (c.in_ok-from_slice.ensures.items ∙ filled c.write_digits.new.buf (replicate 4 48) (decimal n) c.write_digits.result c.write_digits.ensures.written c.write_digits.ensures.start four (length-replicate {A = ℕ} 4 48) ∙ ap (λ (k : ℕ). decimal (1900 + k)) c.from.ensures)
