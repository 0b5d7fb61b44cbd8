use Rattle.std.specs.Prelude.{decimal, replicate}
use Rattle.std.proofs.Common.{rules, arith, ◌≡◌, ◌≤◌, ◌<◌, ◌-◌, ◌^◌, ℕ, suc, length, take, ap₂, subst, ◌∙◌, sym}
use Rattle.std.proofs.lemmas.Fmt.{length-decimal-le}
use Rattle.std.proofs.lemmas.List.{take_all}
use Rattle.binlog_decimal.specs.DecimalGroups.{low_digits}
use Rattle.binlog_decimal.specs.DecimalText.{fraction_digits_text}
use Rattle.binlog_decimal.specs.Lemmas.Places.{AtEnd}
use Rattle.binlog_decimal.proofs.DecimalNumbers.{fraction_in_room}
use Rattle.binlog_decimal.proofs.decimal.short.put_fraction.Goals as goal

pub write_digits-requires : goal.write_digits-requires
write_digits-requires c =
    let short : length (decimal c.from.result) ≤ 10 = search (rules, length-decimal-le 10) in
    (omega (arith, short), omega (arith, c.told-room))

pub returns-clause-text : goal.returns-clause-text
returns-clause-text c =
    let d = c.args.digits in
    let n = c.from.result in
    let count : suc (d - 1) ≡ d = omega (arith, c.if-digits-eq0.false) in
    let low : n < 10 ^ suc (d - 1) = subst (λ (k : ℕ). n < 10 ^ k) (sym count) (subst (λ (m : ℕ). m < 10 ^ d) (sym c.from.ensures) c.requires.below) in
    let zeros : take 32 c.args.room.now ≡ replicate 32 48 = take_all 32 c.args.room.now (omega (arith, c.told-room)) ∙ c.requires.zeros in
    let written : AtEnd c.write_digits.new.buf c.args.room.now (decimal n) c.write_digits.result 32 = record {
      long = c.write_digits.ensures.start;
      written = c.write_digits.ensures.written;
      before = c.write_digits.ensures.before;
      zeros = zeros;
    } in
    let whole : length c.write_digits.new.buf ≡ 32 = search rules in
    fraction_in_room (d - 1) n _ _ _ 32 (31 - d) written c.told-room whole low (omega arith) (omega (arith, c.requires.few, count))
    ∙ ap₂ (λ (k m : ℕ). fraction_digits_text (low_digits 10 k m)) count c.from.ensures
