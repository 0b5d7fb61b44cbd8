use Rattle.std.specs.Prelude.{decimal, ◌==◌, ◌&&◌}
use Rattle.std.specs.Fmt.{sign_text}
use Rattle.std.proofs.Common.{rules, arith, ◌≡◌, ◌≤◌, ◌<◌, ◌^◌, ℕ, List, ◌++◌, [], Ok, true, false, not, length, sym, ap, ◌∙◌}
use Rattle.std.proofs.Math.Nat.{pow-le-pow_right}
use Rattle.std.proofs.lemmas.Fmt.{length-decimal-le}
use Rattle.binlog_decimal.specs.DecimalGroups.{low_digits}
use Rattle.binlog_decimal.specs.DecimalReads.{numbered}
use Rattle.binlog_decimal.specs.DecimalText.{fraction_digits_text}
use Rattle.binlog_decimal.proofs.DecimalShown.{text_whole}
use Rattle.binlog_decimal.proofs.DecimalNumbers.{numbered_text, text_with_minus, text_without_minus}
use Rattle.binlog_decimal.proofs.decimal.short.put_short.Goals as goal

pub write_digits-start-requires : goal.write_digits-start-requires
write_digits-start-requires c =
    let power : 10 ^ c.args.integer ≤ 10 ^ 17 = pow-le-pow_right (omega arith) c.requires.few.0 in
    let low : c.in_ok-numbers.numbers.whole < 10 ^ 17 = omega (arith, power, c.in_ok-numbers.ensures.whole) in
    let short : length (decimal c.in_ok-numbers.numbers.whole) ≤ 17 = length-decimal-le 17 c.in_ok-numbers.numbers.whole (omega arith) low (omega (arith, low)) in
    (omega (arith, short, c.put_fraction-end.ensures.within.0), omega (arith, c.put_fraction-end.array_long, c.put_fraction-end.ensures.within.1))

pub overflow_sub-room : goal.overflow_sub-room
overflow_sub-room c =
    let power : 10 ^ c.args.integer ≤ 10 ^ 17 = pow-le-pow_right (omega arith) c.requires.few.0 in
    let low : c.in_ok-numbers.numbers.whole < 10 ^ 17 = omega (arith, power, c.in_ok-numbers.ensures.whole) in
    let short : length (decimal c.in_ok-numbers.numbers.whole) ≤ 17 = length-decimal-le 17 c.in_ok-numbers.numbers.whole (omega arith) low (omega (arith, low)) in
    omega (arith, short, c.put_fraction-end.ensures.within.0, c.write_digits-start.ensures.start)

pub overflow_sub-result : goal.overflow_sub-result
overflow_sub-result c =
    let power : 10 ^ c.args.integer ≤ 10 ^ 17 = pow-le-pow_right (omega arith) c.requires.few.0 in
    let low : c.in_ok-numbers.numbers.whole < 10 ^ 17 = omega (arith, power, c.in_ok-numbers.ensures.whole) in
    let short : length (decimal c.in_ok-numbers.numbers.whole) ≤ 17 = length-decimal-le 17 c.in_ok-numbers.numbers.whole (omega arith) low (omega (arith, low)) in
    omega (arith, short, c.put_fraction-end.ensures.within.0, c.write_digits-start.ensures.start)

pub returns-then-has_minus : goal.returns-then-has_minus
returns-then-has_minus c =
    let i = c.args.integer in
    let f = c.args.fraction in
    let n = c.in_ok-numbers.numbers in
    let fraction = fraction_digits_text (low_digits 10 f n.part) in
    let power : 10 ^ i ≤ 10 ^ 17 = pow-le-pow_right (omega arith) c.requires.few.0 in
    let low : n.whole < 10 ^ 17 = omega (arith, power, c.in_ok-numbers.ensures.whole) in
    let short : length (decimal n.whole) ≤ 17 = length-decimal-le 17 n.whole (omega arith) low (omega (arith, low)) in
    let sign : (n.negative && not ((n.whole == 0) && (f == 0))) ≡ true = sym c.has_minus.ensures ∙ c.if-has_minus.true in
    let long : length c.write_digits-start.new.buf ≡ 32 = search rules in
    let text = text_with_minus n.whole c.put_fraction-end.new.room c.write_digits-start.new.buf fraction c.write_digits-start.result c.put_fraction-end.result long c.write_digits-start.ensures.written c.put_fraction-end.ensures.text
    (omega (arith, short, c.put_fraction-end.ensures.within.0, c.write_digits-start.ensures.start)) (omega (arith, c.put_fraction-end.ensures.within.1, c.write_digits-start.ensures.start)) in
    text_whole i f c.args.packed.now (numbered i f n.negative n.whole n.part) c.requires.some c.in_ok-numbers.ensures.decimal
    ∙ ap (λ (t : List ℕ). Ok (t, []))
    (numbered_text i f n.negative n.whole n.part c.in_ok-numbers.ensures.whole (omega (arith, low)) ∙ ap (λ b. sign_text b ++ (decimal n.whole ++ fraction)) sign ∙ sym text)

pub returns-else-has_minus : goal.returns-else-has_minus
returns-else-has_minus c =
    let i = c.args.integer in
    let f = c.args.fraction in
    let n = c.in_ok-numbers.numbers in
    let fraction = fraction_digits_text (low_digits 10 f n.part) in
    let power : 10 ^ i ≤ 10 ^ 17 = pow-le-pow_right (omega arith) c.requires.few.0 in
    let low : n.whole < 10 ^ 17 = omega (arith, power, c.in_ok-numbers.ensures.whole) in
    let sign : (n.negative && not ((n.whole == 0) && (f == 0))) ≡ false = sym c.has_minus.ensures ∙ c.if-has_minus.false in
    let long : length c.write_digits-start.new.buf ≡ 32 = search rules in
    let text = text_without_minus n.whole c.put_fraction-end.new.room c.write_digits-start.new.buf fraction c.write_digits-start.result c.put_fraction-end.result long c.write_digits-start.ensures.written c.put_fraction-end.ensures.text in
    text_whole i f c.args.packed.now (numbered i f n.negative n.whole n.part) c.requires.some c.in_ok-numbers.ensures.decimal
    ∙ ap (λ (t : List ℕ). Ok (t, []))
    (numbered_text i f n.negative n.whole n.part c.in_ok-numbers.ensures.whole (omega (arith, low)) ∙ ap (λ b. sign_text b ++ (decimal n.whole ++ fraction)) sign ∙ sym text)
