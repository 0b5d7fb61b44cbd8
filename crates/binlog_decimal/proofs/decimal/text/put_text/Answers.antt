use borrow.Rule.Slice.PartMut.{put_mid}
use Rattle.std.proofs.Common.{◌≡◌, ◌≤◌, ◌+◌, ◌-◌, List, ℕ, [], ◌++◌, Ok, length, take, drop, replicate, sym, ap, ◌∙◌, arith}
use Rattle.std.specs.Prelude.{nat_lt}
use Rattle.std.specs.Int.{from_bool}
use Rattle.std.proofs.lemmas.List.{length-drop, length-take}
use Rattle.binlog_decimal.specs.Decimals.{DecimalView, trimmed_decimal}
use Rattle.binlog_decimal.specs.DecimalText.{fraction_digits_text, decimal_text}
use Rattle.binlog_decimal.specs.PackedDecimals.{packed_digits}
use Rattle.binlog_decimal.proofs.DecimalShown.{digits_in_room, text_whole, point_text, text_in_room, one_at_most}
use Rattle.binlog_decimal.proofs.decimal.text.put_text.Goals as goal

pub put_integer-start-requires-clause-digits : goal.put_integer-start-requires-clause-digits
put_integer-start-requires-clause-digits c =
    let front = c.split_at_mut-before.result.0.now in
    rw (digits_in_room front c.unpack.new.before (omega (arith, c.split_at_mut-before.ensures.front_len)) (omega (arith, c.unpack.auto.before, c.split_at_mut-before.ensures.front_len))) c.in_ok-negative.ensures.below

pub make_characters-requires : goal.make_characters-requires
make_characters-requires c = c.in_ok-negative.ensures.below.1

pub returns : goal.returns
returns c =
    let i = c.args.integer in
    let f = c.args.fraction in
    let front = c.split_at_mut-before.result.0.now in
    let rest = c.split_at_mut-point.result.1.now in
    let integer = c.unpack.new.before in
    let fraction = c.unpack.new.after in
    let d : DecimalView = record { negative = c.in_ok-negative.negative; integer = integer; fraction = fraction } in
    let room : 2 + i ≤ length front = omega (arith, c.split_at_mut-before.ensures.front_len) in
    let long : length front ≡ 2 + i = omega (arith, c.split_at_mut-before.ensures.front_len) in
    let before : length (take (length front - 2) (drop 2 front)) ≡ i = omega (arith, long, length-drop 2 front, length-take (length front - 2) (drop 2 front)) in
    let after : length (take f rest) ≡ f = omega (arith, length-take f rest, c.split_at_mut-before.ensures.back_len, c.split_at_mut-point.ensures.back_len, c.from.ensures, one_at_most (nat_lt 0 f), c.told-room, c.requires.digits.1) in
    let read : (packed_digits i f).parse c.args.packed.now ≡ Ok (d, []) = rw (before, after) at c.in_ok-negative.ensures.decimal in
    let is : drop 2 (put_mid 2 (length front - 2) front integer) ≡ integer = digits_in_room front integer (omega (arith, long)) (omega (arith, c.unpack.auto.before, long)) in
    let shown : drop c.put_integer-start.result c.put_integer-start.new.before ++ fraction_digits_text fraction ≡ decimal_text (trimmed_decimal d) = rw is at c.put_integer-start.ensures.text in
    let dot = c.split_at_mut-point.result.0.now in
    let filled : c.fill.new.self ≡ replicate (length dot) 46 = c.fill.ensures.after (λ y h. h) in
    let same : length fraction ≡ f = omega (arith, c.unpack.auto.after, after) in
    let some : length dot ≡ c.from.result = omega (arith, c.split_at_mut-point.ensures.front_len) in
    let count : length dot ≡ from_bool (nat_lt 0 (length fraction)) = some ∙ c.from.ensures ∙ ap (λ (n : ℕ). from_bool (nat_lt 0 n)) (sym same) in
    let point : c.fill.new.self ++ c.make_characters.new.digits ≡ fraction_digits_text fraction = point_text fraction c.fill.new.self c.make_characters.new.digits (length dot) c.in_ok-negative.ensures.below.1 filled count c.make_characters.ensures in
    let text = text_in_room c.put_integer-start.new.before c.fill.new.self c.make_characters.new.digits (drop f rest) c.put_integer-start.result _ (omega (arith, c.put_integer-start.ensures.within, c.put_integer-start.auto.before)) (omega (arith, c.put_integer-start.auto.before, c.unpack.auto.before, c.fill.ensures.len, c.make_characters.auto.digits, c.from.ensures, c.from-2.ensures, some, same, long, ap length is)) in
    text_whole i f c.args.packed.now d c.requires.digits.0 read
    ∙ ap (λ (t : List ℕ). Ok (t, [])) (sym (text ∙ ap (λ (l : List ℕ). drop c.put_integer-start.result c.put_integer-start.new.before ++ l) point ∙ shown))
