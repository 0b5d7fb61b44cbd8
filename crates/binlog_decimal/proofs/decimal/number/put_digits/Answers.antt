use Rattle.std.proofs.Common.{◌≡◌, ◌-◌, zero, length, take, drop, ap, ◌∙◌, arith}
use Rattle.std.proofs.lemmas.List.{length-drop, length-take, length-replicate}
use Rattle.binlog_decimal.proofs.DecimalComparing.{row_is, below_mid, row_parsed, where_ok}
use Rattle.binlog_decimal.proofs.decimal.number.put_digits.Goals as goal

pub returns-clause-number : goal.returns-clause-number
returns-clause-number c =
    let i = c.args.integer in
    let f = c.args.fraction in
    let front = c.args.before.now in
    let back = c.args.after.now in
    let front_long : length front ≡ 255 = ap length c.requires.zeros.0 ∙ length-replicate 255 (zero) in
    let back_long : length back ≡ 255 = ap length c.requires.zeros.1 ∙ length-replicate 255 (zero) in
    let before : length (take (length front - (255 - i)) (drop (255 - i) front)) ≡ i = omega (arith, length-drop (255 - i) front, length-take (length front - (255 - i)) (drop (255 - i) front), front_long, c.requires.digits.1) in
    let after : length (take f back) ≡ f = omega (arith, length-take f back, back_long, c.requires.digits.1) in
    let read = rw (before, after, c.copy_from_slice.ensures.after) at c.unpack.ensures.decimal in
    row_parsed c.unpack.result i f (255 - f) c.args.packed.now c.unpack.new.before c.unpack.new.after _ read
    (row_is 255 i f front back c.unpack.new.before c.unpack.new.after c.requires.zeros.0 c.requires.zeros.1 (omega (arith, c.requires.digits.1)) (omega (arith, c.requires.digits.1))
    (c.unpack.auto.before ∙ before) (c.unpack.auto.after ∙ after))

pub returns-clause-below : goal.returns-clause-below
returns-clause-below c =
    where_ok c.unpack.result
    (λ h. (below_mid 255 (255 - c.args.integer) (length c.args.before.now - (255 - c.args.integer)) c.args.before.now c.unpack.new.before c.requires.zeros.0 h.0, below_mid 255 0 c.args.fraction c.args.after.now c.unpack.new.after c.requires.zeros.1 h.1))
    c.unpack.ensures.below
