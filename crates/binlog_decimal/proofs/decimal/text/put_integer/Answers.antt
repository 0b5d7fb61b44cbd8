use Rattle.std.proofs.Common.{◌≡◌, ◌-◌, ◌+◌, false, not, length, take, drop, refl, ap, ◌∙◌, arith}
use Rattle.std.specs.Prelude.{◌==◌, ◌&&◌}
use Rattle.std.proofs.lemmas.List.{length-drop, take_rest}
use Rattle.binlog_decimal.proofs.DecimalShown.{zeros_of, zeros_counted, zero_if, zero_unless, is_made, with_minus, without_minus}
use Rattle.binlog_decimal.proofs.decimal.text.put_integer.Goals as goal
use Rattle.binlog_decimal.proofs.decimal.text.put_integer.Goals.{then-zeros-digits, else-zeros-digits, else-negative-via-then-negative+else-not-is_zero, else-negative-via-else-negative}

pub returns-then-not-is_zero-clause-text : goal.returns-then-not-is_zero-clause-text
returns-then-not-is_zero-clause-text c =
    let before = c.args.before.now in
    let counted = c.leading_zeros-zeros.ensures.zeros ∙ zeros_counted before c.requires.zero.0 c.requires.zero.1 in
    let made = is_made before _ _ _ c.requires.zero.0 c.requires.zero.1 counted c.make_characters.ensures c.min-hidden.ensures in
    let long : length (take (length before - 1) (drop 1 before)) ≡ 1 + length (drop 2 before) = omega (arith, ap length (take_rest before 1), length-drop 1 before, length-drop 2 before, c.requires.zero.0) in
    let zero : c.if-zeros-digits.is_zero ≡ ((zeros_of (drop 2 before) == length (drop 2 before)) && (length c.args.fraction.now == 0)) =
    elim c.if-zeros-digits.branch [
      | then-zeros-digits w ↦ zero_if _ _ _ _ _ _ _ counted long w.if-zeros-digits.true w.is_empty-is_zero.ensures w.is_zero-is
      | else-zeros-digits w ↦ zero_unless _ _ _ _ _ _ counted long w.if-zeros-digits.false w.is_zero-is
    ] in
    with_minus c.args.negative c.if-zeros-digits.is_zero before _ c.args.fraction.now _ _ made c.requires.digits.0 zero c.if-negative.true c.if-not-is_zero.true

pub returns-else-negative-clause-text : goal.returns-else-negative-clause-text
returns-else-negative-clause-text c =
    let before = c.args.before.now in
    let counted = c.leading_zeros-zeros.ensures.zeros ∙ zeros_counted before c.requires.zero.0 c.requires.zero.1 in
    let made = is_made before _ _ _ c.requires.zero.0 c.requires.zero.1 counted c.make_characters.ensures c.min-hidden.ensures in
    let long : length (take (length before - 1) (drop 1 before)) ≡ 1 + length (drop 2 before) = omega (arith, ap length (take_rest before 1), length-drop 1 before, length-drop 2 before, c.requires.zero.0) in
    let zero : c.if-zeros-digits.is_zero ≡ ((zeros_of (drop 2 before) == length (drop 2 before)) && (length c.args.fraction.now == 0)) =
    elim c.if-zeros-digits.branch [
      | then-zeros-digits w ↦ zero_if _ _ _ _ _ _ _ counted long w.if-zeros-digits.true w.is_empty-is_zero.ensures w.is_zero-is
      | else-zeros-digits w ↦ zero_unless _ _ _ _ _ _ counted long w.if-zeros-digits.false w.is_zero-is
    ] in
    let none : (c.args.negative && not c.if-zeros-digits.is_zero) ≡ false =
    elim c.else-negative.branch [
      | else-negative-via-then-negative+else-not-is_zero w ↦ rw (w.if-negative.true, w.if-not-is_zero.false) refl
      | else-negative-via-else-negative w ↦ rw w.if-negative.false refl
    ] in
    without_minus c.args.negative c.if-zeros-digits.is_zero before _ c.args.fraction.now _ _ made c.requires.digits.0 zero none
