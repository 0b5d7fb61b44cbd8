use Rattle.std.proofs.Common.{◌<◌, ◌≤◌, ◌^◌, arith}
use Rattle.std.proofs.Math.Nat.{pow-le-pow_right}
use Rattle.row_json.proofs.instant.digits_value.Goals as goal

pub overflow_mul-number : goal.overflow_mul-number
overflow_mul-number c =
    let below : c.loop-digit.digit-index ≤ 9 = omega arith in
    let most : 10 ^ c.loop-digit.digit-index ≤ 10 ^ 9 = pow-le-pow_right (omega arith) below in
    let small : c.loop-digit.number < 10 ^ 9 = omega (arith, most, c.loop-digit.invariant.fits) in
    omega (arith, small)
