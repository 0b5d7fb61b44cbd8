use Rattle.std.proofs.Common.{◌≤◌, ◌^◌, length, arith}
use Rattle.std.proofs.Math.Nat.{pow-le-pow_right}
use Rattle.row_json.proofs.instant.number_in.Goals as goal

pub returns-then-are_digits-clause-fits : goal.returns-then-are_digits-clause-fits
returns-then-are_digits-clause-fits c =
    let most : length c.args.digits.now ≤ c.args.most = c.if-digits-most.true in
    let below : 10 ^ length c.args.digits.now ≤ 10 ^ c.args.most = pow-le-pow_right (omega arith) most in
    omega (arith, below, c.digits_value.ensures.fits)
