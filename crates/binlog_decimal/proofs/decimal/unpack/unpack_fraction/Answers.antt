use Rattle.std.proofs.Common.{◌≡◌, ◌++◌, ℕ, ◌%◌, ◌∷◌, [], length, subst, arith}
use Rattle.std.proofs.lemmas.Result.{err_from_is_err_and}
use Rattle.binlog_decimal.specs.DecimalReads.{Unpacks}
use Rattle.binlog_decimal.proofs.DecimalBytes.{fraction-then, fraction-stop}
use Rattle.binlog_decimal.proofs.decimal.unpack.unpack_fraction.Goals as goal

pub returns-in_err-unpack_nines : goal.returns-in_err-unpack_nines
returns-in_err-unpack_nines c =
    let p = err_from_is_err_and c.from_residual.result c.from_residual.ensures.1 in
    rw (p.1, p.2)
    (fraction-stop (Unit {0}) (Unit {0}) (length c.args.digits.now) c.args.bytes.now c.split_at.result.0.now c.split_at.result.1.now c.unpack_nines.new.digits (c.unpack_nines.new.digits ++ c.split_at_mut-front.result.1.now) c.in_err-unpack_nines.field-0.0 c.requires
    c.split_at.ensures.front c.split_at.ensures.back c.in_err-unpack_nines.ensures)

pub returns : goal.returns
returns c =
    let group = c.split_at.result.1.now in
    let back = c.unpack_group.new.digits in
    let short : length c.split_at_mut-front.result.1.now ≡ length c.args.digits.now % 9 = omega (arith, c.split_at_mut-front.ensures.back_len) in
    fraction-then (length c.args.digits.now) c.args.bytes.now c.split_at.result.0.now group c.unpack_nines.new.digits back c.unpack_group.result c.requires
    c.split_at.ensures.front c.split_at.ensures.back c.in_ok-unpack_nines.ensures
    (subst (λ (n : ℕ). Unpacks c.unpack_group.result (n ∷ []) group back) short c.unpack_group.ensures)
