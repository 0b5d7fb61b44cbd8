use borrow.Rule.Slice.PartMut.{put_mid}
use Rattle.std.proofs.Common.{◌≡◌, ◌-◌, ℕ, ◌+◌, ◌*◌, ◌≤◌, refl, ap, drop, take, length, arith}
use Rattle.std.proofs.lemmas.List.{length-take-le, length-drop}
use Rattle.std.proofs.lemmas.Result.{err_from_is_err_and}
use Rattle.binlog_decimal.specs.Lemmas.DecimalGroups.{cut-nil}
use Rattle.binlog_decimal.proofs.DecimalSteps.{nines-next, nines-stop}
use Rattle.binlog_decimal.proofs.decimal.unpack.unpack_nines.Goals as goal

pub loop-group-init : goal.loop-group-init
loop-group-init c = record { end = refl; cut = cut-nil }

pub returns-in_err-unpack_group : goal.returns-in_err-unpack_group
returns-in_err-unpack_group c =
    let p = err_from_is_err_and c.from_residual.result c.from_residual.ensures.1 in
    let k = c.loop-group.group in
    let bytes = c.args.bytes.now in
    let room : 4 * k + 4 ≤ length bytes = omega (arith, c.loop-group-test.true, c.loop-group.invariant.end) in
    let space : 9 * k + 9 ≤ length c.loop-group.digits = omega (arith, room, c.requires.room, c.loop-group.auto.digits) in
    let width : 4 * k + 4 - 4 * k ≡ 4 = omega arith in
    let left = drop (9 * k) c.loop-group.digits in
    let nine : length (take (9 * k + 9 - 9 * k) left) ≡ 9 = omega (arith, length-take-le (9 * k + 9 - 9 * k) left (omega (arith, space, length-drop (9 * k) c.loop-group.digits))) in
    rw (p.1, p.2)
    (nines-stop (Unit {0}) (Unit {0}) k _ bytes _ c.unpack_group.new.digits (put_mid (9 * k) (9 * k + 9 - 9 * k) c.loop-group.digits c.unpack_group.new.digits) c.in_err-unpack_group.field-0.0 c.requires.whole room nine (ap (λ (n : ℕ). take n (drop (4 * k) bytes)) width) c.in_err-unpack_group.ensures)

pub loop-group-preserved : goal.loop-group-preserved
loop-group-preserved c =
    let k = c.loop-group.group in
    let bytes = c.args.bytes.now in
    let room : 4 * k + 4 ≤ length bytes = omega (arith, c.loop-group-test.true, c.loop-group.invariant.end) in
    let space : 9 * k + 9 ≤ length c.loop-group.digits = omega (arith, room, c.requires.room, c.loop-group.auto.digits) in
    let width : 4 * k + 4 - 4 * k ≡ 4 = omega arith in
    let left = drop (9 * k) c.loop-group.digits in
    let nine : length (take (9 * k + 9 - 9 * k) left) ≡ 9 = omega (arith, length-take-le (9 * k + 9 - 9 * k) left (omega (arith, space, length-drop (9 * k) c.loop-group.digits))) in
    record {
      end = c.loop-group.invariant.end;
      cut = nines-next k _ _ bytes _ c.loop-group.digits c.unpack_group.new.digits _ room space nine (ap (λ (n : ℕ). take n (drop (4 * k) bytes)) width) refl c.loop-group.invariant.cut c.in_ok-unpack_group.ensures;
    }
