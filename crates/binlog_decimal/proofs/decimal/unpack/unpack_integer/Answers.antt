use Rattle.std.proofs.Common.{Err, ◌++◌, ℕ, ◌∷◌, [], length, take, drop, ap, subst, ◌∙◌}
use Rattle.std.proofs.lemmas.Result.{err_from_is_err_and}
use Rattle.binlog_decimal.specs.DecimalGroups.{IsCut}
use Rattle.binlog_decimal.specs.DecimalReads.{Unpacks}
use Rattle.binlog_decimal.proofs.DecimalBytes.{integer-then, integer-stop}
use Rattle.binlog_decimal.proofs.decimal.unpack.unpack_integer.Goals as goal

pub returns-in_err-unpack_group : goal.returns-in_err-unpack_group
returns-in_err-unpack_group c =
    let p = err_from_is_err_and c.from_residual.result c.from_residual.ensures.1 in
    let bytes = c.args.bytes.now in
    let group = c.split_at.result.0.now in
    let front = c.unpack_group.new.digits in
    rw (p.1, p.2)
    (integer-stop (Unit {0}) (Unit {0}) (length c.args.digits.now) bytes group c.split_at.result.1.now front (front ++ c.split_at_mut-front.result.1.now) c.in_err-unpack_group.field-0.0 c.requires
    (c.split_at.ensures.front ∙ ap (λ (w : ℕ). take w bytes) c.group_width.ensures) (c.split_at.ensures.back ∙ ap (λ (w : ℕ). drop w bytes) c.group_width.ensures)
    (subst (λ (n : ℕ). Unpacks {X = Unit {0}} (Err c.in_err-unpack_group.field-0.0) (n ∷ []) group front) c.split_at_mut-front.ensures.front_len c.in_err-unpack_group.ensures))

pub returns : goal.returns
returns c =
    let bytes = c.args.bytes.now in
    let group = c.split_at.result.0.now in
    let front = c.unpack_group.new.digits in
    integer-then (length c.args.digits.now) bytes group c.split_at.result.1.now front c.unpack_nines.new.digits c.unpack_nines.result c.requires
    (c.split_at.ensures.front ∙ ap (λ (w : ℕ). take w bytes) c.group_width.ensures) (c.split_at.ensures.back ∙ ap (λ (w : ℕ). drop w bytes) c.group_width.ensures)
    (subst (λ (n : ℕ). IsCut (n ∷ []) group front) c.split_at_mut-front.ensures.front_len c.in_ok-unpack_group.ensures) c.unpack_nines.ensures
