use Rattle.std.proofs.Common.{ℕ, List, ◌%◌, [], Err, take, drop, ap, subst, ◌∙◌}
use Rattle.std.proofs.lemmas.Result.{err_from_is_err_and}
use Rattle.binlog_decimal.specs.DecimalReads.{Unpacks}
use Rattle.binlog_decimal.proofs.DecimalBytes.{integer-then, integer-stop}
use Rattle.binlog_decimal.proofs.DecimalSteps.{none_left, some_left}
use Rattle.binlog_decimal.proofs.DecimalNumbers.{of_group, integer_short, integer_long, second_group}
use Rattle.binlog_decimal.proofs.decimal.short.integer_number.Goals as goal

pub returns-in_err-high : goal.returns-in_err-high
returns-in_err-high c =
    let p = err_from_is_err_and c.from_residual.result c.from_residual.ensures.1 in
    let bytes = c.args.bytes.now in
    rw (p.1, p.2)
    (integer-stop (Unit {0}) (Unit {0}) c.args.digits bytes c.split_at.result.0.now c.split_at.result.1.now [] [] c.in_err-high.field-0.0 c.requires.size
    (c.split_at.ensures.front ∙ ap (λ (w : ℕ). take w bytes) c.group_width.ensures) (c.split_at.ensures.back ∙ ap (λ (w : ℕ). drop w bytes) c.group_width.ensures)
    c.in_err-high.ensures)

pub returns-in_err-low : goal.returns-in_err-low
returns-in_err-low c =
    let p = err_from_is_err_and c.from_residual-in_err-low.result c.from_residual-in_err-low.ensures.1 in
    let i = c.args.digits in
    let bytes = c.args.bytes.now in
    let group = c.split_at.result.0.now in
    let nine = c.split_at.result.1.now in
    let e = c.in_err-low.field-0.0 in
    let front = c.split_at.ensures.front ∙ ap (λ (w : ℕ). take w bytes) c.group_width.ensures in
    let back = c.split_at.ensures.back ∙ ap (λ (w : ℕ). drop w bytes) c.group_width.ensures in
    let sizes = second_group i bytes group nine c.requires.most c.requires.size front back (some_left _ c.if-is_empty.ensures) in
    rw (p.1, p.2)
    (integer-then {Y = Unit {0}} i bytes group nine _ [] (Err e) c.requires.size front back (of_group (i % 9) c.in_ok-high.high group c.in_ok-high.ensures).0
    (subst (λ (l : List ℕ). Unpacks {X = Unit {0}} (Err e) l nine []) sizes c.in_err-low.ensures))

pub returns-then-is_empty : goal.returns-then-is_empty
returns-then-is_empty c =
    let bytes = c.args.bytes.now in
    rw c.from.ensures
    (integer_short c.args.digits c.in_ok-high.high bytes c.split_at.result.0.now c.split_at.result.1.now c.requires.size
    (c.split_at.ensures.front ∙ ap (λ (w : ℕ). take w bytes) c.group_width.ensures) (c.split_at.ensures.back ∙ ap (λ (w : ℕ). drop w bytes) c.group_width.ensures)
    (none_left _ c.if-is_empty.ensures) c.in_ok-high.ensures)

pub returns : goal.returns
returns c =
    let bytes = c.args.bytes.now in
    rw (c.from-2.ensures, c.from-3.ensures)
    (integer_long c.args.digits c.in_ok-high.high c.in_ok-low.low bytes c.split_at.result.0.now c.split_at.result.1.now c.requires.most c.requires.size
    (c.split_at.ensures.front ∙ ap (λ (w : ℕ). take w bytes) c.group_width.ensures) (c.split_at.ensures.back ∙ ap (λ (w : ℕ). drop w bytes) c.group_width.ensures)
    (some_left _ c.if-is_empty.ensures) c.in_ok-high.ensures c.in_ok-low.ensures)
