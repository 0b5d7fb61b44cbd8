use Rattle.std.proofs.Common.{◌≤◌, ◌-◌, length, ap, ap₂, sym, subst, ◌∙◌, arith}
use Rattle.binlog_decimal.specs.Decimals.{DecimalView, packed_size}
use Rattle.binlog_decimal.specs.DecimalOrder.{scaled}
use Rattle.binlog_decimal.proofs.LentDecimals.{scale_within, size_of, zero_of}
use Rattle.binlog_decimal.proofs.DecimalComparing.{row_zero, few_zero, row_of, row_few, no_row}
use Rattle.binlog_decimal.proofs.decimal.packed.PackedDecimal.row.Goals as goal

pub returns-then-precision-eq0-clause-number : goal.returns-then-precision-eq0-clause-number
returns-then-precision-eq0-clause-number c =
    c.zero.ensures.number
    ∙ row_zero c.args.self.now (255 - length c.args.self.now.fraction) (sym (zero_of c.self.inside.precision c.self.inside.scale c.self.inside.packed.now c.self.invariant (omega (arith, c.if-precision-eq0.true))) ∙ c.self.view_is)

pub returns-then-precision-eq0-clause-few : goal.returns-then-precision-eq0-clause-few
returns-then-precision-eq0-clause-few c =
    few_zero c.args.self.now 255 (sym (zero_of c.self.inside.precision c.self.inside.scale c.self.inside.packed.now c.self.invariant (omega (arith, c.if-precision-eq0.true))) ∙ c.self.view_is)

pub overflow_sub-precision : goal.overflow_sub-precision
overflow_sub-precision c = scale_within c.self.inside.precision c.self.inside.scale c.self.inside.packed.now c.self.invariant

pub read-requires-clause-size : goal.read-requires-clause-size
read-requires-clause-size c =
    size_of c.self.inside.precision c.self.inside.scale c.self.inside.packed.now c.self.invariant (omega (arith, c.if-precision-eq0.false))
    ∙ ap₂ packed_size (sym c.from-integer.ensures) (sym c.from-fraction.ensures)

pub unreachable-requires : goal.unreachable-requires
unreachable-requires c =
    no_row 255 c.self.inside.precision c.self.inside.scale c.from-integer.result c.from-fraction.result c.self.inside.packed.now c.in-Err.field-0 c.self.invariant
    (omega (arith, c.if-precision-eq0.false)) c.from-integer.ensures c.from-fraction.ensures c.in-Err.ensures.number

pub returns-clause-number : goal.returns-clause-number
returns-clause-number c =
    row_of 255 c.self.inside.precision c.self.inside.scale c.from-integer.result c.from-fraction.result c.self.inside.packed.now _ c.self.invariant
    (omega (arith, c.if-precision-eq0.false)) c.from-integer.ensures c.from-fraction.ensures c.in-Ok.ensures.number
    ∙ ap (λ (d : DecimalView). scaled d (255 - length d.fraction)) c.self.view_is

pub returns-clause-few : goal.returns-clause-few
returns-clause-few c =
    subst (λ (d : DecimalView). length d.fraction ≤ 255) c.self.view_is
    (row_few 255 c.self.inside.precision c.self.inside.scale c.self.inside.packed.now c.self.invariant (omega (arith, c.if-precision-eq0.false)) (omega arith))
