use Rattle.std.proofs.Common.{◌+◌, ap, ap₂, sym, ◌∙◌, arith}
use Rattle.binlog_decimal.specs.Decimals.{packed_size}
use Rattle.binlog_decimal.specs.DecimalText.{decimal_text}
use Rattle.binlog_decimal.proofs.LentDecimals.{scale_within, size_of, zero_of, read_text, no_text, text_is_utf8}
use Rattle.binlog_decimal.proofs.decimal.packed.PackedDecimal.bytes_in.Goals as goal

pub returns-then-precision-eq0-clause-text : goal.returns-then-precision-eq0-clause-text
returns-then-precision-eq0-clause-text c =
    c.zero_text_in.ensures ∙ ap decimal_text (sym (zero_of c.self.inside.precision c.self.inside.scale c.self.inside.packed.now c.self.invariant (omega (arith, c.if-precision-eq0.true))) ∙ c.self.view_is)

pub returns-then-precision-eq0-clause-utf8 : goal.returns-then-precision-eq0-clause-utf8
returns-then-precision-eq0-clause-utf8 c =
    text_is_utf8 c.self.inside.precision c.self.inside.scale c.self.inside.packed.now _ c.self.invariant
    (c.zero_text_in.ensures ∙ ap decimal_text (sym (zero_of c.self.inside.precision c.self.inside.scale c.self.inside.packed.now c.self.invariant (omega (arith, c.if-precision-eq0.true)))))

pub overflow_sub-precision : goal.overflow_sub-precision
overflow_sub-precision c = scale_within c.self.inside.precision c.self.inside.scale c.self.inside.packed.now c.self.invariant

pub put_text-requires-clause-size : goal.put_text-requires-clause-size
put_text-requires-clause-size c =
    size_of c.self.inside.precision c.self.inside.scale c.self.inside.packed.now c.self.invariant (omega (arith, c.if-precision-eq0.false))
    ∙ ap₂ packed_size (sym c.from-integer.ensures) (sym c.from-fraction.ensures)

pub unreachable-requires : goal.unreachable-requires
unreachable-requires c =
    let within = scale_within c.self.inside.precision c.self.inside.scale c.self.inside.packed.now c.self.invariant in
    no_text c.self.inside.precision c.self.inside.scale (c.from-integer.result + c.from-fraction.result) c.from-fraction.result c.self.inside.packed.now c.in-Err.field-0 c.self.invariant
    (omega (arith, within, c.from-integer.ensures, c.from-fraction.ensures)) c.from-fraction.ensures c.in-Err.ensures

pub returns-clause-text : goal.returns-clause-text
returns-clause-text c =
    let within = scale_within c.self.inside.precision c.self.inside.scale c.self.inside.packed.now c.self.invariant in
    read_text c.self.inside.precision c.self.inside.scale (c.from-integer.result + c.from-fraction.result) c.from-fraction.result c.self.inside.packed.now c.in-Ok.text.now c.self.invariant
    (omega (arith, within, c.from-integer.ensures, c.from-fraction.ensures)) c.from-fraction.ensures c.in-Ok.ensures
    ∙ ap decimal_text c.self.view_is

pub returns-clause-utf8 : goal.returns-clause-utf8
returns-clause-utf8 c =
    let within = scale_within c.self.inside.precision c.self.inside.scale c.self.inside.packed.now c.self.invariant in
    text_is_utf8 c.self.inside.precision c.self.inside.scale c.self.inside.packed.now _ c.self.invariant
    (read_text c.self.inside.precision c.self.inside.scale (c.from-integer.result + c.from-fraction.result) c.from-fraction.result c.self.inside.packed.now c.in-Ok.text.now c.self.invariant
    (omega (arith, within, c.from-integer.ensures, c.from-fraction.ensures)) c.from-fraction.ensures c.in-Ok.ensures)
