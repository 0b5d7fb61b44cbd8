use Rattle.std.proofs.Common.{ℕ, List, Ok, sym, ap, ◌∙◌, ◌≡◌, ◌+◌, ◌-◌, [], ◌∷◌, ◌++◌, length, arith}
use Rattle.std.proofs.lemmas.Result.{err_from_is_err_and}
use Rattle.binlog_base.specs.Lemmas.Format.{exact_take_bytes}
use Rattle.binlog_decimal.specs.Decimals.{digits_size}
use Rattle.binlog_decimal.proofs.DecimalPutting.{zero_read}
use Rattle.binlog_decimal.proofs.DecimalSources.{text_short, text_of_front}
use Rattle.binlog_decimal.proofs.decimal.Decimal.read_text.Goals as goal

pub returns-then-precision-eq0 : goal.returns-then-precision-eq0
returns-then-precision-eq0 c =
    let x = c.args.buf.now.0.now in
    let items : c.in_ok-vec.field-0.items ≡ 48 ∷ [] = c.in_ok-vec.ensures.items in
    zero_read c.args.precision c.args.scale x (omega (arith, c.if-scale-precision.false)) (omega (arith, c.if-precision-eq0.true)) ∙ ap (λ (t : List ℕ). Ok (t, x)) (sym items)

pub returns-in_err-packed : goal.returns-in_err-packed
returns-in_err-packed c =
    let p = err_from_is_err_and c.from_residual-in_err-packed.result c.from_residual-in_err-packed.ensures.1 in
    let x = c.args.buf.now.0.now in
    let e = c.in_err-packed.field-0.0 in
    let short = (exact_take_bytes _).refused_sound x e c.in_err-packed.ensures in
    rw (p.1, p.2, short.1) (λ other. text_short c.args.precision c.args.scale x (omega (arith, c.if-scale-precision.false)) (omega (arith, c.if-precision-eq0.false)) (omega (arith, short.0, c.digits_size.ensures.size, c.digits_size-2.ensures.size)))

pub returns-then-fraction-le-MAX_FRACTION : goal.returns-then-fraction-le-MAX_FRACTION
returns-then-fraction-le-MAX_FRACTION c =
    let x = c.args.buf.now.0.now in
    let taken = (exact_take_bytes _).sound x c.in_ok-packed.packed.now c.eat.new.self.0.now c.in_ok-packed.ensures in
    let integer : c.from-integer.result ≡ c.args.precision - c.args.scale = c.from-integer.ensures in
    let fraction : c.from-fraction.result ≡ c.args.scale = c.from-fraction.ensures in
    text_of_front (λ t. t.items) c.short_text.result c.args.precision c.args.scale (c.from-integer.result + c.from-fraction.result) c.from-fraction.result c.in_ok-packed.packed.now c.eat.new.self.0.now x c.short_text.ensures
    (omega (arith, integer, fraction, c.if-scale-precision.false)) fraction (taken.1 ∙ ap (λ (l : List ℕ). l ++ c.eat.new.self.0.now) (sym taken.2.0)) (omega (arith, c.if-scale-precision.false)) (omega (arith, c.if-precision-eq0.false))
    (omega (arith, ap length taken.2.0, taken.2.1, c.digits_size.ensures.size, c.digits_size-2.ensures.size, ap digits_size integer, ap digits_size fraction))

pub returns-else-integer-le-MAX_INTEGER : goal.returns-else-integer-le-MAX_INTEGER
returns-else-integer-le-MAX_INTEGER c =
    let x = c.args.buf.now.0.now in
    let taken = (exact_take_bytes _).sound x c.in_ok-packed.packed.now c.eat.new.self.0.now c.in_ok-packed.ensures in
    let integer : c.from-integer.result ≡ c.args.precision - c.args.scale = c.from-integer.ensures in
    let fraction : c.from-fraction.result ≡ c.args.scale = c.from-fraction.ensures in
    text_of_front (λ t. t.items) c.long_text.result c.args.precision c.args.scale (c.from-integer.result + c.from-fraction.result) c.from-fraction.result c.in_ok-packed.packed.now c.eat.new.self.0.now x c.long_text.ensures
    (omega (arith, integer, fraction, c.if-scale-precision.false)) fraction (taken.1 ∙ ap (λ (l : List ℕ). l ++ c.eat.new.self.0.now) (sym taken.2.0)) (omega (arith, c.if-scale-precision.false)) (omega (arith, c.if-precision-eq0.false))
    (omega (arith, ap length taken.2.0, taken.2.1, c.digits_size.ensures.size, c.digits_size-2.ensures.size, ap digits_size integer, ap digits_size fraction))
