use Rattle.std.proofs.Common.{ℕ, List, ap, sym, ◌∙◌, ◌≡◌, ◌-◌, ◌++◌, length, arith}
use Rattle.std.proofs.lemmas.Result.{err_from_is_err_and}
use Rattle.binlog_base.specs.Lemmas.Format.{exact_take_bytes}
use Rattle.binlog_decimal.specs.Decimals.{digits_size}
use Rattle.binlog_decimal.proofs.DecimalSources.{none_lent, none_read, lent_short, lent_whole, lent_front, lent_refused}
use Rattle.binlog_decimal.proofs.decimal.packed.PackedDecimal.read.Goals as goal

pub invariant_of-result : goal.invariant_of-result
invariant_of-result c = none_lent c.args.precision c.args.scale (omega (arith, c.if-scale-precision.false)) (omega (arith, c.if-precision-eq0.true))

pub returns-then-precision-eq0 : goal.returns-then-precision-eq0
returns-then-precision-eq0 c = none_read c.args.precision c.args.scale c.args.buf.now.0.now (omega (arith, c.if-scale-precision.false)) (omega (arith, c.if-precision-eq0.true))

pub returns-in_err-packed : goal.returns-in_err-packed
returns-in_err-packed c =
    let p = err_from_is_err_and c.from_residual.result c.from_residual.ensures.1 in
    let x = c.args.buf.now.0.now in
    let e = c.in_err-packed.field-0.0 in
    let short = (exact_take_bytes _).refused_sound x e c.in_err-packed.ensures in
    rw (p.1, p.2, short.1) (lent_short c.args.precision c.args.scale x (omega (arith, c.if-scale-precision.false)) (omega (arith, c.if-precision-eq0.false)) (omega (arith, short.0, c.digits_size.ensures.size, c.digits_size-2.ensures.size)))

pub returns-in_err-check : goal.returns-in_err-check
returns-in_err-check c =
    let p = err_from_is_err_and c.from_residual-in_err-check.result c.from_residual-in_err-check.ensures.1 in
    let x = c.args.buf.now.0.now in
    let packed = c.in_ok-packed.packed.now in
    let more = c.eat.new.self.0.now in
    let taken = (exact_take_bytes _).sound x packed more c.in_ok-packed.ensures in
    let integer : c.from-integer.result ≡ c.args.precision - c.args.scale = c.from-integer.ensures in
    let fraction : c.from-fraction.result ≡ c.args.scale = c.from-fraction.ensures in
    rw (p.1, p.2)
    (lent_refused c.args.precision c.args.scale c.from-integer.result c.from-fraction.result packed more x _ c.in_err-check.ensures integer fraction (taken.1 ∙ ap (λ (l : List ℕ). l ++ more) (sym taken.2.0))
    (omega (arith, c.if-scale-precision.false)) (omega (arith, c.if-precision-eq0.false))
    (omega (arith, ap length taken.2.0, taken.2.1, c.digits_size.ensures.size, c.digits_size-2.ensures.size, ap digits_size integer, ap digits_size fraction)))

pub invariant_of-result-2 : goal.invariant_of-result-2
invariant_of-result-2 c =
    lent_whole c.args.precision c.args.scale c.from-integer.result c.from-fraction.result c.in_ok-packed.packed.now c.in_ok-check.ensures c.from-integer.ensures c.from-fraction.ensures
    (omega (arith, c.if-scale-precision.false)) (omega (arith, c.if-precision-eq0.false))

pub returns : goal.returns
returns c =
    let x = c.args.buf.now.0.now in
    let packed = c.in_ok-packed.packed.now in
    let more = c.eat.new.self.0.now in
    let taken = (exact_take_bytes _).sound x packed more c.in_ok-packed.ensures in
    let integer : c.from-integer.result ≡ c.args.precision - c.args.scale = c.from-integer.ensures in
    let fraction : c.from-fraction.result ≡ c.args.scale = c.from-fraction.ensures in
    lent_front c.args.precision c.args.scale packed more x
    (lent_whole c.args.precision c.args.scale c.from-integer.result c.from-fraction.result packed c.in_ok-check.ensures integer fraction (omega (arith, c.if-scale-precision.false)) (omega (arith, c.if-precision-eq0.false)))
    (taken.1 ∙ ap (λ (l : List ℕ). l ++ more) (sym taken.2.0))
    (omega (arith, c.if-scale-precision.false)) (omega (arith, c.if-precision-eq0.false))
    (omega (arith, ap length taken.2.0, taken.2.1, c.digits_size.ensures.size, c.digits_size-2.ensures.size, ap digits_size integer, ap digits_size fraction))
