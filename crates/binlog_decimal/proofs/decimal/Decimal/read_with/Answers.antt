use Rattle.std.proofs.Common.{rules, ◌∙◌}
use Rattle.std.proofs.lemmas.Result.{err_from_is_err_and}
use Rattle.binlog_decimal.proofs.DecimalSources.{decimal_short, decimal_filled}
use Rattle.binlog_decimal.proofs.decimal.Decimal.read_with.Goals as goal

pub returns-in_err-read_exact : goal.returns-in_err-read_exact
returns-in_err-read_exact g c =
    let p = err_from_is_err_and c.from_residual.result c.from_residual.ensures.1 in
    rw (p.1, p.2) (decimal_short c.args.precision c.args.scale c.args.keep_prec c.in_err-read_exact.field-0.0 _ _ _ _ _ c.requires.scale c.requires.some c.requires.size c.in_err-read_exact.ensures.faults c.in_err-read_exact.ensures.counts)

pub returns-then-precision-le-MAX_PRECISION : goal.returns-then-precision-le-MAX_PRECISION
returns-then-precision-le-MAX_PRECISION g c =
    decimal_filled c.args.precision c.args.scale _ c.args.keep_prec c.of_bytes.result _ _ _ _ c.read_exact.new.buf c.requires.scale c.requires.some (search rules) (c.read_exact.auto.buf ∙ c.requires.size)
    c.in_ok-read_exact.ensures.bytes c.in_ok-read_exact.ensures.counts c.of_bytes.ensures

pub returns : goal.returns
returns g c =
    decimal_filled c.args.precision c.args.scale _ c.args.keep_prec c.of_bytes-2.result _ _ _ _ c.read_exact.new.buf c.requires.scale c.requires.some (c.as_mut_slice.ensures.len ∙ c.in_ok-digits.ensures.len) (c.read_exact.auto.buf ∙ c.requires.size)
    c.in_ok-read_exact.ensures.bytes c.in_ok-read_exact.ensures.counts c.of_bytes-2.ensures
