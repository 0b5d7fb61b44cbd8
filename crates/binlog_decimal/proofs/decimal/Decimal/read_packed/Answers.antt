use Rattle.std.proofs.lemmas.Result.{err_from_is_err_and}
use Rattle.binlog_decimal.proofs.DecimalSources.{counted_no_precision, counted_no_scale, counted_then}
use Rattle.binlog_decimal.proofs.decimal.Decimal.read_packed.Goals as goal

pub returns-in_err-precision : goal.returns-in_err-precision
returns-in_err-precision g c =
    let p = err_from_is_err_and c.from_residual.result c.from_residual.ensures.1 in
    rw (p.1, p.2) (counted_no_precision c.args.keep_precision c.in_err-precision.field-0.0 _ _ _ _ c.in_err-precision.ensures)

pub returns-in_err-scale : goal.returns-in_err-scale
returns-in_err-scale g c =
    let p = err_from_is_err_and c.from_residual-in_err-scale.result c.from_residual-in_err-scale.ensures.1 in
    rw (p.1, p.2) (counted_no_scale c.args.keep_precision c.in_ok-precision.precision c.in_err-scale.field-0.0 _ _ _ _ _ _ c.in_ok-precision.ensures c.in_err-scale.ensures)

pub returns : goal.returns
returns g c =
    counted_then c.args.keep_precision c.in_ok-precision.precision c.in_ok-scale.scale c.read_bin.result _ _ _ _ _ _ _ _ c.in_ok-precision.ensures c.in_ok-scale.ensures c.read_bin.ensures.answer
