use Rattle.std.proofs.Common.{false}
use Rattle.std.proofs.lemmas.Result.{err_from_is_err_and}
use Rattle.binlog_base.proofs.Filled.{short_answers, filled_answers, of_eight}
use Rattle.binlog_base.proofs.below.io.of_width.read_of_width.Goals as goal

pub returns-in_err-read_exact : goal.returns-in_err-read_exact
returns-in_err-read_exact g c =
    let p = err_from_is_err_and c.from_residual.result c.from_residual.ensures.1 in
    let f = g.T.OfWidth.format c.args.ctx in
    rw (p.1, p.2) (short_answers false _ f (g.met.T.OfWidth.exact c.args.ctx) (of_eight c.width.result f c.width.ensures.most c.width.ensures.width) _ _ _ _ _ c.in_err-read_exact.ensures.faults c.in_err-read_exact.ensures.counts)

pub returns : goal.returns
returns g c =
    let f = g.T.OfWidth.format c.args.ctx in
    filled_answers false _ f (g.met.T.OfWidth.exact c.args.ctx) (of_eight c.width.result f c.width.ensures.most c.width.ensures.width) c.deserialize.result _ _ _ _ c.read_exact.new.buf c.deserialize.new.buf.0.now c.read_exact.auto.buf c.in_ok-read_exact.ensures.bytes c.in_ok-read_exact.ensures.counts c.deserialize.ensures
