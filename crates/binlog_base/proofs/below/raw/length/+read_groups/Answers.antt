use Rattle.std.proofs.Common.{arith}
use Rattle.std.proofs.lemmas.Result.{err_from_is_err_and}
use Rattle.binlog_base.proofs.Groups.{group_fits, one_group_fits, eight_groups, more_groups}
use Rattle.binlog_base.proofs.below.raw.length.+read_groups.Goals as goal

pub returns-then-byte-lt128-clause-fits : goal.returns-then-byte-lt128-clause-fits
returns-then-byte-lt128-clause-fits t c = one_group_fits c.args.most c.from.result (omega arith) (omega arith)

pub returns-in_err-high-clause-parses : goal.returns-in_err-high-clause-parses
returns-in_err-high-clause-parses t c =
    let p = err_from_is_err_and c.from_residual-in_err-high.result c.from_residual-in_err-high.ensures.1 in
    rw (p.1, p.2) (more_groups c.args.most c.in_ok-byte.byte c.args.buf.now.0.now c.deserialize.new.buf.0.now _ (omega arith) c.in_ok-byte.ensures.parses (omega arith) c.in_err-high.ensures.parses)

pub overflow_mul-result : goal.overflow_mul-result
overflow_mul-result t c = let h = eight_groups c.args.most c.in_ok-high.high (omega arith) c.in_ok-high.ensures.fits in omega (arith, h)

pub overflow_add-result : goal.overflow_add-result
overflow_add-result t c = let h = eight_groups c.args.most c.in_ok-high.high (omega arith) c.in_ok-high.ensures.fits in omega (arith, h)

pub returns-clause-fits : goal.returns-clause-fits
returns-clause-fits t c = group_fits c.args.most c.from-2.result c.in_ok-high.high (omega arith) (omega arith) c.in_ok-high.ensures.fits
