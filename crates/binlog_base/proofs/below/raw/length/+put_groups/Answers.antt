use Rattle.std.proofs.Common.{sym, append-nil, arith}
use Rattle.std.proofs.lemmas.Result.{err_from_is_err_and}
use Rattle.binlog_base.proofs.Groups.{no_group, last_group, first_group}
use Rattle.binlog_base.proofs.Appending.{appends_then, begins_more}
use Rattle.binlog_base.proofs.below.raw.length.+put_groups.Goals as goal

pub returns-then-most-eq0 : goal.returns-then-most-eq0
returns-then-most-eq0 t c = let e = no_group c.args.most c.args.value (omega arith) in rw e (sym (append-nil c.args.buf.now.items))

pub returns-then-value-lt128 : goal.returns-then-value-lt128
returns-then-value-lt128 t c = let e = last_group c.args.most c.args.value (omega arith) (omega arith) in rw e c.put_byte.ensures

pub returns-in_err-put_byte : goal.returns-in_err-put_byte
returns-in_err-put_byte t c =
    let e = first_group c.args.most c.args.value (omega arith) (omega arith) in
    let p = err_from_is_err_and c.from_residual.result c.from_residual.ensures.1 in
    rw (e, p.1) (begins_more _ _ _ _ c.in_err-put_byte.ensures)

pub returns : goal.returns
returns t c =
    let e = first_group c.args.most c.args.value (omega arith) (omega arith) in
    rw e (appends_then _ _ _ _ _ _ c.in_ok-put_byte.ensures c.put_groups.ensures)
