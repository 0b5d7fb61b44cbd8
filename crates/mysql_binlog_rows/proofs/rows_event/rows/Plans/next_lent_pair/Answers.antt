use Rattle.std.proofs.Common.{sym, ◌∙◌, arith}
use Rattle.std.proofs.lemmas.Result.{err_from_is_err_and}
use Rattle.mysql_binlog_rows.specs.Images.{pair}
use Rattle.mysql_binlog_rows.specs.Lemmas.Images.{exact_pair}
use Rattle.mysql_binlog_rows.proofs.Pairs.{pair_found, empty_pair, no_pair}
use Rattle.mysql_binlog_rows.proofs.rows_event.rows.Plans.next_lent_pair.Goals as goal

pub returns-in_err-read_lent : goal.returns-in_err-read_lent
returns-in_err-read_lent c =
    let p = err_from_is_err_and c.from_residual.result c.from_residual.ensures.1 in
    rw (p.1, p.2) (record {
      pair = λ t e reads other. no_pair (pair t e) (exact_pair t e) c.args.rows_data.now _ (sym (reads c.args.rows_data.now) ∙ c.in_err-read_lent.ensures other);
      shrinks = tt;
    })

pub returns-then-buf-rows_data : goal.returns-then-buf-rows_data
returns-then-buf-rows_data c = record {
  pair = λ t e reads other. empty_pair (pair t e) (exact_pair t e) c.args.rows_data.now c.read_lent.new.buf.0.now c.read_lent.new.pair (sym (reads c.args.rows_data.now) ∙ c.in_ok-read_lent.ensures) (omega arith);
  shrinks = tt;
}

pub returns-clause-pair : goal.returns-clause-pair
returns-clause-pair c = λ t e reads. pair_found (pair t e) (exact_pair t e) c.args.rows_data.now c.read_lent.new.buf.0.now c.read_lent.new.pair (sym (reads c.args.rows_data.now) ∙ c.in_ok-read_lent.ensures) (omega arith)
