use Rattle.std.proofs.Common.{ℕ, List, sym, subst}
use Rattle.mysql_binlog_rows.specs.RowsEvent.{EndsWith}
use Rattle.mysql_binlog_rows.specs.Lemmas.RowsEvent.{rows_data_last}
use Rattle.mysql_binlog_rows.proofs.rows_event.event.RowsEvent.read_lent.Goals as goal

pub same_end-rows_data-requires : goal.same_end-rows_data-requires
same_end-rows_data-requires c =
    let body = c.args.buf.now.0.now in
    let ends = rows_data_last c.args.ctx body c.in_ok-event.event c.in_ok-event.ensures.reads.0 in
    subst (λ (end : List ℕ). EndsWith body end) (sym c.rows_data.ensures.bytes) ends
