use Rattle.std.proofs.Common.{None, sym, inl, inr}
use Rattle.std.proofs.lemmas.Result.{err_from_is_err_and, IfOk-weaker, IfErr-weaker}
use Rattle.binlog_base.specs.declared.below.columns.server.Server.TheVariants.{MySql}
use Rattle.mysql_binlog_rows.proofs.Runs.{decoded_one, all_decode, table_refused, event_refused, none_refused, read_as, refused_as, fault_as}
use Rattle.mysql_binlog_rows.proofs.rows_event.decode.decode_pairs_of.Goals as goal

pub returns-in_err-table : goal.returns-in_err-table
returns-in_err-table c =
    let p = err_from_is_err_and c.from_residual.result c.from_residual.ensures.1 in
    let bytes = c.args.table_bytes.now in
    let n = c.args.table_post_header_len in
    let fault = c.in_err-table.field-0.0 in
    rw (p.1, p.2) (record {
      covers = tt;
      unique = tt;
      complete = tt;
      err = λ other. inl (refused_as MySql c.args.server n bytes _ c.in_err-table.ensures.reads);
      refused = λ e refused. table_refused _ fault e (fault_as MySql c.args.server n bytes fault c.in_err-table.ensures.parses) refused;
    })

pub returns-in_err-event : goal.returns-in_err-event
returns-in_err-event c =
    let p = err_from_is_err_and c.from_residual-in_err-event.result c.from_residual-in_err-event.ensures.1 in
    let t = read_as MySql c.args.server c.args.table_post_header_len c.args.table_bytes.now _ c.with_server-table.result c.in_ok-table.ensures.reads.0 c.with_server-table.ensures in
    rw (p.1, p.2) (record {
      covers = tt;
      unique = tt;
      complete = tt;
      err = λ other. inr (c.with_server-table.result, t, c.in_err-event.ensures.reads);
      refused = λ e refused. event_refused _ c.with_server-table.result c.in_err-event.field-0.0 e t c.in_err-event.ensures.parses refused;
    })

pub returns : goal.returns
returns c =
    let t = read_as MySql c.args.server c.args.table_post_header_len c.args.table_bytes.now _ c.with_server-table.result c.in_ok-table.ensures.reads.0 c.with_server-table.ensures in
    let v = c.in_ok-event.ensures.reads in
    let covers = IfOk-weaker c.pairs_of.result _ _ (λ d h. record { table = c.with_server-table.result; event = c.in_ok-event.event; is_table = t; is_event = v.0; covers = h }) c.pairs_of.ensures.covers in
    record {
      covers = covers;
      unique = IfOk-weaker c.pairs_of.result _ _ (λ d h. λ pairs end other. decoded_one _ pairs _ end _ other h) covers;
      complete = IfOk-weaker c.pairs_of.result _ _ (λ d h. λ parts pairs all.
          let one = decoded_one _ pairs _ None _ (all_decode _ parts pairs all) h in
          (one.0, sym one.1)) covers;
      err = IfErr-weaker c.pairs_of.result _ _ (λ e memory. λ other. absurd (other memory)) c.pairs_of.ensures.err;
      refused = λ e refused. absurd (none_refused _ c.with_server-table.result c.in_ok-event.event e t v.0 refused);
    }
