use Rattle.std.proofs.Common.{List, ℕ, subst}
use Rattle.std.proofs.lemmas.Result.{IfOk-weaker}
use Rattle.binlog_base.specs.declared.below.columns.server.Server.TheVariants.{MySql}
use Rattle.mysql_binlog_rows.specs.Images.{pair}
use Rattle.mysql_binlog_rows.specs.Cover.{Covers}
use Rattle.mysql_binlog_rows.proofs.Runs.{read_as}
use Rattle.rows.proofs.run.decode_lines.Goals as goal

pub returns : goal.returns
returns c =
    let table = c.with_server-table.result in
    let event = c.in_ok-event.event in
    let t = read_as MySql MySql c.args.table_post_header_len c.args.table_bytes.now _ table c.in_ok-table.ensures.reads.0 c.with_server-table.ensures in
    let v = c.in_ok-event.ensures.reads in
    IfOk-weaker c.lines_of.result _ _ (λ l h. (
      h.0,
      record {
        table = table;
        event = event;
        is_table = t;
        is_event = v.0;
        covers = subst (λ (x : List ℕ). Covers (pair table event) x h.0 l.fault) c.rows.ensures.left h.1;
      },
      h.2,
    )) (c.lines_of.ensures table event c.rows.ensures.is_of.reads)
