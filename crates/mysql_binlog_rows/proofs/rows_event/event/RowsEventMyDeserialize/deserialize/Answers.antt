use Rattle.std.proofs.Common.{true, false}
use Rattle.binlog_base.specs.Lemmas.Format.{reads_from_parses}
use Rattle.mysql_binlog_rows.specs.RowsEvent as Spec
use Rattle.mysql_binlog_rows.specs.Lemmas.RowsEvent.{exact_rows_event}
use Rattle.mysql_binlog_rows.proofs.rows_event.event.RowsEventMyDeserialize.deserialize.Goals as goal

pub returns-clause-reads : goal.returns-clause-reads
returns-clause-reads c =
    let x = c.args.ctx in
    reads_from_parses true false _ (Spec.rows_event x) (exact_rows_event x) c.read.result c.args.buf.now.0.now c.read.new.buf.0.now c.read.ensures
