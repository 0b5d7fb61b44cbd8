use Rattle.mysql_binlog_rows.specs.Lemmas.RowsEventWritten.{written_rows_event_spelled, read_keeps_extra_data, written_rows_event_reads_back}
use Rattle.mysql_binlog_rows.proofs.laws.written_rows_events_read_back.Goals as goal

pub returns-clause-spelled : goal.returns-clause-spelled
returns-clause-spelled c = written_rows_event_spelled

pub returns-clause-keeps : goal.returns-clause-keeps
returns-clause-keeps c = read_keeps_extra_data

pub returns-clause-reads_back : goal.returns-clause-reads_back
returns-clause-reads_back c = written_rows_event_reads_back
