use Rattle.binlog_events.proofs.Reading.{servers_table, no_servers_table}
use Rattle.binlog_events.proofs.event.read_table.Goals as goal

pub returns-in-Ok-clause-reads : goal.returns-in-Ok-clause-reads
returns-in-Ok-clause-reads c = λ x. servers_table c.args.server c.args.post_header_len c.args.body.now _ x c.in-Ok.table c.with_server.result c.in-Ok.ensures.parses c.with_server.ensures

pub returns-in-Err-clause-reads : goal.returns-in-Err-clause-reads
returns-in-Err-clause-reads c = λ x. no_servers_table c.args.server c.args.post_header_len c.args.body.now x c.in-Err.fault c.in-Err.ensures.parses
