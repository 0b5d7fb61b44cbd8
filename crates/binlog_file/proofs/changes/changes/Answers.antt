use Rattle.binlog_file.proofs.Followed.{no_file}
use Rattle.binlog_file.proofs.changes.changes.Goals as goal

pub returns-in-Err : goal.returns-in-Err
returns-in-Err g c = no_file (g.C.Choice.wanted c.args.choice) c.args.file.now c.new-in-Err.result.items c.in-Err.error c.new-in-Err.ensures.items c.in-Err.ensures.err.0 c.in-Err.ensures.err.1
