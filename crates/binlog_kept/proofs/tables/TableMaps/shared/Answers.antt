use Rattle.std.specs.Arc.{arc_value}
use Rattle.binlog_kept.proofs.SameTable.{same_table}
use Rattle.binlog_kept.proofs.tables.TableMaps.shared.Goals as goal

pub returns-in-Some-clause-same : goal.returns-in-Some-clause-same
returns-in-Some-clause-same c =
    let kept = rw c.in-Some.is at c.in_ok-kept.ensures.read in
    let read = rw c.server-server.ensures at kept in
    same_table c.args.table.now.server c.args.post_header_len c.args.body.now (arc_value c.in-Some.kept) c.args.table.now read c.requires
