use Rattle.std.proofs.Common.{ap, ◌∙◌}
use Rattle.binlog_events.specs.Tables.{InForce}
use Rattle.binlog_kept.specs.TableMaps.{in_maps}
use Rattle.binlog_kept.proofs.opened.rows_in_force.Goals as goal

pub open-requires-clause-in_force : goal.open-requires-clause-in_force
open-requires-clause-in_force c =
    ap (λ (s : InForce). s.tables c.table_id-table_id.result) c.meet.ensures.held
    ∙ ap (in_maps c.args.tables.now) c.table_id-table_id.ensures
    ∙ c.requires.in_force
