use Rattle.std.proofs.Common.{rules}
use Rattle.binlog_events.proofs.Reading.{table_chosen}
use Rattle.binlog_events.proofs.event.after_description.Goals as goal

pub returns-then-event_type-eq-TABLE_MAP : goal.returns-then-event_type-eq-TABLE_MAP
returns-then-event_type-eq-TABLE_MAP c = λ x. table_chosen c.args.position c.args.description.now c.args.header c.args.parts c.with_table.result x (search rules) (c.with_table.ensures x)
