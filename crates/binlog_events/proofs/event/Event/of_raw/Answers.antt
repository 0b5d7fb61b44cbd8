use Rattle.std.proofs.Common.{rules}
use Rattle.binlog_events.proofs.Reading.{described, other}
use Rattle.binlog_events.proofs.event.Event.of_raw.Goals as goal

pub returns-then-is_description : goal.returns-then-is_description
returns-then-is_description c = λ x.
    described c.args.position c.args.in_force.now c.args.raw.now _ c.in_ok-parts.parts x c.described.result c.header-header.ensures (search rules) (search rules) (c.described.ensures x)

pub returns-else-is_description : goal.returns-else-is_description
returns-else-is_description c = λ x.
    other c.args.position c.args.in_force.now c.args.raw.now _ c.in_ok-parts.parts x c.other_event.result c.header-header.ensures (search rules) (search rules) (c.other_event.ensures x)
