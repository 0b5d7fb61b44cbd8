use Rattle.binlog_events.proofs.event.other_event.Goals as goal

pub returns-in-Some : goal.returns-in-Some
returns-in-Some c = rw c.in-Some.is c.after_description.ensures
