use Rattle.std.proofs.Common.{None, Result, Some, subst, inl, inr}
use Rattle.binlog_events.specs.declared.error.FileError.{FileError}
use Rattle.binlog_file.specs.Events.{Glance}
use Rattle.binlog_file.specs.Changes.{IsMemory, spot}
use Rattle.binlog_file.specs.Workings.Glances.{GlanceSteps}
use Rattle.binlog_file.specs.TableMaps.{held_by}
use Rattle.binlog_file.proofs.Followed.{error_taken, other_taken}
use Rattle.binlog_file.proofs.changes.take_item.Goals as goal

pub returns-in-Ok-clause-takes : goal.returns-in-Ok-clause-takes
returns-in-Ok-clause-takes g c = λ p s steps.
    let here = subst (λ (r : Result Glance FileError). GlanceSteps p s (Some r) c.args.walk.now.events (held_by c.args.walk.now.tables)) c.in-Ok.is steps in
    c.take_glance.ensures.takes here.0 p s here.1 here.2.gives here.3

pub returns-in-Err-clause-takes : goal.returns-in-Err-clause-takes
returns-in-Err-clause-takes g c = λ p s steps.
    let w = g.C.Choice.wanted c.args.choice.now in
    let q = c.args.walk.now.events in
    let t = held_by c.args.walk.now.tables in
    elim (subst (λ (r : Result Glance FileError). GlanceSteps p s (Some r) q t) c.in-Err.is steps) [
      | inl gives ↦ error_taken IsMemory w s t p q q c.in-Err.error gives.gives
      | inr memory ↦ other_taken IsMemory w (spot p s None) q t c.in-Err.error memory.0
    ]
