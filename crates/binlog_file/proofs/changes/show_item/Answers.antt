use Rattle.std.proofs.Common.{◌∙◌, Some, Result, subst, sym}
use Rattle.binlog_events.specs.declared.error.FileError.{FileError}
use Rattle.binlog_file.specs.Events.{Glance}
use Rattle.binlog_file.specs.Workings.Glances.{GlanceSteps}
use Rattle.binlog_file.specs.TableMaps.{held_by}
use Rattle.binlog_file.specs.Workings.Walks.{spot_of}
use Rattle.binlog_file.proofs.LentFollowed.{item_refused, item_failed_if}
use Rattle.binlog_file.proofs.changes.show_item.Goals as goal

pub returns-in-Err-clause-event : goal.returns-in-Err-clause-event
returns-in-Err-clause-event g c = λ old none steps.
    let q = c.args.walk.now.events in
    let t = held_by c.args.walk.now.tables in
    let refused = subst (λ (r : Result Glance FileError). GlanceSteps old.place old.in_force (Some r) q t) c.in-Err.is steps in
    item_refused (g.C.Choice.wanted c.args.choice.now) old q t c.in-Err.error (spot_of c.stop.new.self) none refused c.stop.ensures.ended

pub returns-then-is_err-clause-event : goal.returns-then-is_err-clause-event
returns-then-is_err-clause-event g c = λ old none steps.
    let q = c.args.walk.now.events in
    let t = held_by c.args.walk.now.tables in
    let glanced = subst (λ (r : Result Glance FileError). GlanceSteps old.place old.in_force (Some r) q t) c.in-Ok.is steps in
    let is = sym c.is_err.ensures.value ∙ c.if-is_err.true in
    item_failed_if (g.C.Choice.wanted c.args.choice.now) old q t c.in-Ok.glance c.show-shown.result (spot_of c.stop-then-is_err.new.self) none glanced c.show-shown.ensures.err is c.stop-then-is_err.ensures.ended
