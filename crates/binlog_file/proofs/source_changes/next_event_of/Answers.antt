use Rattle.std.proofs.Common.{◌≡◌, true, Option, Result, Ok, Some, None, refl, sym, ap, ◌∙◌, subst}
use Rattle.binlog_events.specs.declared.error.FileError.{FileError}
use Rattle.binlog_file.specs.declared.sighting.Sighting.{Sighting}
use Rattle.binlog_file.specs.declared.lent_changes.LentEvent.{LentEvent}
use Rattle.binlog_file.specs.Events.{Glance}
use Rattle.binlog_file.specs.Stream.{ReaderGlances}
use Rattle.binlog_file.specs.Workings.Readers.{item_in}
use Rattle.binlog_file.specs.Workings.SourceWalks.{reading_in, kept_in}
use Rattle.std.specs.Prelude.{IfOk}
use Rattle.binlog_file.proofs.KeptOn.{lost_asked}
use Rattle.binlog_file.specs.SourceChanges.{SourceAsked, lost_by}
use Rattle.binlog_file.specs.Asked.{is_asked}
use Rattle.binlog_file.specs.Workings.AskedGlances.{SourceSights}
use Rattle.binlog_file.proofs.SourceLent.{source_glanced}
use Rattle.binlog_file.proofs.SourceAsked.{asked_after}
use Rattle.binlog_file.proofs.AskedFollowed.{result_asked}
use Rattle.binlog_file.proofs.source_changes.next_event_of.Goals as goal

pub returns-in_err-sighting-clause-event : goal.returns-in_err-sighting-clause-event
returns-in_err-sighting-clause-event g c =
    let w = g.C.Choice.wanted c.args.choice.now in
    let old = g.S.Source.remaining c.args.source.now in
    let new = g.S.Source.remaining c.pass_over.new.source in
    subst (λ (i : Option (Result LentEvent FileError)). SourceAsked w c.args.types.now old (reading_in c.args.walk.now) c.args.walk.now.pending i new (reading_in c.pass_over.new.walk) c.pass_over.new.walk.pending) (sym c.from_residual.ensures)
    (c.in_err-sighting.ensures.sights w)

pub returns-in-Ok-clause-event : goal.returns-in-Ok-clause-event
returns-in-Ok-clause-event g c =
    let w = g.C.Choice.wanted c.args.choice.now in
    let types = c.args.types.now in
    let old = g.S.Source.remaining c.args.source.now in
    let new = g.S.Source.remaining c.pass_over.new.source in
    let r = reading_in c.args.walk.now in
    let p = c.args.walk.now.pending in
    let s = reading_in c.pass_over.new.walk in
    let t = reading_in c.show_event.new.walk in
    let q = c.show_event.new.walk.pending in
    let x = c.glance.result in
    let item = c.show_event.result in
    let h = subst (λ (i : Result Sighting FileError). SourceSights types old r p (item_in c.pass_over.new.buffer (Some i)) new s c.pass_over.new.walk.pending) c.in-Ok.is c.in_ok-sighting.ensures.sights in
    let gives = subst (λ (y : Glance). ReaderGlances h.0.mid h.0.at (Ok (Some y)) new s) (sym c.glance.ensures) h.0.gives in
    let asked : is_asked types x.header.event_type ≡ true = ap (λ (y : Glance). is_asked types y.header.event_type) c.glance.ensures ∙ h.0.is_asked_for in
    let event = source_glanced w h.0.mid new h.0.at s t None q x item h.0.goes_on refl gives c.show_event.ensures.ok c.show_event.ensures.err c.show_event.ensures.over c.show_event.ensures.kept (c.show_event.ensures.pending ∙ h.1) in
    asked_after w types old h.0.mid new r h.0.at t p None q (Some item) h.0.passes event
    (result_asked w (kept_in c.pass_over.new.walk).in_force.tables types x item c.show_event.ensures.ok asked)

pub returns-in-Err-clause-event : goal.returns-in-Err-clause-event
returns-in-Err-clause-event g c =
    let old = g.S.Source.remaining c.args.source.now in
    let new = g.S.Source.remaining c.pass_over.new.source in
    subst (λ (i : Result Sighting FileError). SourceSights c.args.types.now old (reading_in c.args.walk.now) c.args.walk.now.pending (item_in c.pass_over.new.buffer (Some i)) new (reading_in c.pass_over.new.walk) c.pass_over.new.walk.pending) c.in-Err.is c.in_ok-sighting.ensures.sights
    (g.C.Choice.wanted c.args.choice.now)

pub returns-in-Ok-clause-lost : goal.returns-in-Ok-clause-lost
returns-in-Ok-clause-lost g c =
    let passed = subst (λ (i : Result Sighting FileError). IfOk i (λ _. (c.args.walk.now.pending ≡ None) × (c.pass_over.new.walk.pending ≡ None))) c.in-Ok.is c.in_ok-sighting.ensures.pending in
    let lost = subst (λ (i : Result Sighting FileError). c.pass_over.new.walk.reader.is_lost ≡ lost_by c.args.walk.now.pending c.args.walk.now.reader.is_lost (Some i) c.pass_over.new.walk.pending) c.in-Ok.is c.in_ok-sighting.ensures.lost in
    lost_asked c.args.walk.now.pending c.pass_over.new.walk.pending c.show_event.new.walk.pending c.args.walk.now.reader.is_lost c.pass_over.new.walk.reader.is_lost c.show_event.new.walk.reader.is_lost c.in-Ok.sighting c.show_event.result passed.0 passed.1 c.show_event.ensures.pending lost c.show_event.ensures.lost
