use Rattle.std.proofs.Common.{◌≡◌, None, Ok, Option, Result, rules, sym, ap, subst}
use Rattle.binlog_file.specs.Events.{Glance}
use Rattle.binlog_file.specs.Stream.{MayGoOn, ReaderGlances}
use Rattle.binlog_events.specs.declared.error.FileError.{FileError}
use Rattle.binlog_file.specs.declared.lent_changes.LentEvent.{LentEvent}
use Rattle.binlog_file.specs.SourceChanges.{KeepsOn}
use Rattle.binlog_file.proofs.KeptOn.{kept_shown, kept_refused, kept_ended, kept_over, kept_pending}
use Rattle.binlog_file.specs.Workings.Readers.{kept_by, reading_of}
use Rattle.binlog_file.specs.Workings.SourceWalks.{reading_in}
use Rattle.binlog_file.proofs.SourceLent.{source_glanced, source_refused, fewer_left}
use Rattle.binlog_file.proofs.source_changes.next_event.Goals as goal

pub returns-in-Ok-Some-clause-event : goal.returns-in-Ok-Some-clause-event
returns-in-Ok-Some-clause-event g c =
    let old = g.S.Source.remaining c.args.source.now in
    let new = g.S.Source.remaining c.glance.new.source in
    let r = reading_in c.args.walk.now in
    let s = reading_of c.glance.new.self in
    let on : (c.args.walk.now.pending ≡ None) × MayGoOn r = search rules in
    let gives = subst (λ (o : Option Glance). ReaderGlances old r (Ok o) new s) c.in-Ok-Some.field-0-is c.in-Ok-Some.ensures.gives in
    source_glanced (g.C.Choice.wanted c.args.choice.now) old new r s (reading_in c.show_event.new.walk) c.args.walk.now.pending c.show_event.new.walk.pending c.in-Ok-Some.glance c.show_event.result on.1 on.0 gives
    c.show_event.ensures.ok c.show_event.ensures.err c.show_event.ensures.over c.show_event.ensures.kept c.show_event.ensures.pending

pub returns-in-Ok-Some-clause-fewer : goal.returns-in-Ok-Some-clause-fewer
returns-in-Ok-Some-clause-fewer g c = λ some.
    let old = g.S.Source.remaining c.args.source.now in
    let new = g.S.Source.remaining c.glance.new.source in
    let r = reading_in c.args.walk.now in
    let s = reading_of c.glance.new.self in
    let on : (c.args.walk.now.pending ≡ None) × MayGoOn r = search rules in
    let gives = subst (λ (o : Option Glance). ReaderGlances old r (Ok o) new s) c.in-Ok-Some.field-0-is c.in-Ok-Some.ensures.gives in
    fewer_left old new r s (reading_in c.show_event.new.walk) c.args.walk.now.pending c.show_event.new.walk.pending c.in-Ok-Some.glance on.1 on.0 gives c.show_event.ensures.kept c.show_event.ensures.pending

pub returns-in-Err-clause-event : goal.returns-in-Err-clause-event
returns-in-Err-clause-event g c =
    let r = reading_in c.args.walk.now in
    let on : (c.args.walk.now.pending ≡ None) × MayGoOn r = search rules in
    source_refused (g.C.Choice.wanted c.args.choice.now) (g.S.Source.remaining c.args.source.now) (g.S.Source.remaining c.glance.new.source) r (reading_of c.glance.new.self) c.args.walk.now.pending c.args.walk.now.pending c.in-Err.error on.1 on.0 c.in-Err.ensures.gives on.0

pub returns-in_err-error-clause-keeps : goal.returns-in_err-error-clause-keeps
returns-in_err-error-clause-keeps g c =
    let old = g.S.Source.remaining c.args.source.now in
    let r = reading_in c.args.walk.now in
    let t = reading_in c.end.new.self in
    let none : c.args.walk.now.pending ≡ None = search rules in
    let stops : (c.args.walk.now.pending ≡ None) × MayGoOn r → ⊥ = search rules in
    subst (λ (i : Option (Result LentEvent FileError)). KeepsOn old r i old t) (sym c.from_residual.ensures)
    (kept_over LentEvent old r t (λ on. stops (none, on)) c.in_err-error.ensures.kept)

pub returns-then-not-goes_on-clause-keeps : goal.returns-then-not-goes_on-clause-keeps
returns-then-not-goes_on-clause-keeps g c =
    kept_pending LentEvent (g.S.Source.remaining c.args.source.now) (reading_in c.args.walk.now) (reading_in c.end.new.self) c.in_ok-error.error c.in_ok-error.ensures.kept

pub returns-in-Ok-Some-clause-keeps : goal.returns-in-Ok-Some-clause-keeps
returns-in-Ok-Some-clause-keeps g c =
    let old = g.S.Source.remaining c.args.source.now in
    let new = g.S.Source.remaining c.glance.new.source in
    let r = reading_in c.args.walk.now in
    let s = reading_of c.glance.new.self in
    let gives = subst (λ (o : Option Glance). ReaderGlances old r (Ok o) new s) c.in-Ok-Some.field-0-is c.in-Ok-Some.ensures.gives in
    kept_shown old new r s (reading_in c.show_event.new.walk) c.in-Ok-Some.glance c.show_event.result gives c.show_event.ensures.kept

pub returns-in-Ok-None-clause-keeps : goal.returns-in-Ok-None-clause-keeps
returns-in-Ok-None-clause-keeps g c =
    let old = g.S.Source.remaining c.args.source.now in
    let new = g.S.Source.remaining c.glance.new.source in
    let r = reading_in c.args.walk.now in
    let s = reading_of c.glance.new.self in
    let gives = subst (λ (o : Option Glance). ReaderGlances old r (Ok o) new s) c.in-Ok-None.field-0-is c.in-Ok-None.ensures.gives in
    kept_ended LentEvent old new r s (reading_of c.stop.new.self) gives (ap kept_by c.stop.ensures.kept)

pub returns-in-Err-clause-keeps : goal.returns-in-Err-clause-keeps
returns-in-Err-clause-keeps g c =
    kept_refused LentEvent (g.S.Source.remaining c.args.source.now) (g.S.Source.remaining c.glance.new.source) (reading_in c.args.walk.now) (reading_of c.glance.new.self) c.in-Err.error c.in-Err.ensures.gives
