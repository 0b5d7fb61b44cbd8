use Rattle.std.proofs.Common.{Option, None, Ok, sym, ap, subst}
use Rattle.binlog_file.specs.Events.{Glance}
use Rattle.binlog_file.specs.Stream.{ReaderGlances}
use Rattle.binlog_events.specs.declared.error.FileError.{FileError}
use Rattle.binlog_file.specs.Workings.KeptSteps.{KeepsTo}
use Rattle.binlog_file.proofs.KeptOn.{kept_taken, kept_none_left, kept_failed}
use Rattle.binlog_file.specs.Workings.Readers.{kept_by, reading_of}
use Rattle.binlog_file.specs.Workings.SourceWalks.{reading_in}
use Rattle.binlog_file.proofs.SourceFollowed.{glance_taken_from, fewer_turns_after, glance_refused_from}
use Rattle.binlog_file.proofs.source_changes.read_one.Goals as goal

pub returns-in-Ok-Some-clause-takes : goal.returns-in-Ok-Some-clause-takes
returns-in-Ok-Some-clause-takes g c =
    let old = g.S.Source.remaining c.args.source.now in
    let new = g.S.Source.remaining c.glance.new.source in
    let r = reading_in c.args.walk.now in
    let s = reading_of c.glance.new.self in
    let gives = subst (λ (o : Option Glance). ReaderGlances old r (Ok o) new s) c.in-Ok-Some.field-0-is c.in-Ok-Some.ensures.gives in
    glance_taken_from (g.C.Choice.wanted c.args.choice.now) old new r s (reading_in c.take.new.walk) c.in-Ok-Some.glance c.take.result c.take.new.walk.pending c.requires.on gives c.take.ensures.takes c.take.ensures.kept c.take.ensures.on

pub returns-in-Ok-Some-clause-fewer : goal.returns-in-Ok-Some-clause-fewer
returns-in-Ok-Some-clause-fewer g c =
    let old = g.S.Source.remaining c.args.source.now in
    let new = g.S.Source.remaining c.glance.new.source in
    let r = reading_in c.args.walk.now in
    let s = reading_of c.glance.new.self in
    let gives = subst (λ (o : Option Glance). ReaderGlances old r (Ok o) new s) c.in-Ok-Some.field-0-is c.in-Ok-Some.ensures.gives in
    fewer_turns_after old new r s (reading_in c.take.new.walk) c.in-Ok-Some.glance c.requires.on gives c.take.ensures.kept

pub returns-in-Err-clause-takes : goal.returns-in-Err-clause-takes
returns-in-Err-clause-takes g c =
    glance_refused_from (g.C.Choice.wanted c.args.choice.now) (g.S.Source.remaining c.args.source.now) (g.S.Source.remaining c.glance.new.source) (reading_in c.args.walk.now) (reading_of c.glance.new.self) c.in-Err.error c.requires.on c.in-Err.ensures.gives

pub returns-in-Ok-Some-clause-keeps : goal.returns-in-Ok-Some-clause-keeps
returns-in-Ok-Some-clause-keeps g c =
    let old = g.S.Source.remaining c.args.source.now in
    let new = g.S.Source.remaining c.glance.new.source in
    let r = reading_in c.args.walk.now in
    let s = reading_of c.glance.new.self in
    let gives = subst (λ (o : Option Glance). ReaderGlances old r (Ok o) new s) c.in-Ok-Some.field-0-is c.in-Ok-Some.ensures.gives in
    kept_taken old new r s (reading_in c.take.new.walk) c.in-Ok-Some.glance c.take.result c.take.new.walk.pending gives c.take.ensures.kept c.take.ensures.on c.take.ensures.lost c.take.ensures.not_lost c.take.ensures.told

pub returns-in-Ok-None-clause-keeps : goal.returns-in-Ok-None-clause-keeps
returns-in-Ok-None-clause-keeps g c =
    let old = g.S.Source.remaining c.args.source.now in
    let new = g.S.Source.remaining c.glance.new.source in
    let r = reading_in c.args.walk.now in
    let s = reading_of c.glance.new.self in
    let t = reading_of c.stop.new.self in
    let gives = subst (λ (o : Option Glance). ReaderGlances old r (Ok o) new s) c.in-Ok-None.field-0-is c.in-Ok-None.ensures.gives in
    subst (λ (q : Option FileError). KeepsTo old r None new t q) (sym c.requires.pending)
    (kept_none_left old new r s t gives (ap kept_by c.stop.ensures.kept) c.stop.ensures.over c.stop.ensures.lost)

pub returns-in-Err-clause-keeps : goal.returns-in-Err-clause-keeps
returns-in-Err-clause-keeps g c =
    kept_failed (g.S.Source.remaining c.args.source.now) (g.S.Source.remaining c.glance.new.source) (reading_in c.args.walk.now) (reading_of c.glance.new.self) c.in-Err.error c.in-Err.ensures.gives
