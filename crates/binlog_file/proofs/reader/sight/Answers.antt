use Rattle.std.proofs.Common.{Ok, Err, Option, Some, sym, subst}
use Rattle.binlog_file.specs.Events.{Raw, Glance}
use Rattle.binlog_file.specs.declared.reader.Filled.{Filled}
use Rattle.std.specs.Option.{option_map}
use Rattle.binlog_file.specs.Stream.{RawGives, GlanceGives}
use Rattle.binlog_file.specs.Workings.Readers.{kept_by, raw_in, glance_in}
use Rattle.binlog_file.specs.Workings.Taken.{TakesRaw}
use Rattle.binlog_file.proofs.Bodies.{begins_longer, taken_begins}
use Rattle.binlog_file.proofs.EventRead.{raw_refused, sighting_error, glance_read, glance_refused}
use Rattle.binlog_file.proofs.reader.sight.Goals as goal

pub returns-in_err-filled-clause-gives : goal.returns-in_err-filled-clause-gives
returns-in_err-filled-clause-gives g c =
    let old = g.S.Source.remaining c.args.source.now in
    let new = g.S.Source.remaining c.fill_event.new.source in
    let k = kept_by c.args.kept.now in
    let e = c.in_err-filled.field-0.0 in
    sighting_error (glance_in c.fill_event.new.buffer) old new k k c.from_residual.result e c.from_residual.ensures.1 (raw_refused old new k k e c.in_err-filled.ensures.gives)

pub returns-in_err-glance-clause-gives : goal.returns-in_err-glance-clause-gives
returns-in_err-glance-clause-gives g c =
    let old = g.S.Source.remaining c.args.source.now in
    let new = g.S.Source.remaining c.fill_event.new.source in
    let k = kept_by c.args.kept.now in
    let l = kept_by c.take_glance.new.kept in
    let b = c.fill_event.new.buffer in
    let e = c.in_err-glance.field-0.0 in
    let raw = subst (λ (o : Option Filled). RawGives old (Ok (option_map (raw_in b) o)) new) c.in-Some.is c.in_ok-filled.ensures.gives in
    let takes = subst (λ (r : Raw). TakesRaw k r (Err e) l) c.raw.ensures c.in_err-glance.ensures.takes in
    sighting_error (glance_in b) old new k l c.from_residual-in_err-glance.result e c.from_residual-in_err-glance.ensures.1 (glance_refused old new k l (raw_in b c.in-Some.filled) e raw takes)

pub returns-clause-gives : goal.returns-clause-gives
returns-clause-gives g c =
    let old = g.S.Source.remaining c.args.source.now in
    let new = g.S.Source.remaining c.fill_event.new.source in
    let k = kept_by c.args.kept.now in
    let l = kept_by c.take_glance.new.kept in
    let b = c.fill_event.new.buffer in
    let f = c.in-Some.filled in
    let glance = c.in_ok-glance.glance in
    let raw = subst (λ (o : Option Filled). RawGives old (Ok (option_map (raw_in b) o)) new) c.in-Some.is c.in_ok-filled.ensures.gives in
    let takes = subst (λ (r : Raw). TakesRaw k r (Ok glance) l) c.raw.ensures c.in_ok-glance.ensures.takes in
    let body = begins_longer f.rest_len glance.body b.rest.items (taken_begins k l (raw_in b f) glance takes) in
    subst (λ (x : Glance). GlanceGives old k (Ok (Some x)) new l) (sym (c.of.ensures b.rest.items body)) (glance_read old new k l (raw_in b f) glance raw takes)
