use Rattle.std.proofs.Common.{◌≡◌, false, Option, Result, Ok, Err, Some, None, rules, arith, refl, sym, ap, ◌∙◌, subst}
use Rattle.std.specs.Option.{option_map}
use Rattle.binlog_events.specs.declared.error.FileError.{FileError}
use Rattle.binlog_file.specs.declared.sighting.Sighting.{Sighting}
use Rattle.binlog_file.specs.Stream.{MayGoOn, ReaderGlances}
use Rattle.binlog_file.specs.Workings.Readers.{reading_of, glance_in, item_in}
use Rattle.binlog_file.specs.Workings.SourceWalks.{reading_in}
use Rattle.binlog_file.specs.SourceChanges.{SourcePasses, here}
use Rattle.binlog_file.specs.Asked.{is_asked}
use Rattle.binlog_file.specs.Workings.AskedGlances.{SourceSights}
use Rattle.binlog_file.proofs.SourceFollowed.{fewer_turns_after}
use Rattle.binlog_file.proofs.SourceLent.{source_ended, source_refused, source_over, source_pending, fewer_left}
use Rattle.binlog_file.proofs.SourceAsked.{none_passed, one_passed, asked_after}
use Rattle.binlog_file.proofs.KeptOn.{one_read, more_read, still_on}
use Rattle.binlog_file.proofs.source_changes.pass_over.Goals as goal

pub loop-walk-init : goal.loop-walk-init
loop-walk-init g c = record {
  passes = none_passed c.args.types.now (g.S.Source.remaining c.args.source.now) (reading_in c.args.walk.now) c.args.walk.now.pending;
  most = omega arith;
  bound = refl;
  pending = refl;
  keeps = here;
  over = refl;
  lost = refl;
  counts = refl;
}

pub returns-then-is_asked-clause-sights : goal.returns-then-is_asked-clause-sights
returns-then-is_asked-clause-sights g c =
    let types = c.args.types.now in
    let old = g.S.Source.remaining c.args.source.now in
    let mid = g.S.Source.remaining c.loop-walk.source in
    let new = g.S.Source.remaining c.sight.new.source in
    let r = reading_in c.args.walk.now in
    let m = reading_in c.loop-walk.walk in
    let b = c.sight.new.buffer in
    let on : (c.loop-walk.walk.pending ≡ None) × MayGoOn m = search rules in (
      record {
        mid = mid;
        at = m;
        passes = subst (λ (k : Option FileError). SourcePasses types old r c.args.walk.now.pending mid m k) on.0 c.loop-walk.invariant.passes;
        goes_on = on.1;
        gives = subst (λ (o : Option Sighting). ReaderGlances mid m (Ok (option_map (glance_in b) o)) new (reading_of c.sight.new.self)) c.in-Ok-Some.field-0-is c.in-Ok-Some.ensures.gives;
        is_asked_for = ap (is_asked types) (sym c.event_type.ensures) ∙ sym c.is_asked.ensures ∙ c.if-is_asked.true;
      },
      on.0,
    )

pub returns-then-is_asked-clause-keeps : goal.returns-then-is_asked-clause-keeps
returns-then-is_asked-clause-keeps g c =
    let old = g.S.Source.remaining c.args.source.now in
    let mid = g.S.Source.remaining c.loop-walk.source in
    let new = g.S.Source.remaining c.sight.new.source in
    let r = reading_in c.args.walk.now in
    let m = reading_in c.loop-walk.walk in
    let s = reading_of c.sight.new.self in
    let b = c.sight.new.buffer in
    let gives = subst (λ (o : Option Sighting). ReaderGlances mid m (Ok (option_map (glance_in b) o)) new s) c.in-Ok-Some.field-0-is c.in-Ok-Some.ensures.gives in
    more_read old mid r.kept m.kept new s.kept c.loop-walk.invariant.keeps (one_read mid new m s (glance_in b c.in-Ok-Some.sighting) gives)

pub returns-then-is_asked-clause-fewer : goal.returns-then-is_asked-clause-fewer
returns-then-is_asked-clause-fewer g c = λ some.
    let mid = g.S.Source.remaining c.loop-walk.source in
    let new = g.S.Source.remaining c.sight.new.source in
    let m = reading_in c.loop-walk.walk in
    let s = reading_of c.sight.new.self in
    let b = c.sight.new.buffer in
    let pending = c.loop-walk.walk.pending in
    let on : (pending ≡ None) × MayGoOn m = search rules in
    let gives = subst (λ (o : Option Sighting). ReaderGlances mid m (Ok (option_map (glance_in b) o)) new s) c.in-Ok-Some.field-0-is c.in-Ok-Some.ensures.gives in
    omega (arith, fewer_left mid new m s s pending pending (glance_in b c.in-Ok-Some.sighting) on.1 on.0 gives refl refl, c.loop-walk.invariant.most)

pub loop-walk-smaller : goal.loop-walk-smaller
loop-walk-smaller g c =
    let mid = g.S.Source.remaining c.loop-walk.source in
    let new = g.S.Source.remaining c.sight.new.source in
    let m = reading_in c.loop-walk.walk in
    let s = reading_of c.sight.new.self in
    let b = c.sight.new.buffer in
    let on : (c.loop-walk.walk.pending ≡ None) × MayGoOn m = search rules in
    let gives = subst (λ (o : Option Sighting). ReaderGlances mid m (Ok (option_map (glance_in b) o)) new s) c.in-Ok-Some.field-0-is c.in-Ok-Some.ensures.gives in
    fewer_turns_after mid new m s s (glance_in b c.in-Ok-Some.sighting) on.1 gives refl

pub loop-walk-preserved : goal.loop-walk-preserved
loop-walk-preserved g c =
    let types = c.args.types.now in
    let old = g.S.Source.remaining c.args.source.now in
    let mid = g.S.Source.remaining c.loop-walk.source in
    let new = g.S.Source.remaining c.sight.new.source in
    let r = reading_in c.args.walk.now in
    let p = c.args.walk.now.pending in
    let m = reading_in c.loop-walk.walk in
    let s = reading_of c.sight.new.self in
    let b = c.sight.new.buffer in
    let glance = glance_in b c.in-Ok-Some.sighting in
    let pending = c.loop-walk.walk.pending in
    let on : (pending ≡ None) × MayGoOn m = search rules in
    let gives = subst (λ (o : Option Sighting). ReaderGlances mid m (Ok (option_map (glance_in b) o)) new s) c.in-Ok-Some.field-0-is c.in-Ok-Some.ensures.gives in
    let passes = subst (λ (k : Option FileError). SourcePasses types old r p mid m k) on.0 c.loop-walk.invariant.passes in
    let not : is_asked types glance.header.event_type ≡ false = ap (is_asked types) (sym c.event_type.ensures) ∙ sym c.is_asked.ensures ∙ c.if-is_asked.false in
    record {
      passes = subst (λ (k : Option FileError). SourcePasses types old r p new s k) (sym on.0) (one_passed types old mid new r m s p glance passes on.1 gives not);
      most = omega (arith, fewer_left mid new m s s pending pending glance on.1 on.0 gives refl refl, c.loop-walk.invariant.most);
      bound = search rules;
      pending = c.loop-walk.invariant.pending;
      keeps = more_read old mid r.kept m.kept new s.kept c.loop-walk.invariant.keeps (one_read mid new m s glance gives);
      over = still_on mid new m s glance gives ∙ sym on.1.0 ∙ c.loop-walk.invariant.over;
      lost = gives.lost ∙ c.loop-walk.invariant.lost;
      counts = c.in-Ok-Some.ensures.counts ∙ c.loop-walk.invariant.counts;
    }

pub returns-in-Ok-None-clause-sights : goal.returns-in-Ok-None-clause-sights
returns-in-Ok-None-clause-sights g c = λ wanted.
    let mid = g.S.Source.remaining c.loop-walk.source in
    let new = g.S.Source.remaining c.sight.new.source in
    let m = reading_in c.loop-walk.walk in
    let s = reading_of c.sight.new.self in
    let t = reading_of c.stop.new.self in
    let pending = c.loop-walk.walk.pending in
    let on : (pending ≡ None) × MayGoOn m = search rules in
    let gives = subst (λ (o : Option Sighting). ReaderGlances mid m (Ok (option_map (glance_in c.sight.new.buffer) o)) new s) c.in-Ok-None.field-0-is c.in-Ok-None.ensures.gives in
    asked_after wanted c.args.types.now (g.S.Source.remaining c.args.source.now) mid new (reading_in c.args.walk.now) m t c.args.walk.now.pending pending pending None c.loop-walk.invariant.passes
    (source_ended wanted mid new m s t pending pending on.1 on.0 gives c.stop.ensures.over on.0) tt

pub returns-in-Err-clause-sights : goal.returns-in-Err-clause-sights
returns-in-Err-clause-sights g c = λ wanted.
    let mid = g.S.Source.remaining c.loop-walk.source in
    let new = g.S.Source.remaining c.sight.new.source in
    let m = reading_in c.loop-walk.walk in
    let s = reading_of c.sight.new.self in
    let pending = c.loop-walk.walk.pending in
    let on : (pending ≡ None) × MayGoOn m = search rules in
    asked_after wanted c.args.types.now (g.S.Source.remaining c.args.source.now) mid new (reading_in c.args.walk.now) m s c.args.walk.now.pending pending pending (Some (Err c.in-Err.error)) c.loop-walk.invariant.passes
    (source_refused wanted mid new m s pending pending c.in-Err.error on.1 on.0 c.in-Err.ensures.gives on.0) tt

pub returns-in_err-error-clause-sights : goal.returns-in_err-error-clause-sights
returns-in_err-error-clause-sights g c =
    let types = c.args.types.now in
    let old = g.S.Source.remaining c.args.source.now in
    let mid = g.S.Source.remaining c.loop-walk.source in
    let r = reading_in c.args.walk.now in
    let p = c.args.walk.now.pending in
    let m = reading_in c.loop-walk.walk in
    let t = reading_in c.end.new.self in
    let pending = c.loop-walk.walk.pending in
    let none : pending ≡ None = search rules in
    let stops : (pending ≡ None) × MayGoOn m → ⊥ = search rules in
    subst (λ (i : Option (Result Sighting FileError)). SourceSights types old r p (item_in c.loop-walk.buffer i) mid t c.end.new.self.pending) (sym c.from_residual.ensures)
    (λ wanted. asked_after wanted types old mid mid r m t p pending c.end.new.self.pending None c.loop-walk.invariant.passes
    (source_over wanted mid m t pending c.end.new.self.pending stops none c.in_err-error.ensures.over c.in_err-error.ensures.pending) tt)

pub returns-clause-sights : goal.returns-clause-sights
returns-clause-sights g c = λ wanted.
    let mid = g.S.Source.remaining c.loop-walk.source in
    let m = reading_in c.loop-walk.walk in
    let t = reading_in c.end.new.self in
    let pending = c.loop-walk.walk.pending in
    let is : pending ≡ Some c.in_ok-error.error = search rules in
    asked_after wanted c.args.types.now (g.S.Source.remaining c.args.source.now) mid mid (reading_in c.args.walk.now) m t c.args.walk.now.pending pending c.end.new.self.pending (Some (Err c.in_ok-error.error)) c.loop-walk.invariant.passes
    (source_pending wanted mid m t pending c.end.new.self.pending c.in_ok-error.error is c.in_ok-error.ensures.over c.in_ok-error.ensures.pending) tt
