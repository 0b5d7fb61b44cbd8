use Rattle.std.proofs.Common.{ℕ, List, Ok, Err, Option, subst}
use Rattle.binlog_base.specs.Format.{Parses}
use Rattle.binlog_file.specs.Description.{Description}
use Rattle.binlog_file.specs.Events.{Raw, event_of_raw}
use Rattle.binlog_file.specs.Stream.{RawGives}
use Rattle.binlog_file.specs.Workings.Readers.{kept_by}
use Rattle.binlog_file.proofs.EventRead.{handed_on, raw_refused, event_refused, event_read}
use Rattle.binlog_file.proofs.EventErrors.{event_error, error_uncounted}
use Rattle.binlog_file.proofs.reader.read_event.Goals as goal

pub returns-in_err-raw-clause-gives : goal.returns-in_err-raw-clause-gives
returns-in_err-raw-clause-gives g c =
    let old = g.S.Source.remaining c.args.source.now in
    let new = g.S.Source.remaining c.take_raw.new.source in
    let k = kept_by c.args.kept.now in
    let e = c.in_err-raw.field-0.0 in
    handed_on old new k k c.from_residual.result e c.from_residual.ensures.1 (raw_refused old new k k e c.in_err-raw.ensures.gives)

pub returns-in_err-event-clause-gives : goal.returns-in_err-event-clause-gives
returns-in_err-event-clause-gives g c =
    let old = g.S.Source.remaining c.args.source.now in
    let new = g.S.Source.remaining c.take_raw.new.source in
    let k = kept_by c.args.kept.now in
    let e = c.in_err-event.field-0.0 in
    let raw = subst (λ (o : Option Raw). RawGives old (Ok o) new) c.in-Some.is c.in_ok-raw.ensures.gives in
    let read = subst (λ (d : Option Description). (x : List ℕ) → Parses (event_of_raw k.at d c.in-Some.raw) (Err e) x x) c.lend-in_force.ensures c.in_err-event.ensures in
    handed_on old new k k c.from_residual-in_err-event.result e c.from_residual-in_err-event.ensures.1 (event_refused old new k k c.in-Some.raw e raw read)

pub returns-clause-gives : goal.returns-clause-gives
returns-clause-gives g c =
    let old = g.S.Source.remaining c.args.source.now in
    let new = g.S.Source.remaining c.take_raw.new.source in
    let k = kept_by c.args.kept.now in
    let e = c.in_ok-event.event in
    let raw = subst (λ (o : Option Raw). RawGives old (Ok o) new) c.in-Some.is c.in_ok-raw.ensures.gives in
    let read = subst (λ (d : Option Description). (x : List ℕ) → Parses (event_of_raw k.at d c.in-Some.raw) (Ok e) x x) c.lend-in_force.ensures c.in_ok-event.ensures in
    event_read old new k (kept_by c.take.new.self) c.in-Some.raw e raw read c.in_ok-take.ensures.kept

pub returns-in_err-event-clause-counts : goal.returns-in_err-event-clause-counts
returns-in_err-event-clause-counts g c =
    let k = kept_by c.args.kept.now in
    let e = c.in_err-event.field-0.0 in
    let read = subst (λ (d : Option Description). (x : List ℕ) → Parses (event_of_raw k.at d c.in-Some.raw) (Err e) x x) c.lend-in_force.ensures c.in_err-event.ensures in
    error_uncounted c.from_residual-in_err-event.result e (g.S.Source.failures c.args.source.now) (g.S.Source.failures c.take_raw.new.source) c.from_residual-in_err-event.ensures.1
    (event_error k.at k.description c.in-Some.raw e read) c.in_ok-raw.ensures.counts
