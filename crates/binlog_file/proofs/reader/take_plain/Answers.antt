use Rattle.std.proofs.Common.{ℕ, List, Err, Option, subst}
use Rattle.binlog_base.specs.Format.{Parses}
use Rattle.binlog_file.specs.Description.{Description}
use Rattle.binlog_file.specs.Events.{event_of_raw}
use Rattle.binlog_file.specs.Workings.Readers.{kept_by}
use Rattle.binlog_file.proofs.EventErrors.{event_error, error_other}
use Rattle.binlog_file.proofs.reader.take_plain.Goals as goal

pub returns-in_err-event-clause-error : goal.returns-in_err-event-clause-error
returns-in_err-event-clause-error c =
    let k = kept_by c.args.kept.now in
    let e = c.in_err-event.field-0.0 in
    let read = subst (λ (d : Option Description). (x : List ℕ) → Parses (event_of_raw k.at d c.args.raw.now) (Err e) x x) c.lend-in_force.ensures c.in_err-event.ensures.parses in
    error_other c.from_residual.result e c.from_residual.ensures.1 (event_error k.at k.description c.args.raw.now e read)
