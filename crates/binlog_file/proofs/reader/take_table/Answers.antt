use Rattle.std.proofs.Common.{◌≡◌, ◌++◌, Option, Result, Ok, Err, sym, subst, ap, ◌∙◌, inl, inr}
use Rattle.std.specs.Arc.{arc_value}
use Rattle.std.specs.Result.{IsErrAnd}
use Rattle.binlog_events.specs.declared.error.EventError.{EventError}
use Rattle.binlog_file.specs.Description.{Description}
use Rattle.binlog_file.specs.Events.{Raw, Glance, event_of_raw}
use Rattle.binlog_file.specs.Tables.{InForce}
use Rattle.binlog_file.specs.Workings.TableBodies.{event_with, LeavesTable}
use Rattle.binlog_file.specs.Stream.{Kept, kept, kept_after, HasBytes}
use Rattle.binlog_file.specs.Workings.Taken.{TakesRaw}
use Rattle.binlog_file.specs.Workings.Readers.{kept_by}
use Rattle.binlog_file.specs.TableMaps.{held_by}
use Rattle.binlog_file.proofs.EventErrors.{event_error, error_other, memory_error}
use Rattle.binlog_file.proofs.reader.take_table.Goals as goal

-- an error that is handed on
handed_on : (k l : Kept) (r : Raw) (result : Result Glance EventError) (e : EventError) → IsErrAnd result (λ d. d ≡ e) → TakesRaw k r (Err e) l → TakesRaw k r result l
handed_on k l r (Ok g) e is h = absurd is
handed_on k l r (Err d) e is h = subst (λ (x : EventError). TakesRaw k r (Err x) l) (sym is) h

pub returns-in_err-table-clause-takes : goal.returns-in_err-table-clause-takes
returns-in_err-table-clause-takes c =
    let k = kept_by c.args.kept.now in
    let e = c.in_err-table.field-0.0 in
    let left = subst (λ (d : Option Description). LeavesTable (event_of_raw k.at d c.args.raw.now) (Ok c.in_ok-event.event)) c.lend-in_force.ensures c.in_ok-event.ensures.leaves in
    let l = kept k.at k.description (held_by c.table.new.tables) k.stored in
    handed_on k l c.args.raw.now c.from_residual-in_err-table.result e c.from_residual-in_err-table.ensures.1 (elim c.in_err-table.ensures.err [
      | inl memory ↦ inl (inr memory)
      | inr refused ↦ inr (left.1 e refused)
    ])

pub returns-clause-takes : goal.returns-clause-takes
returns-clause-takes c =
    let k = kept_by c.args.kept.now in
    let u = c.in_ok-event.event in
    let t = arc_value c.in_ok-table.table in
    let left = subst (λ (d : Option Description). LeavesTable (event_of_raw k.at d c.args.raw.now) (Ok u)) c.lend-in_force.ensures c.in_ok-event.ensures.leaves in
    let same = ap (λ (s : InForce). kept_after (kept k.at k.description s k.stored) (c.args.raw.now.head ++ c.args.raw.now.rest) (event_with u t)) c.table.ensures.held in
    (event_with u t, c.glance.ensures t, left.0 t c.in_ok-table.ensures.ok, c.in_ok-take_table.ensures.kept ∙ same)

pub returns-in_err-event-clause-error : goal.returns-in_err-event-clause-error
returns-in_err-event-clause-error c =
    let k = kept_by c.args.kept.now in
    let e = c.in_err-event.field-0.0 in
    let left = subst (λ (d : Option Description). LeavesTable (event_of_raw k.at d c.args.raw.now) (Err e)) c.lend-in_force.ensures c.in_err-event.ensures.leaves in
    error_other c.from_residual.result e c.from_residual.ensures.1 (event_error k.at k.description c.args.raw.now e left)

pub returns-in_err-table-clause-error : goal.returns-in_err-table-clause-error
returns-in_err-table-clause-error c =
    let k = kept_by c.args.kept.now in
    let e = c.in_err-table.field-0.0 in
    let left = subst (λ (d : Option Description). LeavesTable (event_of_raw k.at d c.args.raw.now) (Ok c.in_ok-event.event)) c.lend-in_force.ensures c.in_ok-event.ensures.leaves in
    let other : HasBytes e = elim c.in_err-table.ensures.err [
      | inl memory ↦ memory_error e memory
      | inr refused ↦ event_error k.at k.description c.args.raw.now e (left.1 e refused)
    ] in
    error_other c.from_residual-in_err-table.result e c.from_residual-in_err-table.ensures.1 other
