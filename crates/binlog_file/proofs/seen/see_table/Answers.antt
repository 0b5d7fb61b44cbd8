use Rattle.std.proofs.Common.{◌≡◌, ℕ, Option, None, Result, Ok, Err, sym, subst, ap, ◌∙◌, inl, inr}
use Rattle.std.specs.Arc.{arc_value}
use Rattle.std.specs.Result.{IsErrAnd}
use Rattle.binlog_events.specs.declared.error.EventError.{EventError}
use Rattle.binlog_file.specs.Description.{Description}
use Rattle.binlog_file.specs.Events.{Raw, Glance}
use Rattle.binlog_file.specs.Tables.{InForce, in_force_after}
use Rattle.binlog_file.specs.Workings.TableBodies.{event_with}
use Rattle.binlog_file.specs.TableMaps.{held_by}
use Rattle.binlog_file.specs.Workings.Glances.{Seen, seen, SeesRaw}
use Rattle.binlog_file.proofs.TablesLeft.{held_as}
use Rattle.binlog_file.proofs.seen.see_table.Goals as goal

-- an error that is handed on
handed_on : (at : ℕ) (d : Option Description) (s t : InForce) (r : Raw) (result : Result Seen EventError) (e : EventError) → IsErrAnd result (λ d. d ≡ e) → SeesRaw at d s r (Err e) t → SeesRaw at d s r result t
handed_on at d s t r (Ok g) e is h = absurd is
handed_on at d s t r (Err f) e is h = subst (λ (x : EventError). SeesRaw at d s r (Err x) t) (sym is) h

pub returns-in_err-table-clause-sees : goal.returns-in_err-table-clause-sees
returns-in_err-table-clause-sees c =
    let e = c.in_err-table.field-0.0 in
    handed_on c.args.position c.args.in_force.now (held_by c.args.tables.now) (held_by c.table.new.tables) c.args.raw.now c.from_residual-in_err-table.result e c.from_residual-in_err-table.ensures.1 (elim c.in_err-table.ensures.err [
      | inl memory ↦ inl memory
      | inr refused ↦ inr (c.in_ok-event.ensures.leaves.1 e refused)
    ])

pub returns-clause-sees : goal.returns-clause-sees
returns-clause-sees c =
    let e = event_with c.in_ok-event.event (arc_value c.in_ok-table.table) in
    let held = held_as (held_by c.take_table.new.self) (in_force_after (held_by c.table.new.tables) e) c.in_ok-take_table.ensures.tables c.in_ok-take_table.ensures.ended in (
      e,
      ap (λ (g : Glance). seen g None) (c.glance.ensures (arc_value c.in_ok-table.table)),
      c.in_ok-event.ensures.leaves.0 (arc_value c.in_ok-table.table) c.in_ok-table.ensures.ok,
      held ∙ ap (λ (s : InForce). in_force_after s e) c.table.ensures.held,
    )
