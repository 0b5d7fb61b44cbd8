use Rattle.std.proofs.Common.{◌≡◌, ◌⊎◌, ℕ, List, Option, Result, Ok, Err, sym, subst, inl, inr}
use Rattle.std.specs.Prelude.{IfErr}
use Rattle.std.specs.Result.{IsErrAnd}
use Rattle.binlog_events.specs.declared.error.EventError.{EventError}
use Rattle.binlog_file.specs.Description.{Description}
use Rattle.binlog_file.specs.Events.{event, raw_event}
use Rattle.binlog_file.specs.Changes.{IsMemory}
use Rattle.binlog_file.specs.Lemmas.Formats.{exact_raw_event}
use Rattle.binlog_events.proofs.Reading.{from_raw, read_event, long_enough}
use Rattle.binlog_file.proofs.events.see_at.Goals as goal

-- an error that is handed on
handed_on : {A : Type 0} (r : Result A EventError) (e : EventError) (P : EventError → Type 0) → IsErrAnd r (λ d. d ≡ e) → P e → IfErr r P
handed_on (Ok a) e P is h = tt
handed_on (Err d) e P is h = subst P (sym is) h

raw_refused : (at : ℕ) (d : Option Description) (old : List ℕ) (e : EventError) → raw_event.parse old ≡ Err e → (event at d).refuses old e
unfolding event
raw_refused at d old e p = inl (exact_raw_event.refused_sound old e p)

pub returns-in_err-raw-clause-err : goal.returns-in_err-raw-clause-err
returns-in_err-raw-clause-err c =
    let d = c.args.in_force.now in
    let x = c.args.bytes.now in
    let e = c.in_err-raw.field-0.0 in
    handed_on c.from_residual.result e (λ (f : EventError). IsMemory f ⊎ (event c.args.position d).refuses x f) c.from_residual.ensures.1 (inr (raw_refused c.args.position d x e c.in_err-raw.ensures))

pub returns-in_err-seen-clause-err : goal.returns-in_err-seen-clause-err
returns-in_err-seen-clause-err c =
    let d = c.args.in_force.now in
    let x = c.args.bytes.now in
    let e = c.in_err-seen.field-0.0 in
    handed_on c.from_residual-in_err-seen.result e (λ (f : EventError). IsMemory f ⊎ (event c.args.position d).refuses x f) c.from_residual-in_err-seen.ensures.1 (elim c.in_err-seen.ensures.sees [
      | inl memory ↦ inl memory
      | inr refused ↦
          let left = c.read_raw.new.buf.0.now in
          inr (read_event c.args.position d (Err e) x left (from_raw c.args.position d c.in_ok-raw.raw x left (Err e) c.in_ok-raw.ensures refused))
    ])

pub returns-clause-ok : goal.returns-clause-ok
returns-clause-ok c =
    let d = c.args.in_force.now in
    let x = c.args.bytes.now in
    let left = c.read_raw.new.buf.0.now in
    let sees = c.in_ok-seen.ensures.sees in
    let spelled = read_event c.args.position d (Ok sees.0) x left (from_raw c.args.position d c.in_ok-raw.raw x left (Ok sees.0) c.in_ok-raw.ensures sees.2) in
    (sees.0, sees.1, spelled, long_enough c.args.position d sees.0 x left spelled, sees.3)
