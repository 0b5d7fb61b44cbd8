use Rattle.std.proofs.Common.{inl, inr}
use Rattle.change_lines.proofs.Causes.{of_reading}
use Rattle.change_lines.proofs.Errors.{passed_on, on_errors}
use Rattle.change_lines.proofs.Failures.{up_to_same, up_to_line}
use Rattle.change_lines.proofs.Outputs.{outputs_line}
use Rattle.change_lines.proofs.Written.{on_ok}
use Rattle.change_lines.proofs.run.Lines.put_json.Goals as goal

pub returns-in_err-add_json-clause-first : goal.returns-in_err-add_json-clause-first
returns-in_err-add_json-clause-first g c =
    let why = c.in_err-add_json.field-0.0 in
    passed_on _ why _ c.from_residual.ensures.1 (inr (c.in_err-add_json.ensures.failed, up_to_same why _ _ _ c.in_err-add_json.ensures.kept))

pub returns-in_err-add_json-clause-cause : goal.returns-in_err-add_json-clause-cause
returns-in_err-add_json-clause-cause g c = let why = c.in_err-add_json.field-0.0 in passed_on _ why _ c.from_residual.ensures.1 (of_reading g.O.WriteOnce.writes g.O.WriteOnce.flushes why c.in_err-add_json.ensures.cause)

pub returns-clause-line : goal.returns-clause-line
returns-clause-line g c =
    let added = c.in_ok-add_json.ensures.line in
    let w = c.write_if_full in
    on_ok w.result _ _ (λ all. (added.0, added.1, outputs_line _ _ _ added.0 _ _ added.2 all)) w.ensures.all

pub returns-clause-first : goal.returns-clause-first
returns-clause-first g c =
    let added = c.in_ok-add_json.ensures.line in
    let w = c.write_if_full in
    on_errors w.result _ _ _ (λ why is first. inl (added.0, added.1, is, up_to_line why _ _ _ added.0 _ _ added.2 first)) w.ensures.failed w.ensures.first
