use Rattle.std.proofs.lemmas.Result.{err_from_is_err_and}
use Rattle.binlog_values.specs.JsonbTrees.{merged}
use Rattle.binlog_values.specs.JsonbViews.{view_of}
use Rattle.row_json.specs.Documents.{IsDataJson, IsDocumentJson}
use Rattle.row_json.proofs.Steps.{wrote_weaker}
use Rattle.row_json.proofs.Depths.{document_fits}
use Rattle.row_json.proofs.Faults.{no_fault}
use Rattle.row_json.proofs.Walked.{on_ok, on_err}
use Rattle.row_json.proofs.document.write_document.Goals as goal

pub returns-clause-written : goal.returns-clause-written
returns-clause-written c =
    let v = view_of c.args.document.now in
    let checked = c.in_ok-check.ensures.1 in
    let t = checked.tree in
    on_ok c.write_value.result _ _ (λ w. wrote_weaker (IsDataJson (merged t.0)) (IsDocumentJson v) (λ j is. (t.0, t.1, is, document_fits v t.0 j t.1 is checked.limits.0)) (w t.0 t.1)) c.write_value.ensures.written

pub returns-clause-err : goal.returns-clause-err
returns-clause-err c =
    let t = (c.in_ok-check.ensures.1).tree in
    on_err c.write_value.result _ _ (λ e memory other. absurd (other (memory t.0 t.1))) c.write_value.ensures.memory

pub returns-clause-sound : goal.returns-clause-sound
returns-clause-sound c =
    let v = view_of c.args.document.now in
    let checked = c.in_ok-check.ensures.1 in
    on_ok c.write_value.result _ _ (λ w. no_fault v checked.tree.0 checked.tree.1 checked.limits) c.write_value.ensures.written

pub returns-in_err-check-clause-err : goal.returns-in_err-check-clause-err
returns-in_err-check-clause-err c =
    let p = err_from_is_err_and c.from_residual.result c.from_residual.ensures.1 in
    rw (p.1, p.2) (λ other. (c.in_err-check.ensures.0, (c.in_err-check.ensures.1).fault other))
