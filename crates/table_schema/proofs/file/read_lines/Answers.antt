use Rattle.std.proofs.Common.{Ok, Err, Some, ◌+◌, [], arith, sym, ◌∙◌}
use Rattle.std.proofs.lemmas.Result.{err_from_is_err_and}
use Rattle.table_schema.specs.Texts.{pieces}
use Rattle.table_schema.specs.Files.{lines_from}
use Rattle.table_schema.proofs.Read.{ends_err, ends_ok, ends_more, lines_here, line_more, line_last}
use Rattle.table_schema.proofs.file.read_lines.Goals as goal

pub returns-in-Err-clause-err : goal.returns-in-Err-clause-err
returns-in-Err-clause-err c other =
    ends_err (lines_from c.loop-bytes.number c.loop-bytes.before (pieces 10 c.loop-bytes.left.now)) (record { line = c.loop-bytes.number; fault = c.in-Err.fault })
    (lines_here c.loop-bytes.number c.loop-bytes.before c.in-Some.bytes.now c.in-Some.rest.now (pieces 10 c.loop-bytes.left.now) (Err c.in-Err.fault) c.in-Some.ensures.found (sym (c.in-Err.ensures other)))
    c.loop-bytes.invariant.ends

pub returns-in_err-end_of-clause-err : goal.returns-in_err-end_of-clause-err
returns-in_err-end_of-clause-err c =
    let p = err_from_is_err_and c.from_residual.result c.from_residual.ensures.1 in
    rw (p.1, p.2) (λ other.
    ends_err (lines_from c.loop-bytes.number c.loop-bytes.before (pieces 10 c.loop-bytes.left.now)) c.in_err-end_of.field-0.0
    (lines_here c.loop-bytes.number c.loop-bytes.before c.in-Some.bytes.now c.in-Some.rest.now (pieces 10 c.loop-bytes.left.now) (Ok c.in-Ok.line) c.in-Some.ensures.found (sym c.in-Ok.ensures)
    ∙ line_last (c.loop-bytes.number + 1) (pieces 10 c.in-Some.rest.now) (λ l. lines_from (c.loop-bytes.number + 1) l (pieces 10 c.in-Some.rest.now)) c.in-Ok.line c.in-End.time c.in-End.is
    ∙ c.in_err-end_of.ensures.err c.in-End.time)
    c.loop-bytes.invariant.ends)

pub returns-in-End-clause-ok : goal.returns-in-End-clause-ok
returns-in-End-clause-ok c =
    ends_ok (lines_from c.loop-bytes.number c.loop-bytes.before (pieces 10 c.loop-bytes.left.now)) [] c.in-End.time
    (lines_here c.loop-bytes.number c.loop-bytes.before c.in-Some.bytes.now c.in-Some.rest.now (pieces 10 c.loop-bytes.left.now) (Ok c.in-Ok.line) c.in-Some.ensures.found (sym c.in-Ok.ensures)
    ∙ line_last (c.loop-bytes.number + 1) (pieces 10 c.in-Some.rest.now) (λ l. lines_from (c.loop-bytes.number + 1) l (pieces 10 c.in-Some.rest.now)) c.in-Ok.line c.in-End.time c.in-End.is
    ∙ c.in_ok-end_of.ensures.ok c.in-End.time)
    c.loop-bytes.invariant.ends

pub loop-bytes-preserved : goal.loop-bytes-preserved
loop-bytes-preserved c = record {
  ends = ends_more (lines_from c.loop-bytes.number c.loop-bytes.before (pieces 10 c.loop-bytes.left.now)) (lines_from (c.loop-bytes.number + 1) (Some c.in-Ok.line) (pieces 10 c.in-Some.rest.now)) c.in-Ok.line
      (lines_here c.loop-bytes.number c.loop-bytes.before c.in-Some.bytes.now c.in-Some.rest.now (pieces 10 c.loop-bytes.left.now) (Ok c.in-Ok.line) c.in-Some.ensures.found (sym c.in-Ok.ensures)
      ∙ line_more (c.loop-bytes.number + 1) (pieces 10 c.in-Some.rest.now) (λ l. lines_from (c.loop-bytes.number + 1) l (pieces 10 c.in-Some.rest.now)) c.in-Ok.line c.in_default-line.not-End)
      c.loop-bytes.invariant.ends;
  fits = omega (arith, c.in-Some.ensures.shorter);
}
