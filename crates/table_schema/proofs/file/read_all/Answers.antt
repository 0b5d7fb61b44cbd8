use Rattle.std.proofs.Common.{Ok, Err, sym, ap, ◌∙◌}
use Rattle.std.proofs.lemmas.Result.{err_from_is_err_and}
use Rattle.binlog_base.specs.Format.{◌>>=◌}
use Rattle.table_schema.specs.Texts.{pieces}
use Rattle.table_schema.specs.Files.{file_with}
use Rattle.table_schema.proofs.Read.{file_here}
use Rattle.table_schema.proofs.file.read_all.Goals as goal

pub returns-in_err-read_lines-in-Ok-clause-err : goal.returns-in_err-read_lines-in-Ok-clause-err
returns-in_err-read_lines-in-Ok-clause-err c =
    let p = err_from_is_err_and c.from_residual.result c.from_residual.ensures.1 in
    rw (p.1, p.2) (λ other.
    file_here c.in-Some.first.now c.in-Some.rest.now (pieces 10 c.args.text.now) (Ok c.in-Ok.head) c.in-Some.ensures.found (sym c.in-Ok.ensures)
    ∙ ap (λ q. q >>= λ x. Ok (file_with c.in-Ok.head x)) (c.in_err-read_lines-in-Ok.ensures.err other))

pub returns-clause-err : goal.returns-clause-err
returns-clause-err c other =
    file_here c.in-Some.first.now c.in-Some.rest.now (pieces 10 c.args.text.now) (Err c.in-Err.fault) c.in-Some.ensures.found (sym (c.in-Err.ensures other))
