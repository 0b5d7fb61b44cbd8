use Rattle.change_lines.proofs.Failures.{line_failure}
use Rattle.change_lines.proofs.run.Lines.long_line.Goals as goal

pub returns-in-Err-clause-failed : goal.returns-in-Err-clause-failed
returns-in-Err-clause-failed c = line_failure c.args.table.now c.args.event.now _ _ c.in-Err.reason _ c.row_failure.result c.row_failure.ensures c.in-Err.ensures.err
