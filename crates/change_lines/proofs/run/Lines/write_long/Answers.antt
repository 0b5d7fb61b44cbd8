use Rattle.change_lines.specs.declared.error.Failure.TheVariants as failure
use Rattle.change_lines.proofs.Errors.{passed_on}
use Rattle.change_lines.proofs.Failures.{failed_before, failed_within}
use Rattle.change_lines.proofs.Outputs.{outputs_both}
use Rattle.change_lines.proofs.run.Lines.write_long.Goals as goal

pub returns-in_err-write_out-clause-first : goal.returns-in_err-write_out-clause-first
returns-in_err-write_out-clause-first g c =
    let why = c.in_err-write_out.field-0.0 in
    passed_on _ why _ c.from_residual.ensures.1 (failed_before why _ _ _ _ _ c.in_err-write_out.ensures.failed c.write_out.ensures.first c.write_out.ensures.left)

pub returns-in-Ok-clause-all : goal.returns-in-Ok-clause-all
returns-in-Ok-clause-all g c = outputs_both _ _ _ _ _ _ c.in_ok-write_out.ensures.written c.in-Ok.ensures.whole c.write_out.ensures.left

pub returns-in-Err-clause-first : goal.returns-in-Err-clause-first
returns-in-Err-clause-first g c = failed_within (failure.Output c.in-Err.error) _ _ _ _ _ _ tt c.in_ok-write_out.ensures.written c.write_long_line.ensures.first c.write_out.ensures.left
