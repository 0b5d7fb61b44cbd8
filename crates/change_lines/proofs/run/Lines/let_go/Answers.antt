use Rattle.std.proofs.Common.{[]}
use Rattle.change_lines.specs.declared.error.Failure.TheVariants as failure
use Rattle.change_lines.proofs.Errors.{passed_on}
use Rattle.change_lines.proofs.Failures.{failed_before, up_to_all}
use Rattle.change_lines.proofs.Outputs.{outputs_all}
use Rattle.change_lines.proofs.run.Lines.let_go.Goals as goal

pub returns-in_err-write_out-clause-first : goal.returns-in_err-write_out-clause-first
returns-in_err-write_out-clause-first g c =
    let why = c.in_err-write_out.field-0.0 in
    passed_on _ why _ c.from_residual.ensures.1 (failed_before why _ _ _ _ _ c.in_err-write_out.ensures.failed c.write_out.ensures.first c.write_out.ensures.left)

pub returns-in-Ok-clause-all : goal.returns-in-Ok-clause-all
returns-in-Ok-clause-all g c = outputs_all _ _ _ _ _ c.in_ok-write_out.ensures.written c.in-Ok.ensures.bytes c.write_out.ensures.left

pub returns-in-Err-clause-first : goal.returns-in-Err-clause-first
returns-in-Err-clause-first g c = up_to_all (failure.Output c.in-Err.error) _ _ c.args.self.now.bytes.items [] _ (outputs_all _ _ _ _ _ c.in_ok-write_out.ensures.written c.in-Err.ensures.bytes c.write_out.ensures.left)
