use Rattle.std.proofs.Common.{refl, inl, inr}
use Rattle.std.proofs.KnownBytes.{Appends-kept}
use Rattle.change_lines.proofs.Errors.{passed_on, any_error}
use Rattle.change_lines.proofs.Failures.{failed_appended, kept_appended, own_error}
use Rattle.change_lines.proofs.Causes.{own_cause}
use Rattle.change_lines.proofs.run.Lines.finish.Goals as goal

pub returns-in_err-write_out-clause-failed : goal.returns-in_err-write_out-clause-failed
returns-in_err-write_out-clause-failed g c = passed_on _ c.in_err-write_out.field-0.0 _ c.from_residual.ensures.1 (inl c.in_err-write_out.ensures.failed)

pub returns-in_err-write_out-clause-first : goal.returns-in_err-write_out-clause-first
returns-in_err-write_out-clause-first g c =
    let why = c.in_err-write_out.field-0.0 in
    passed_on _ why _ c.from_residual.ensures.1 (λ lost is. failed_appended why _ _ _ lost c.in_err-write_out.ensures.failed c.write_out.ensures.first)

pub returns-in_err-write_out-clause-flushed_first : goal.returns-in_err-write_out-clause-flushed_first
returns-in_err-write_out-clause-flushed_first g c = passed_on _ c.in_err-write_out.field-0.0 _ c.from_residual.ensures.1 (inl c.in_err-write_out.ensures.failed)

pub returns-in-Ok-clause-failed : goal.returns-in-Ok-clause-failed
returns-in-Ok-clause-failed g c = own_error c.args.read

pub returns-in-Ok-clause-first : goal.returns-in-Ok-clause-first
returns-in-Ok-clause-first g c = kept_appended c.args.read _ _ _ _ c.in_ok-write_out.ensures.written c.in-Ok.ensures.bytes

pub returns-in-Err-clause-first : goal.returns-in-Err-clause-first
returns-in-Err-clause-first g c = λ lost is.
    (c.args.self.now.bytes.items, lost, Appends-kept _ _ _ _ c.in_ok-write_out.ensures.written c.in-Err.ensures.bytes, refl, tt)

pub returns-in_err-write_out-clause-cause : goal.returns-in_err-write_out-clause-cause
returns-in_err-write_out-clause-cause g c = passed_on _ c.in_err-write_out.field-0.0 _ c.from_residual.ensures.1 (inr c.in_err-write_out.ensures.cause)

pub returns-in-Ok-clause-cause : goal.returns-in-Ok-clause-cause
returns-in-Ok-clause-cause g c = own_cause g.O.WriteOnce.writes g.O.WriteOnce.flushes c.args.read

pub returns-in-Ok-clause-flushed_first : goal.returns-in-Ok-clause-flushed_first
returns-in-Ok-clause-flushed_first g c = any_error c.args.read _ (λ why. inr (c.write_out.new.out, _, c.in-Ok.ensures.flushes))
