use Rattle.std.proofs.Common.{List, ℕ, inl, inr, subst}
use Rattle.std.specs.Prelude.{OnOk, IfErr}
use Rattle.row_json.specs.LongLines.{line_bytes}
use Rattle.change_lines.specs.declared.error.Failure.{Failure}
use Rattle.change_lines.specs.declared.error.Failure.TheVariants as failure
use Rattle.change_lines.specs.Outputs.{Outputs}
use Rattle.change_lines.specs.Failures.{OutputsUpTo}
use Rattle.change_lines.proofs.Errors.{passed_on, on_errors}
use Rattle.change_lines.proofs.Failures.{up_to_same}
use Rattle.change_lines.proofs.Written.{on_ok}
use Rattle.change_lines.proofs.run.Lines.put_long.Goals as goal

pub returns-in_err-line-clause-first : goal.returns-in_err-line-clause-first
returns-in_err-line-clause-first g c =
    let why = c.in_err-line.field-0.0 in
    passed_on _ why _ c.from_residual.ensures.1 (inr (c.in_err-line.ensures.failed, up_to_same why _ _ _ c.long_line.ensures.kept))

pub returns-in_err-room-clause-first : goal.returns-in_err-room-clause-first
returns-in_err-room-clause-first g c = passed_on _ failure.Memory _ c.from_residual-in_err-room.ensures.1 (inr (tt, up_to_same failure.Memory _ _ _ c.long_line.ensures.kept))

pub returns-clause-line : goal.returns-clause-line
returns-clause-line g c =
    let l = line_bytes c.in_ok-line.line in
    let w = c.write_long in
    on_ok w.result _ _ (λ all. (l, c.in_ok-line.ensures.line, all)) (subst (λ (held : List ℕ). OnOk w.result (Outputs (g.O.Write.contents c.args.out.now) held l (g.O.Write.contents w.new.out) w.new.self.bytes.items)) c.long_line.ensures.kept w.ensures.all)

pub returns-clause-first : goal.returns-clause-first
returns-clause-first g c =
    let l = line_bytes c.in_ok-line.line in
    let w = c.write_long in
    on_errors w.result _ _ _ (λ why is first. inl (l, c.in_ok-line.ensures.line, is, first)) w.ensures.failed
    (subst (λ (held : List ℕ). IfErr w.result (λ (why : Failure). OutputsUpTo why (g.O.Write.contents c.args.out.now) held l (g.O.Write.contents w.new.out) w.new.self.bytes.items)) c.long_line.ensures.kept w.ensures.first)
