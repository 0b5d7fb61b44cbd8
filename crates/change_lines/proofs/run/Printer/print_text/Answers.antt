use Rattle.std.proofs.Common.{◌≡◌, ◌++◌, ℕ, ap, ◌∙◌}
use Rattle.binlog_table.specs.TableMap.{TableMap}
use Rattle.row_lines.specs.Lines.{signed_line_text}
use Rattle.change_lines.specs.declared.error.Failure.TheVariants as failure
use Rattle.change_lines.specs.declared.run.Form.TheVariants as form
use Rattle.change_lines.specs.Lines.{IsRowLine, place_text}
use Rattle.change_lines.proofs.Errors.{passed_on, on_error}
use Rattle.change_lines.proofs.First.{no_rows, first_weaker}
use Rattle.change_lines.proofs.Written.{on_ok, rows_weaker}
use Rattle.change_lines.proofs.run.Printer.print_text.Goals as goal

pub returns-clause-lines : goal.returns-clause-lines
returns-clause-lines g c =
    let e = c.args.change.now in
    let file = c.args.self.now.file.now in
    let gtid = c.args.self.now.gtid in
    let at : c.position.result ≡ e.origin.position = c.position.ensures in
    let place : c.as_str.result.now ≡ place_text file e.origin.position e.table =
    c.as_str.ensures.value ∙ c.in_ok-place.ensures ∙ ap (λ (n : ℕ). place_text file n c.table.result.now) at ∙ ap (λ (u : TableMap). place_text file e.origin.position u) c.table.ensures in
    on_ok c.write_text_rows.result _ _
    (rows_weaker (λ row p line. line ≡ c.as_str.result.now ++ signed_line_text p) (IsRowLine form.Text file gtid e) (λ row p line is. is ∙ ap (λ b. b ++ signed_line_text p) place) e _ _ _ _)
    c.write_text_rows.ensures.lines

pub returns-clause-first : goal.returns-clause-first
returns-clause-first g c =
    let e = c.args.change.now in
    let file = c.args.self.now.file.now in
    let gtid = c.args.self.now.gtid in
    let at : c.position.result ≡ e.origin.position = c.position.ensures in
    let place : c.as_str.result.now ≡ place_text file e.origin.position e.table =
    c.as_str.ensures.value ∙ c.in_ok-place.ensures ∙ ap (λ (n : ℕ). place_text file n c.table.result.now) at ∙ ap (λ (u : TableMap). place_text file e.origin.position u) c.table.ensures in
    on_error c.write_text_rows.result _ _
    (first_weaker (λ row p line. line ≡ c.as_str.result.now ++ signed_line_text p) (IsRowLine form.Text file gtid e) (λ row p line is. is ∙ ap (λ b. b ++ signed_line_text p) place) e _ _ _ _)
    c.write_text_rows.ensures.first

pub returns-in_err-place-clause-first : goal.returns-in_err-place-clause-first
returns-in_err-place-clause-first g c = passed_on _ failure.Memory _ c.from_residual.ensures.1 (no_rows failure.Memory _ c.args.change.now _ _ tt)

pub returns-in_err-place-clause-cause : goal.returns-in_err-place-clause-cause
returns-in_err-place-clause-cause g c = passed_on _ failure.Memory _ c.from_residual.ensures.1 tt
