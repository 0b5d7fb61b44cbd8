use Rattle.std.proofs.Common.{◌≡◌, IfErr, sym, subst, ◌∙◌}
use Rattle.std.specs.Prelude.{OnOk}
use Rattle.change_lines.specs.declared.run.Form.{Form}
use Rattle.change_lines.specs.declared.run.Form.TheVariants as form
use Rattle.change_lines.specs.Rows.{WritesRows}
use Rattle.change_lines.specs.Lines.{IsRowLine}
use Rattle.change_lines.specs.Failures.{WritesFirstRows}
use Rattle.change_lines.proofs.Errors.{on_error, any_error}
use Rattle.changed_rows.proofs.Counted.{in_any_case}
use Rattle.change_lines.proofs.First.{first_counted}
use Rattle.change_lines.proofs.Written.{on_ok, rows_counted}
use Rattle.change_lines.proofs.Causes.{of_reading}
use Rattle.change_lines.proofs.run.Printer.print_rows.Goals as goal

pub returns-in-Json-clause-lines : goal.returns-in-Json-clause-lines
returns-in-Json-clause-lines g c =
    let s = c.args.self.now in
    let e = c.args.change.now in
    subst (λ (f : Form). OnOk c.print_json.result (WritesRows (IsRowLine f s.file.now s.gtid e) e (g.O.Write.contents c.args.out.now) s.lines.bytes.items (g.O.Write.contents c.print_json.new.out) c.print_json.new.self.lines.bytes.items)) (sym c.in-Json.is) c.print_json.ensures.lines

pub returns-in-Json-clause-first : goal.returns-in-Json-clause-first
returns-in-Json-clause-first g c =
    let s = c.args.self.now in
    let e = c.args.change.now in
    subst (λ (f : Form). IfErr c.print_json.result (λ why. WritesFirstRows why (IsRowLine f s.file.now s.gtid e) e (g.O.Write.contents c.args.out.now) s.lines.bytes.items (g.O.Write.contents c.print_json.new.out) c.print_json.new.self.lines.bytes.items)) (sym c.in-Json.is) c.print_json.ensures.first

pub returns-in-Text-clause-lines : goal.returns-in-Text-clause-lines
returns-in-Text-clause-lines g c =
    let s = c.args.self.now in
    let e = c.args.change.now in
    subst (λ (f : Form). OnOk c.print_text.result (WritesRows (IsRowLine f s.file.now s.gtid e) e (g.O.Write.contents c.args.out.now) s.lines.bytes.items (g.O.Write.contents c.print_text.new.out) c.print_text.new.self.lines.bytes.items)) (sym c.in-Text.is) c.print_text.ensures.lines

pub returns-in-Text-clause-first : goal.returns-in-Text-clause-first
returns-in-Text-clause-first g c =
    let s = c.args.self.now in
    let e = c.args.change.now in
    subst (λ (f : Form). IfErr c.print_text.result (λ why. WritesFirstRows why (IsRowLine f s.file.now s.gtid e) e (g.O.Write.contents c.args.out.now) s.lines.bytes.items (g.O.Write.contents c.print_text.new.out) c.print_text.new.self.lines.bytes.items)) (sym c.in-Text.is) c.print_text.ensures.first

pub returns-in-Count-clause-lines : goal.returns-in-Count-clause-lines
returns-in-Count-clause-lines g c =
    let s = c.args.self.now in
    on_ok c.count.result _ _ (λ k. rows_counted s.settings.now.form s.file.now s.gtid c.args.change.now (g.O.Write.contents c.args.out.now) s.lines.bytes.items c.in-Count.is k.0 k.1) c.count.ensures.covers

pub returns-in-Count-clause-first : goal.returns-in-Count-clause-first
returns-in-Count-clause-first g c =
    let s = c.args.self.now in
    on_error c.count.result _ _ (first_counted s.settings.now.form s.file.now s.gtid c.args.change.now (g.O.Write.contents c.args.out.now) s.lines.bytes.items c.in-Count.is) c.count.ensures.first

pub returns-in-Count-clause-counts : goal.returns-in-Count-clause-counts
returns-in-Count-clause-counts g c = on_ok c.count.result _ _ (λ counts same. counts) c.count.ensures.counts

pub returns-in-Count-clause-first_counts : goal.returns-in-Count-clause-first_counts
returns-in-Count-clause-first_counts g c = on_error c.count.result _ _ (λ why counts same. counts) c.count.ensures.first_counts

pub returns-in-Json-clause-counts : goal.returns-in-Json-clause-counts
returns-in-Json-clause-counts g c = in_any_case c.print_json.result _ (λ same. absurd (let bad : form.Json ≡ form.Count = sym c.in-Json.is ∙ same in cc))

pub returns-in-Json-clause-first_counts : goal.returns-in-Json-clause-first_counts
returns-in-Json-clause-first_counts g c = any_error c.print_json.result _ (λ why same. absurd (let bad : form.Json ≡ form.Count = sym c.in-Json.is ∙ same in cc))

pub returns-in-Text-clause-counts : goal.returns-in-Text-clause-counts
returns-in-Text-clause-counts g c = in_any_case c.print_text.result _ (λ same. absurd (let bad : form.Text ≡ form.Count = sym c.in-Text.is ∙ same in cc))

pub returns-in-Text-clause-first_counts : goal.returns-in-Text-clause-first_counts
returns-in-Text-clause-first_counts g c = any_error c.print_text.result _ (λ why same. absurd (let bad : form.Text ≡ form.Count = sym c.in-Text.is ∙ same in cc))

pub returns-in-Count-clause-cause : goal.returns-in-Count-clause-cause
returns-in-Count-clause-cause g c = on_error c.count.result _ _ (of_reading g.O.WriteOnce.writes g.O.WriteOnce.flushes) c.count.ensures.cause
