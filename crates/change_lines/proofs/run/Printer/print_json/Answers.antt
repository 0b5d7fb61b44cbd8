use Rattle.std.proofs.Common.{◌≡◌, ap, ◌∙◌}
use Rattle.std.specs.Option.{option_map}
use Rattle.std.specs.Str.Lossy.{utf8_lossy}
use Rattle.binlog_table.specs.TableMap.{TableMap}
use Rattle.row_json.specs.Columns.{columns_of}
use Rattle.change_lines.specs.declared.error.Failure.TheVariants as failure
use Rattle.change_lines.specs.declared.run.Form.TheVariants as form
use Rattle.changed_rows.specs.declared.source.Source.{Source}
use Rattle.change_lines.specs.Rows.{IsJsonLine}
use Rattle.change_lines.specs.Lines.{IsRowLine}
use Rattle.change_lines.proofs.Errors.{passed_on, on_error}
use Rattle.change_lines.proofs.First.{no_rows, first_weaker}
use Rattle.change_lines.proofs.Written.{on_ok, rows_weaker, json_row}
use Rattle.change_lines.proofs.run.Printer.print_json.Goals as goal

pub returns-clause-lines : goal.returns-clause-lines
returns-clause-lines g c =
    let e = c.args.change.now in
    let t = e.table in
    let file = c.args.self.now.file.now in
    let gtid = c.args.self.now.gtid in
    let tells = c.in_ok-table.ensures in
    let s = c.first-source.result in
    let made = c.first-source.ensures in
    let columns : c.json-json.result.now ≡ columns_of t = c.json-json.ensures ∙ tells.columns ∙ ap columns_of c.table.ensures in
    let is_file : s.file.now ≡ file = ap (λ (x : Source). x.file.now) made in
    let is_origin : s.origin ≡ e.origin = ap (λ (x : Source). x.origin) made ∙ c.origin.ensures in
    let is_gtid : option_map (λ x. x.now) s.gtid ≡ gtid = ap (λ (x : Source). option_map (λ y. y.now) x.gtid) made ∙ c.text-gtid.ensures in
    let is_database : s.database.now ≡ utf8_lossy t.database = ap (λ (x : Source). x.database.now) made ∙ c.database-database.ensures ∙ tells.database ∙ ap (λ (u : TableMap). utf8_lossy u.database) c.table.ensures in
    let is_table : s.table.now ≡ utf8_lossy t.table = ap (λ (x : Source). x.table.now) made ∙ c.name-name.ensures ∙ tells.name ∙ ap (λ (u : TableMap). utf8_lossy u.table) c.table.ensures in
    on_ok c.write_json_rows.result _ _
    (rows_weaker (IsJsonLine c.json-json.result.now e.rows s) (IsRowLine form.Json file gtid e) (json_row c.json-json.result.now s file gtid e columns is_file is_origin is_gtid is_database is_table) e _ _ _ _)
    c.write_json_rows.ensures.lines

pub returns-clause-first : goal.returns-clause-first
returns-clause-first g c =
    let e = c.args.change.now in
    let t = e.table in
    let file = c.args.self.now.file.now in
    let gtid = c.args.self.now.gtid in
    let tells = c.in_ok-table.ensures in
    let s = c.first-source.result in
    let made = c.first-source.ensures in
    let columns : c.json-json.result.now ≡ columns_of t = c.json-json.ensures ∙ tells.columns ∙ ap columns_of c.table.ensures in
    let is_file : s.file.now ≡ file = ap (λ (x : Source). x.file.now) made in
    let is_origin : s.origin ≡ e.origin = ap (λ (x : Source). x.origin) made ∙ c.origin.ensures in
    let is_gtid : option_map (λ x. x.now) s.gtid ≡ gtid = ap (λ (x : Source). option_map (λ y. y.now) x.gtid) made ∙ c.text-gtid.ensures in
    let is_database : s.database.now ≡ utf8_lossy t.database = ap (λ (x : Source). x.database.now) made ∙ c.database-database.ensures ∙ tells.database ∙ ap (λ (u : TableMap). utf8_lossy u.database) c.table.ensures in
    let is_table : s.table.now ≡ utf8_lossy t.table = ap (λ (x : Source). x.table.now) made ∙ c.name-name.ensures ∙ tells.name ∙ ap (λ (u : TableMap). utf8_lossy u.table) c.table.ensures in
    on_error c.write_json_rows.result _ _
    (first_weaker (IsJsonLine c.json-json.result.now e.rows s) (IsRowLine form.Json file gtid e) (json_row c.json-json.result.now s file gtid e columns is_file is_origin is_gtid is_database is_table) e _ _ _ _)
    (c.write_json_rows.ensures.first is_origin columns)

pub returns-in_err-table-clause-first : goal.returns-in_err-table-clause-first
returns-in_err-table-clause-first g c = passed_on _ failure.Memory _ c.from_residual.ensures.1 (no_rows failure.Memory _ c.args.change.now _ _ tt)

pub returns-in_err-table-clause-cause : goal.returns-in_err-table-clause-cause
returns-in_err-table-clause-cause g c = passed_on _ failure.Memory _ c.from_residual.ensures.1 tt
