use Rattle.std.proofs.Common.{rules, ◌≡◌, ◌∙◌, ap, ℕ, [], Option, None, Result, unwrap_or}
use Rattle.binlog_base.specs.declared.fault.Fault.{Fault}
use Rattle.binlog_cells.specs.declared.value.form.Form.{Form}
use Rattle.binlog_cells.specs.Forms.{form_of}
use Rattle.binlog_table.specs.Workings.ColumnsLeft.{seen_column}
use Rattle.mysql_binlog_rows.specs.Workings.Plans.{Slot, json_place_of}
use Rattle.mysql_binlog_rows.proofs.row.plan.slot_of.Goals as goal

pub returns-in_default : goal.returns-in_default
returns-in_default c =
    let column = seen_column c.args.column.now in
    let place : None ≡ json_place_of column = search rules in
    let form : c.form_of-form.result ≡ form_of column.column_type (unwrap_or column.metadata []) column.unsigned = search rules in
    let by_place : Option ℕ → Slot = λ p. record { form = c.form_of-form.result; json_place = p } in
    let by_form : Result Form Fault → Slot = λ f. record { form = f; json_place = json_place_of column } in
    c.way_of.ensures ∙ ap by_place place ∙ ap by_form form
