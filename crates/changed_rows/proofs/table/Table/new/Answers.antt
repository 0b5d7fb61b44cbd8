use Rattle.std.proofs.Common.{sym, ap, ◌∙◌}
use Rattle.row_json.specs.Columns.{columns_of}
use Rattle.changed_rows.proofs.table.Table.new.Goals as goal

pub invariant_of-result-clause-columns : goal.invariant_of-result-clause-columns
invariant_of-result-clause-columns c = c.json.view_is ∙ c.in-Ok.ensures.columns ∙ ap columns_of (sym (c.in_ok-into_owned.ensures ∙ c.in_ok-clone.ensures))
