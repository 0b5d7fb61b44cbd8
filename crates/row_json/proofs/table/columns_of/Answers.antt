use Rattle.std.proofs.Common.{rules, ap, ◌∙◌}
use Rattle.binlog_table.specs.Workings.ColumnsLeft.{seen_column}
use Rattle.row_json.specs.Columns.{column_of}
use Rattle.row_json.proofs.Tables.{columns_step}
use Rattle.row_json.proofs.table.columns_of.Goals as goal

pub loop-column-preserved : goal.loop-column-preserved
loop-column-preserved c =
    let first = rw c.in-Ok.is at c.in-Some.ensures.gives in
    columns_step _ c.loop-column.columns.items _ _ _ c.loop-column.names _ (seen_column c.in-Ok.column) c.loop-column.walk.columns _ c.in_ok-column_of-in-Ok.field-0 c.loop-column.invariant first
    (c.in_ok-column_of-in-Ok.ensures.column ∙ ap (λ n. column_of n c.loop-column.names (seen_column c.in-Ok.column)) c.len-index.ensures)
    c.in_ok-column_of-in-Ok.ensures.left (search rules) (search rules)

pub loop-column-preserved-in_ok-push-in-Ok : goal.loop-column-preserved-in_ok-push-in-Ok
loop-column-preserved-in_ok-push-in-Ok c =
    let first = rw c.in-Ok.is at c.in-Some.ensures.gives in
    columns_step _ c.loop-column.columns.items _ _ _ c.loop-column.names _ (seen_column c.in-Ok.column) c.loop-column.walk.columns _ c.in_ok-column_of-in-Ok.field-0 c.loop-column.invariant first
    (c.in_ok-column_of-in-Ok.ensures.column ∙ ap (λ n. column_of n c.loop-column.names (seen_column c.in-Ok.column)) c.len-index.ensures)
    c.in_ok-column_of-in-Ok.ensures.left (search rules) (search rules)

pub loop-column-preserved-in_ok-push-in-Ok-2 : goal.loop-column-preserved-in_ok-push-in-Ok-2
loop-column-preserved-in_ok-push-in-Ok-2 c =
    let first = rw c.in-Ok.is at c.in-Some.ensures.gives in
    columns_step _ c.loop-column.columns.items _ _ _ c.loop-column.names _ (seen_column c.in-Ok.column) c.loop-column.walk.columns _ c.in_ok-column_of-in-Ok.field-0 c.loop-column.invariant first
    (c.in_ok-column_of-in-Ok.ensures.column ∙ ap (λ n. column_of n c.loop-column.names (seen_column c.in-Ok.column)) c.len-index.ensures)
    c.in_ok-column_of-in-Ok.ensures.left (search rules) (search rules)
