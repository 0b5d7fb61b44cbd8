use Rattle.std.proofs.Common.{◌≡◌, ◌∷◌, List, Result, Ok, sym, ap, ◌∙◌}
use Rattle.binlog_base.specs.declared.fault.Fault.{Fault}
use Rattle.binlog_base.specs.Items.{result_map}
use Rattle.binlog_table.specs.TableColumns.{Column}
use Rattle.changed_rows.specs.declared.lacks.ColumnKinds.{ColumnKinds}
use Rattle.changed_rows.specs.Workings.Walked.{with_kind, kinds_then}
use Rattle.changed_rows.proofs.Walked.{kinds_more}
use Rattle.changed_rows.proofs.lacks.kinds_in.Goals as goal

-- a column more was added
stepped : (k new : ColumnKinds) (columns rest : List (Result Column Fault)) (next : Result Column Fault) (c : Column) (all : ColumnKinds) → columns ≡ next ∷ rest → next ≡ Ok c → new ≡ with_kind k c.column_type → kinds_then k columns ≡ all → kinds_then new rest ≡ all
stepped k new columns rest next c all steps is adds h =
    ap (λ (j : ColumnKinds). kinds_then j rest) adds ∙ (sym (kinds_more k c rest) ∙ (ap (kinds_then k) (sym (steps ∙ ap (λ (x : Result Column Fault). x ∷ rest) is)) ∙ h))

pub loop-column-preserved-in-Ok : goal.loop-column-preserved-in-Ok
loop-column-preserved-in-Ok c = stepped _ _ _ _ _ _ _ c.in-Some.ensures.steps (ap (result_map _) c.in-Ok.is) c.add.ensures c.loop-column.invariant

pub loop-column-preserved-in-Ok-2 : goal.loop-column-preserved-in-Ok-2
loop-column-preserved-in-Ok-2 c = stepped _ _ _ _ _ _ _ c.in-Some.ensures.steps (ap (result_map _) c.in-Ok.is) c.add.ensures c.loop-column.invariant

pub loop-column-preserved-in-Ok-3 : goal.loop-column-preserved-in-Ok-3
loop-column-preserved-in-Ok-3 c = stepped _ _ _ _ _ _ _ c.in-Some.ensures.steps (ap (result_map _) c.in-Ok.is) c.add.ensures c.loop-column.invariant
