-- An iterator over the pairs of two events goes on to be one.
use Rattle.std.specs.Prelude.{Option, Result}
use Rattle.std.proofs.Common.{◌≤◌, sym, subst, ◌∙◌, arith}
use Rattle.binlog_base.specs.declared.fault.Fault.{Fault}
use Rattle.binlog_table.specs.TableMap.{TableMap}
use Rattle.mysql_binlog_rows.specs.RowsEvent.{RowsEvent}
use Rattle.mysql_binlog_rows.specs.Images.{Pair}
use Rattle.mysql_binlog_rows.specs.Workings.Plans.{Plans, slot_count}
use Rattle.mysql_binlog_rows.specs.Rows.{Rows, IsOf, NextGives}

pub goes_on : (t : TableMap) (e : RowsEvent) (r s : Rows) (item : Option (Result Pair Fault)) → IsOf t e r → NextGives r item s → IsOf t e s
goes_on t e r s item is gives = record {
  reads = gives.stays t e is.reads;
  exact = gives.plans.due ∙ is.exact;
  most = omega (arith, gives.plans.most, is.most);
  least = λ d. subst (λ (p : Plans). e.num_columns ≤ slot_count p) (sym gives.plans.plans) (is.least d);
}
