use Rattle.std.proofs.Common.{◌≡◌}
use Rattle.binlog_table.specs.TableMap.{TableMap}
use Rattle.mysql_binlog_rows.specs.RowsEvent.{RowsEvent}
use Rattle.mysql_binlog_rows.specs.Images.{pair}
use Rattle.mysql_binlog_rows.specs.Workings.Plans.{Reads}
use Rattle.mysql_binlog_rows.proofs.Covers.{SoFar}
use Rattle.mysql_binlog_rows.proofs.rows_event.decode.collect.Given as goal

abbrev pub invariant-loop-item : goal.invariant-loop-item
invariant-loop-item l =
    goal.iterator-loop-item.can_next l.item-iterator
    × goal.iterator-loop-item.is_finite l.item-iterator
    × (l.item-iterator.plans ≡ l.fn.rows.plans)
    × ((t : TableMap) (e : RowsEvent) → Reads t e l.fn.rows.plans → SoFar (pair t e) l.fn.rows.left l.pairs.items l.item-iterator.left)
