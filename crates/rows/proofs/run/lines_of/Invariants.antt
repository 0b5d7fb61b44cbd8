use Rattle.std.proofs.Common.{◌≡◌, List, length}
use Rattle.binlog_table.specs.TableMap.{TableMap}
use Rattle.mysql_binlog_rows.specs.RowsEvent.{RowsEvent}
use Rattle.mysql_binlog_rows.specs.Images.{Pair, pair}
use Rattle.mysql_binlog_rows.specs.Workings.Plans.{Reads}
use Rattle.mysql_binlog_rows.proofs.Covers.{SoFar}
use Rattle.row_lines.specs.Lines.{lines_text}
use Rattle.rows.proofs.run.lines_of.Given as goal

abbrev pub invariant-loop-read : goal.invariant-loop-read
invariant-loop-read l =
    (l.rows.plans ≡ l.fn.rows.plans)
    × ((t : TableMap) (e : RowsEvent) → Reads t e l.fn.rows.plans
    → (pairs : List Pair) × SoFar (pair t e) l.fn.rows.left pairs l.rows.left × (l.text.items ≡ lines_text pairs))

abbrev pub decreases-loop-read : goal.decreases-loop-read
decreases-loop-read l = length l.rows.left
