use Rattle.std.proofs.Common.{◌≡◌, ◌+◌, List, length}
use Rattle.mysql_binlog_rows.specs.Images.{Pair, pair}
use Rattle.mysql_binlog_rows.proofs.Covers.{SoFar}
use Rattle.changed_rows.specs.Names.{up_to_most}
use Rattle.change_lines.proofs.run.count_rows.Given as goal

abbrev pub invariant-loop-read : goal.invariant-loop-read
invariant-loop-read l =
    (l.change.table ≡ l.fn.change.table) × (l.change.rows ≡ l.fn.change.rows)
    × (ps : List Pair) × SoFar (pair l.fn.change.table l.fn.change.rows) l.fn.change.left ps l.change.left
    × (l.change.origin ≡ l.fn.change.origin) × (l.change.count ≡ l.fn.change.count + length ps)
    × (l.count ≡ up_to_most (length ps))

abbrev pub decreases-loop-read : goal.decreases-loop-read
decreases-loop-read l = length l.change.left
