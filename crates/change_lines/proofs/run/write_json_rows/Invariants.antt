use Rattle.std.proofs.Common.{◌≡◌, ◌+◌, ◌*◌, ◌<◌, ℕ, List, length}
use Rattle.mysql_binlog_rows.specs.Images.{Pair, pair}
use Rattle.mysql_binlog_rows.proofs.Covers.{SoFar}
use Rattle.change_lines.specs.Outputs.{Outputs}
use Rattle.changed_rows.specs.Names.{up_to_most}
use Rattle.change_lines.specs.Rows.{AreLinesBy, IsJsonLine}
use Rattle.change_lines.proofs.run.write_json_rows.Given as goal

abbrev pub invariant-loop-read : goal.invariant-loop-read
invariant-loop-read g l =
    (l.change.table ≡ l.fn.change.table) × (l.change.rows ≡ l.fn.change.rows)
    × (ps : List Pair) × (text : List ℕ)
    × SoFar (pair l.fn.change.table l.fn.change.rows) l.fn.change.left ps l.change.left
    × AreLinesBy (IsJsonLine l.table l.fn.change.rows l.source) 0 ps text
    × (l.row ≡ up_to_most (length ps))
    × Outputs (g.O.Write.contents l.fn.out) l.fn.lines.bytes.items text (g.O.Write.contents l.out) l.lines.bytes.items
    × (l.change.origin ≡ l.fn.change.origin) × (l.change.count ≡ l.fn.change.count + length ps)
    × (length l.fn.lines.bytes.items < 32 * 1024 → length l.lines.bytes.items < 32 * 1024)

abbrev pub decreases-loop-read : goal.decreases-loop-read
decreases-loop-read g l = length l.change.left
