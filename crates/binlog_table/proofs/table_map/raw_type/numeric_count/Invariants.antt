use Rattle.std.proofs.Common.{◌≡◌, ◌+◌, length}
use Rattle.binlog_table.specs.Fields.{numeric_count}
use Rattle.binlog_table.proofs.table_map.raw_type.numeric_count.Given as goal

abbrev pub invariant-loop-left : goal.invariant-loop-left
invariant-loop-left l = l.count + numeric_count l.server l.left ≡ numeric_count l.server l.fn.types

abbrev pub decreases-loop-left : goal.decreases-loop-left
decreases-loop-left l = length l.left
