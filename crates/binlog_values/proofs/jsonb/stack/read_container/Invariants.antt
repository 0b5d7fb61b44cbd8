use Rattle.std.proofs.Common.{◌+◌, ◌-◌, ◌*◌, ◌≤◌, List, Ok, vec_len}
use Rattle.binlog_values.specs.JsonbValues.{nested}
use Rattle.binlog_values.specs.JsonbTrees.{Branches}
use Rattle.binlog_values.specs.JsonbDocuments.{document_of}
use Rattle.binlog_values.specs.Workings.JsonbVisits.{visit}
use Rattle.binlog_values.specs.JsonbContainers.{frame}
use Rattle.binlog_values.specs.Workings.JsonbStack.{Wait}
use Rattle.binlog_values.proofs.JsonbStacked.{Turn}
use Rattle.binlog_values.proofs.jsonb.stack.read_container.Given as goal

abbrev pub invariant-loop-current : goal.invariant-loop-current
invariant-loop-current g l =
    (ws : List Wait) × (front : Branches)
    × Turn g.C.Collect.IsOf l.limit l.counter l.waiting.items ws (frame l.current.container) l.current.pos front (visit l.limit 100 l.initial.counter (document_of (Ok (nested (frame l.fn.root)))))
    × g.C.Collect.IsOf l.current.collected (frame l.current.container) front
    × (l.counter ≤ l.limit)
    × (vec_len l.waiting ≤ 99)

abbrev pub decreases-loop-current : goal.decreases-loop-current
decreases-loop-current g l = 2 * (l.limit + 1 - l.counter) + vec_len l.waiting
