use Rattle.std.proofs.Common.{◌≡◌, ◌+◌, ◌≤◌}
use Rattle.binlog_kept.specs.Kept.{HasRoom, bytes_held, count_of}
use Rattle.binlog_kept.specs.Kept as Spec
use Rattle.binlog_kept.proofs.generations.Generations.give_up.Given as goal

abbrev pub invariant-loop-self : goal.invariant-loop-self
invariant-loop-self g l =
    Spec.NoMore l.fn.self l.self × (HasRoom g.T.Weighed.weight l.fn.self l.fn.weight → Spec.Stays l.fn.self l.self) × (l.self.most ≡ l.fn.self.most)
    × (l.self.notes ≡ l.fn.self.notes)
    × (bytes_held g.T.Weighed.weight l.fn.self.younger + l.fn.weight ≤ l.fn.self.most → l.self.younger ≡ l.fn.self.younger)

abbrev pub decreases-loop-self : goal.decreases-loop-self
decreases-loop-self g l = count_of l.self
