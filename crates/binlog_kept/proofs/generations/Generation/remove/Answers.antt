use Rattle.std.proofs.Common.{arith, sym}
use Rattle.binlog_kept.proofs.Bytes.{bytes_fewer}
use Rattle.binlog_kept.proofs.generations.Generation.remove.Goals as goal

pub overflow_sub-self : goal.overflow_sub-self
overflow_sub-self g c =
    let e = c.remove.ensures in
    let held = bytes_fewer g.T.Weighed.weight _ _ c.args.key c.in_ok-removed.removed c.remove.result e.entries e.value c.in_ok-removed.was in omega (arith, c.self.invariant, c.weight.ensures, held)

pub invariant_of-self-2 : goal.invariant_of-self-2
invariant_of-self-2 g c =
    let e = c.remove.ensures in
    let held = bytes_fewer g.T.Weighed.weight _ _ c.args.key c.in_ok-removed.removed c.remove.result e.entries e.value c.in_ok-removed.was in omega (arith, c.self.invariant, c.weight.ensures, held)

pub returns-clause-bytes : goal.returns-clause-bytes
returns-clause-bytes g c =
    let e = c.remove.ensures in
    let held = bytes_fewer g.T.Weighed.weight _ _ c.args.key c.in_ok-removed.removed c.remove.result e.entries e.value c.in_ok-removed.was in rw (sym c.self.view_is) (omega (arith, c.self.invariant, c.weight.ensures, held))
