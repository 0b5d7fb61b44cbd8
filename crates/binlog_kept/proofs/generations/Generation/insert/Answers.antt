use Rattle.std.proofs.Common.{arith, sym}
use Rattle.binlog_kept.proofs.Bytes.{bytes_replaced, bytes_more}
use Rattle.binlog_kept.proofs.generations.Generation.insert.Goals as goal

pub overflow_sub-self : goal.overflow_sub-self
overflow_sub-self g c =
    let e = c.in_ok-replaced.ensures in
    let held = bytes_replaced g.T.Weighed.weight _ _ c.args.key c.args.value c.in-Some.replaced c.in_ok-replaced.replaced e.was_ordered e.entries e.old c.in-Some.is in omega (arith, c.self.invariant, c.weight.ensures, c.weight-weight.ensures, held)

pub invariant_of-self-in-Some : goal.invariant_of-self-in-Some
invariant_of-self-in-Some g c =
    let e = c.in_ok-replaced.ensures in
    let held = bytes_replaced g.T.Weighed.weight _ _ c.args.key c.args.value c.in-Some.replaced c.in_ok-replaced.replaced e.was_ordered e.entries e.old c.in-Some.is in omega (arith, c.self.invariant, c.weight.ensures, c.weight-weight.ensures, held)

pub invariant_of-self-in_default : goal.invariant_of-self-in_default
invariant_of-self-in_default g c =
    let e = c.in_ok-replaced.ensures in
    let held = bytes_more g.T.Weighed.weight _ _ c.args.key c.args.value c.in_ok-replaced.replaced e.was_ordered e.entries e.old c.in_default.is in omega (arith, c.self.invariant, c.weight-weight.ensures, held)

pub returns-in-Some-clause-bytes : goal.returns-in-Some-clause-bytes
returns-in-Some-clause-bytes g c =
    let e = c.in_ok-replaced.ensures in
    let held = bytes_replaced g.T.Weighed.weight _ _ c.args.key c.args.value c.in-Some.replaced c.in_ok-replaced.replaced e.was_ordered e.entries e.old c.in-Some.is in rw (sym c.self.view_is) (omega (arith, c.self.invariant, c.weight.ensures, c.weight-weight.ensures, held))

pub returns-in_default-clause-bytes : goal.returns-in_default-clause-bytes
returns-in_default-clause-bytes g c =
    let e = c.in_ok-replaced.ensures in
    let held = bytes_more g.T.Weighed.weight _ _ c.args.key c.args.value c.in_ok-replaced.replaced e.was_ordered e.entries e.old c.in_default.is in rw (sym c.self.view_is) (omega (arith, c.self.invariant, c.weight-weight.ensures, held))
