use Rattle.std.proofs.Common.{◌≤◌, length, arith}
use Rattle.table_schema.specs.Search.{target_of}
use Rattle.table_schema.proofs.Halving.{placed, low_of, high_of, met}
use Rattle.table_schema.proofs.search.search.Goals as goal

pub loop-low-preserved-in-Some : goal.loop-low-preserved-in-Some
loop-low-preserved-in-Some c =
    let target = target_of c.args.target.now in
    let text = c.args.text.now in
    let start = c.line_start-start.result in
    let l = rw c.in-Some.is at c.in_ok-end.ensures.lower in
    let w = rw c.in-Some.is at c.in_ok-end.ensures.within in
    let in' : start ≤ length text = omega arith in
    record {
      low = low_of target text start c.in-Some.end c.split_at.result.1.now c.split_at.ensures.back (placed target text c.loop-low.low start c.loop-low.invariant.low c.line_start-start.ensures.low in' c.line_start-start.ensures.start) l;
      high = c.loop-low.invariant.high;
      low_in = omega (arith, w.1, c.split_at.ensures.back_len);
      high_in = c.loop-low.invariant.high_in;
    }

pub loop-low-preserved : goal.loop-low-preserved
loop-low-preserved c =
    let target = target_of c.args.target.now in
    let text = c.args.text.now in
    let start = c.line_start-start.result in
    let o = rw c.in-None.is at c.in_ok-end.ensures.other in
    let in' : start ≤ length text = omega arith in
    record {
      low = c.loop-low.invariant.low;
      high = high_of target text start c.split_at.result.1.now c.split_at.ensures.back (placed target text c.loop-low.low start c.loop-low.invariant.low c.line_start-start.ensures.low in' c.line_start-start.ensures.start) o;
      low_in = c.loop-low.invariant.low_in;
      high_in = in';
    }

pub returns-clause-place : goal.returns-clause-place
returns-clause-place c p h = met (target_of c.args.target.now) c.args.text.now c.loop-low.low c.loop-low.high p c.loop-low.invariant.low c.loop-low.invariant.high c.loop-low-test.false h
