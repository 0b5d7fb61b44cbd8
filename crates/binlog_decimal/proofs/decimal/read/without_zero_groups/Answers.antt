use Rattle.binlog_decimal.proofs.DecimalSteps.{trim-stop, trim-start, trim-here, trim-step, trim-end}
use Rattle.std.proofs.Common.{◌∙◌, sym, arith}
use Rattle.binlog_decimal.proofs.decimal.read.without_zero_groups.Goals as goal

pub returns-then-not-all_zeros : goal.returns-then-not-all_zeros
returns-then-not-all_zeros c = trim-stop c.args.digits.now c.split_at.result.0.now c.all_zeros.result c.split_at.ensures.front c.all_zeros.ensures c.if-not-all_zeros.true

pub loop-left-init : goal.loop-left-init
loop-left-init c =
    let h = trim-start c.args.digits.now c.split_at.result.0.now c.split_at.result.1.now c.all_zeros.result c.split_at.ensures.front c.split_at.ensures.back c.all_zeros.ensures c.if-not-all_zeros.false in
    record { whole = h.0; same = h.1 }

pub returns-then-not-all_zeros-2 : goal.returns-then-not-all_zeros-2
returns-then-not-all_zeros-2 c =
    sym (trim-here c.loop-left.left.now c.split_at-in-loop-left.result.0.now c.all_zeros-in-loop-left.result (omega arith) c.split_at-in-loop-left.ensures.front c.all_zeros-in-loop-left.ensures c.if-not-all_zeros-2.true)
    ∙ c.loop-left.invariant.same

pub loop-left-preserved : goal.loop-left-preserved
loop-left-preserved c =
    let h = trim-step c.loop-left.left.now c.split_at-in-loop-left.result.0.now c.split_at-in-loop-left.result.1.now c.all_zeros-in-loop-left.result (omega arith) c.loop-left.invariant.whole c.split_at-in-loop-left.ensures.front c.split_at-in-loop-left.ensures.back c.all_zeros-in-loop-left.ensures c.if-not-all_zeros-2.false in
    record { whole = h.0; same = h.1 ∙ c.loop-left.invariant.same }

pub returns : goal.returns
returns c = sym (trim-end c.loop-left.left.now c.loop-left.invariant.whole (omega arith)) ∙ c.loop-left.invariant.same
