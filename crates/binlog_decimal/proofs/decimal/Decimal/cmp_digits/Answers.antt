use Rattle.std.proofs.Common.{◌∙◌, true, false}
use Rattle.binlog_decimal.proofs.DecimalOrders.{compared_by_digits}
use Rattle.binlog_decimal.proofs.decimal.Decimal.cmp_digits.Goals as goal

pub returns-else-other : goal.returns-else-other
returns-else-other c =
    let a = c.self.inside in
    let b = c.other.inside in
    c.cmp.ensures ∙ compared_by_digits false false a.negative b.negative a.before b.before a.digits.items b.digits.items c.args.self.now c.args.other.now c.self.view_is c.other.view_is c.self.invariant.1 c.other.invariant.1 c.requires.before c.requires.after c.if-not-self.true c.if-other.false

pub returns-then-other : goal.returns-then-other
returns-then-other c =
    let a = c.self.inside in
    let b = c.other.inside in
    compared_by_digits false true a.negative b.negative a.before b.before a.digits.items b.digits.items c.args.self.now c.args.other.now c.self.view_is c.other.view_is c.self.invariant.1 c.other.invariant.1 c.requires.before c.requires.after c.if-not-self.true c.if-other.true

pub returns-then-other-2 : goal.returns-then-other-2
returns-then-other-2 c =
    let a = c.self.inside in
    let b = c.other.inside in
    c.cmp-then-other-2.ensures ∙ compared_by_digits true true a.negative b.negative a.before b.before a.digits.items b.digits.items c.args.self.now c.args.other.now c.self.view_is c.other.view_is c.self.invariant.1 c.other.invariant.1 c.requires.before c.requires.after c.if-not-self.false c.if-other-2.true

pub returns-else-other-2 : goal.returns-else-other-2
returns-else-other-2 c =
    let a = c.self.inside in
    let b = c.other.inside in
    compared_by_digits true false a.negative b.negative a.before b.before a.digits.items b.digits.items c.args.self.now c.args.other.now c.self.view_is c.other.view_is c.self.invariant.1 c.other.invariant.1 c.requires.before c.requires.after c.if-not-self.false c.if-other-2.false
