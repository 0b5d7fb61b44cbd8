use Rattle.std.proofs.Common.{◌∙◌}
use Rattle.binlog_decimal.proofs.DecimalComparing.{less_row, greater_row, plus_row}
use Rattle.binlog_decimal.proofs.decimal.number.Row.cmp_number.Goals as goal

pub returns-in-true-false : goal.returns-in-true-false
returns-in-true-false c =
    less_row c.args.self.now.negative c.args.other.now.negative c.args.self.now.before c.args.self.now.after c.args.other.now.before c.args.other.now.after c.in-true-false.ensures c.in-true-false.ensures'

pub returns-in-false-true : goal.returns-in-false-true
returns-in-false-true c =
    greater_row c.args.self.now.negative c.args.other.now.negative c.args.self.now.before c.args.self.now.after c.args.other.now.before c.args.other.now.after c.in-false-true.ensures c.in-false-true.ensures'

pub returns-in-false-false : goal.returns-in-false-false
returns-in-false-false c =
    c.cmp_digits-in-false-false.ensures
    ∙ plus_row c.args.self.now.negative c.args.other.now.negative c.args.self.now.before c.args.self.now.after c.args.other.now.before c.args.other.now.after c.in-false-false.ensures c.in-false-false.ensures'
