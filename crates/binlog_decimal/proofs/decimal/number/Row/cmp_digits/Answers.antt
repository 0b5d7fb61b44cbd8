use Rattle.std.proofs.Common.{sym, ◌∙◌}
use Rattle.binlog_decimal.proofs.DecimalComparing.{rows_digits, then_as, then_first, then_second}
use Rattle.binlog_decimal.proofs.decimal.number.Row.cmp_digits.Goals as goal

pub returns-in-Equal : goal.returns-in-Equal
returns-in-Equal c =
    let one = c.requires.0 in
    let other = c.requires.1 in
    c.cmp-in-Equal.ensures
    ∙ then_second _ _ (sym c.cmp.ensures ∙ c.in-Equal.is)
    ∙ rows_digits c.args.self.now.before c.args.self.now.after c.args.other.now.before c.args.other.now.after (one.before_long ∙ sym other.before_long) (one.after_long ∙ sym other.after_long) one.before one.after other.before other.after

pub returns-in_default : goal.returns-in_default
returns-in_default c =
    let one = c.requires.0 in
    let other = c.requires.1 in
    then_first c.cmp.result _ c.in_default.not-Equal
    ∙ then_as _ _ _ c.cmp.ensures
    ∙ rows_digits c.args.self.now.before c.args.self.now.after c.args.other.now.before c.args.other.now.after (one.before_long ∙ sym other.before_long) (one.after_long ∙ sym other.after_long) one.before one.after other.before other.after
