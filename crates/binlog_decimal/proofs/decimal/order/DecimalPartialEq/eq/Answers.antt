use Rattle.std.proofs.Common.{sym, ap, ◌∙◌}
use Rattle.std.specs.Ordering.{is_eq}
use Rattle.std.specs.Cmp.Lexicographic.{texts_ties}
use Rattle.binlog_decimal.specs.Decimals.{packed_bytes}
use Rattle.binlog_decimal.proofs.decimal.order.DecimalPartialEq.eq.Goals as goal

pub returns : goal.returns
returns c = c.is_eq.ensures ∙ ap is_eq c.cmp.ensures ∙ sym (texts_ties (packed_bytes c.args.self.now) (packed_bytes c.args.other.now))
