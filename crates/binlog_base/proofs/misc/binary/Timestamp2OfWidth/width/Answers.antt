use Rattle.std.proofs.Common.{ℕ, ◌+◌, sym, subst}
use Rattle.binlog_base.specs.PackedTimes.{timestamp2}
use Rattle.binlog_base.specs.Widths.{IsOfWidth}
use Rattle.binlog_base.specs.Lemmas.Widths.{timestamp2_of_width}
use Rattle.binlog_base.proofs.misc.binary.Timestamp2OfWidth.width.Goals as goal

pub returns-clause-width : goal.returns-clause-width
returns-clause-width c = subst (λ (n : ℕ). IsOfWidth (4 + n) (timestamp2 c.args.dec)) (sym c.fraction_width.ensures.value) (timestamp2_of_width c.args.dec)
