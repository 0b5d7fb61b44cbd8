use Rattle.std.proofs.Common.{◌∙◌}
use Rattle.std.specs.Bool.{beq}
use Rattle.std.specs.Cmp.Lexicographic.{pointwise}
use Rattle.binlog_base.proofs.BitLists.{eq_of_bits}
use Rattle.binlog_base.proofs.bits.view.BitViewPartialEq.eq.Goals as goal

pub returns : goal.returns
returns c =
    eq_of_bits c.iter.result c.iter-2.result c.eq.result c.eq.ensures.ran
    ∙ (λ i. pointwise beq (c.iter.ensures i) (c.iter-2.ensures i))
