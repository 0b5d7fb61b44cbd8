use Rattle.std.proofs.Common.{ap₂, ◌∙◌}
use Rattle.std.specs.Cmp.Lexicographic.{pointwise}
use Rattle.binlog_values.specs.JsonEquality.{same_diff}
use Rattle.binlog_values.proofs.LentDocuments.{eq_of_diffs}
use Rattle.binlog_values.proofs.documents.LentDiffsPartialEq.eq.Goals as goal

pub returns : goal.returns
returns c =
    eq_of_diffs c.iter.result c.iter-2.result c.eq.result c.eq.ensures.ran
    ∙ ap₂ (pointwise same_diff) c.iter.ensures c.iter-2.ensures
