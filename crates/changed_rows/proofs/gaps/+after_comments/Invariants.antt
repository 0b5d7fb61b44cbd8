use Rattle.changed_rows.proofs.gaps.+after_comments.Given as goal

abbrev pub decreases-after_comments : goal.decreases-after_comments
decreases-after_comments l = l.count
