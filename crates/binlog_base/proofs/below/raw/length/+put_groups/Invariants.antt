use Rattle.binlog_base.proofs.below.raw.length.+put_groups.Given as goal

abbrev pub decreases-put_groups : goal.decreases-put_groups
decreases-put_groups l = l.most
