use Rattle.binlog_file.specs.ItemsLeft.{left}
use Rattle.binlog_count_lent.proofs.lent.add_source.Given as goal

abbrev pub decreases-loop-buffer : goal.decreases-loop-buffer
decreases-loop-buffer g l = left l.changes
