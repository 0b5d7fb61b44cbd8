use Rattle.binlog_file.specs.Changes.{most_left}
use Rattle.binlog_file.specs.Workings.Walks.{spot_of}
use Rattle.binlog_count_lent.proofs.lent.add_file.Given as goal

abbrev pub decreases-loop-pair : goal.decreases-loop-pair
decreases-loop-pair l = most_left (spot_of l.changes.walk)
