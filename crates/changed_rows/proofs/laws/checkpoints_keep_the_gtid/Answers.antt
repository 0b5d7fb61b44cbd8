use Rattle.changed_rows.proofs.GtidsKept.{gtid_kept}
use Rattle.changed_rows.proofs.laws.checkpoints_keep_the_gtid.Goals as goal

pub returns : goal.returns
returns c = gtid_kept
